-- A draft is written part by part, and its file is whole bytes.
use Rattle.std.proofs.Common.{◌≡◌, ℕ, ◌+◌, ◌%◌, ◌<◌, ◌≤◌, List, [], ◌∷◌, ◌++◌, length, take, drop, IfOk, Ok, Err, Result, sym, ap, ◌∙◌, subst, arith, MatchResult}
use Rattle.std.proofs.lemmas.List.{take_at, drop_at}
use Rattle.faults.specs.declared.fault.Fault.{Fault}
use Rattle.faults.specs.declared.fault.Fault.TheVariants.{OutputShort}
use Rattle.packed.specs.Written.{Written, Rewritten}
use Rattle.values.specs.declared.scalar.ValueType.{ValueType}
use Rattle.draft.specs.declared.record.Header.{Header}
use Rattle.draft.specs.Format.{times, size_all}
use Rattle.draft.specs.File.{BlockOf, DraftOf, gap, type_format, padding_format, source_format, param_format, header_format, columns_format, block_format, draft_rest, draft_format, FileOf, Writable, read_file}
use Rattle.packed.specs.Appends.{Appends}
use Rattle.draft.proofs.BitLaws.{length_bits_of}
use Rattle.draft.proofs.Blocks.{size_all_names}
use Rattle.draft.proofs.Loops.{size_all_zeros}
use Rattle.draft.proofs.FileLaws.{header_exact, columns_exact}
use Rattle.std.specs.List.{AllByRecursion as All}
use Rattle.std.proofs.ByRecursion.{All-take}
use Rattle.draft.proofs.RoundTrip.{reads_written, writes_read, one_file}
use Rattle.packed.proofs.Appending.{appends_then}

pub draft_written : (cs : List ValueType) (bs : List BlockOf) (x y z w : List ℕ) (h : Header) → h ≡ record { columns = length cs; blocks = length bs } → Appends header_format h x y → Appends (columns_format (length cs)) cs y z → Appends (times (length bs) block_format) bs z w → Appends draft_format (record { columns = cs; blocks = bs }) x w
draft_written cs bs x y z w h e a b d =
    let k : Header = record { columns = length cs; blocks = length bs } in
    let body = appends_then (columns_format (length cs)) (λ _. times (length bs) block_format) (columns_exact (length cs)) cs bs y z w b d in
    appends_then header_format draft_rest header_exact k (cs, bs) x y w (subst (λ g. Appends header_format g x y) e a) body

-- after the zero bits stands a whole byte
whole_padding : (q : ℕ) → (q + padding_format.size q tt) % 8 ≡ 0
whole_padding q = ap (λ n. (q + n) % 8) (size_all_zeros q (gap q)) ∙ omega arith

whole_block : (p : ℕ) (b : BlockOf) → (p + block_format.size p b) % 8 ≡ 0
whole_block p b =
    let q2 = p + 16 + size_all source_format (p + 16) b.sources in
    let q3 = q2 + size_all param_format q2 b.params in
    let q4 = q3 + padding_format.size q3 tt in
    omega (arith, whole_padding q3, size_all_names q4 b.name)

whole_blocks : (p : ℕ) (bs : List BlockOf) → p % 8 ≡ 0 → (p + size_all block_format p bs) % 8 ≡ 0
whole_blocks p [] h = omega arith
whole_blocks p (b ∷ bs) h =
    let q = p + block_format.size p b in
    omega (arith, whole_blocks q bs (whole_block p b))

pub whole_draft : (d : DraftOf) → draft_format.size 0 d % 8 ≡ 0
whole_draft d =
    let q = 24 + size_all type_format 24 d.columns in
    let p = 24 + (size_all type_format 24 d.columns + padding_format.size q tt) in
    let first : p % 8 ≡ 0 = omega (arith, whole_padding q) in
    omega (arith, whole_blocks p d.blocks first)

-- a file stands at the front of the memory, or the memory is shorter
pub delivered : (d : DraftOf) (file before after : List ℕ) (r : Result ℕ Fault) → FileOf d file → MatchResult r (λ n. (n ≡ length file) × (n ≤ length before) × (after ≡ file ++ drop n before)) (λ e. (e ≡ OutputShort) × (length before < length file) × (after ≡ before)) → Written d before after r
delivered d file before after (Ok n) f t =
    let first : take n after ≡ file = ap (take n) t.2 ∙ take_at file (drop n before) n (sym t.0) in
    let last : drop n after ≡ drop n before = ap (drop n) t.2 ∙ drop_at file (drop n before) n (sym t.0) in
    (omega (arith, t.0, ap length f, length_bits_of file), t.1, subst (FileOf d) (sym first) f, last)
delivered d file before after (Err e) f t = (t.0, omega (arith, t.1, ap length f, length_bits_of file), t.2)

pub reads_back : (d : DraftOf) (before after : List ℕ) (r : Result ℕ Fault) → Writable d → Written d before after r → IfOk r (λ n. read_file (take n after) ≡ Ok d)
reads_back d before after (Ok n) f w = reads_written d (take n after) f w.2
reads_back d before after (Err e) f w = tt

pub rewritten : (d : DraftOf) (before after : List ℕ) (r : Result ℕ Fault) → All (λ b. b < 256) after → Written d before after r → Rewritten d before after r
rewritten d before after (Ok n) b w file bytes h = one_file d (take n after) file (All-take (λ x. x < 256) n after b) bytes w.2 (writes_read d file h).1
rewritten d before after (Err e) b w file bytes h = omega (arith, w.1, ap length (writes_read d file h).1, length_bits_of file)
