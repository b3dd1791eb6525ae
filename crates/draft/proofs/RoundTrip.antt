-- Files and drawings match both ways.
use Rattle.std.proofs.Common.{◌≡◌, ℕ, ◌-◌, ◌<◌, ◌≤◌, false, cond, leb, List, [], ◌∷◌, length, take, drop, Ok, Err, sym, refl, ap, ◌∙◌, subst, inl, inr, arith, le-leb, leb-false, leb-true}
use Rattle.std.specs.List.{AllByRecursion as All}
use Rattle.std.specs.Int.Digits.{number_from_digits as number_of}
use Rattle.std.proofs.lemmas.List.{take_all, length-take-le}
use Rattle.draft.specs.declared.fault.ReadFault.{ReadFault}
use Rattle.draft.specs.declared.fault.ReadFault.TheVariants.{LeftOver}
use Rattle.draft.specs.Bits.{bits_of}
use Rattle.draft.specs.Format.{bind}
use Rattle.draft.specs.File.{DraftOf, draft_format, read_file, Writable, ReadsWhatIsWritten, WritesWhatIsRead, OneFile}
use Rattle.draft.specs.Refused.{place_of, Shows, RefusalsTellTheFirstFault}
use Rattle.draft.specs.Drafts.{TheDraft}
use Rattle.draft.proofs.BitLaws.{under_bits_of, number_field}
use Rattle.draft.proofs.Binds.{bind_ok, bind_err, tested, failed}
use Rattle.draft.proofs.Whole.{draft_exact}

pub reads_written : ReadsWhatIsWritten
reads_written d bytes w e =
    let file = bits_of bytes in
    let bits = draft_format.bits 0 d in
    let read = draft_exact.whole file 0 d w (take_all (length bits) file (omega (arith, ap length e)) ∙ e) in
    let size : draft_format.size 0 d ≡ length file = sym (draft_exact.long 0 d) ∙ ap length (sym e) in
    ap (λ r. bind r (λ x. cond (leb (length file) (draft_format.size 0 x)) (Ok x) (Err (LeftOver (draft_format.size 0 x))))) read
    ∙ ap (λ t. cond t (Ok d) (Err (LeftOver (draft_format.size 0 d)))) (le-leb _ _ (omega arith))

pub writes_read : WritesWhatIsRead
writes_read d bytes h =
    let file = bits_of bytes in
    let r = bind_ok (draft_format.read file 0) _ d h in
    let t = tested (leb (length file) (draft_format.size 0 r.0)) r.0 d (LeftOver (draft_format.size 0 r.0)) r.2 in
    let s = subst (λ x. Writable x × (take (length (draft_format.bits 0 x)) file ≡ draft_format.bits 0 x)) t.1 (draft_exact.sound file 0 r.0 (under_bits_of bytes) r.1) in
    let size : length file ≤ draft_format.size 0 d = subst (λ x. length file ≤ draft_format.size 0 x) t.1 (leb-true _ _ t.0) in
    (s.0, sym (take_all (length (draft_format.bits 0 d)) file (omega (arith, draft_exact.long 0 d, size))) ∙ s.1)

pub the_draft : (bytes : List ℕ) (d : DraftOf) → read_file bytes ≡ Ok d → TheDraft bytes d
the_draft bytes d h = ((writes_read d bytes h).1, λ x w f. let r = reads_written x bytes w f in cc)

-- a byte is the number in its eight bits
pub same_bytes : (b c : List ℕ) → All (λ x. x < 256) b → All (λ x. x < 256) c → bits_of b ≡ bits_of c → b ≡ c
unfolding bits_of
same_bytes [] [] p q e = refl
same_bytes [] (y ∷ c) p q e = absurd (omega (arith, ap length e))
same_bytes (x ∷ b) [] p q e = absurd (omega (arith, ap length e))
same_bytes (x ∷ b) (y ∷ c) p q e =
    let byte : x ≡ y = sym (number_field 8 x p.0) ∙ ap (λ l. number_of 2 (take 8 l)) e ∙ number_field 8 y q.0 in
    let rest = same_bytes b c p.1 q.1 (ap (drop 8) e) in
    λ i. byte i ∷ rest i

pub one_file : OneFile
one_file d b c p q e f = same_bytes b c p q (e ∙ sym f)

-- the fault shows at its place, and up to there the file is the front of a draft's
abbrev Found : List ℕ → ReadFault → Type 0
Found file e = (place_of e ≤ length file) × ((d : DraftOf) × Writable d × (take (place_of e) file ≡ take (place_of e) (draft_format.bits 0 d))) × Shows file e

in_field : (bytes : List ℕ) (e : ReadFault) → draft_format.read (bits_of bytes) 0 ≡ Err e → Found (bits_of bytes) e
in_field bytes e h =
    let r = draft_exact.first (bits_of bytes) 0 e (under_bits_of bytes) (omega arith) h in
    let p = place_of e in
    let bits = draft_format.bits 0 r.other in
    let front : length (take (p - 0) bits) ≡ p = length-take-le (p - 0) bits (omega (arith, r.near, draft_exact.long 0 r.other)) ∙ omega arith in
    let whole : p - 0 ≡ p = omega arith in
    (r.within, (r.other, r.fits, ap (λ n. take n (bits_of bytes)) (sym front) ∙ r.stands ∙ ap (λ n. take n bits) whole), r.shows)

past_end : (bytes : List ℕ) (d : DraftOf) → draft_format.read (bits_of bytes) 0 ≡ Ok d → leb (length (bits_of bytes)) (draft_format.size 0 d) ≡ false → Found (bits_of bytes) (LeftOver (draft_format.size 0 d))
past_end bytes d h t =
    let file = bits_of bytes in
    let bits = draft_format.bits 0 d in
    let s = draft_exact.sound file 0 d (under_bits_of bytes) h in
    let more = leb-false (length file) (draft_format.size 0 d) t in
    let size = draft_exact.long 0 d in
    (omega arith, (d, s.0, ap (λ n. take n file) (sym size) ∙ s.1 ∙ sym (take_all (draft_format.size 0 d) bits (omega arith))), more)

pub first_fault : RefusalsTellTheFirstFault
first_fault bytes e h =
    let file = bits_of bytes in
    let found : Found file e =
    elim (bind_err (draft_format.read file 0) _ e h) [
      | inl c ↦ in_field bytes e c
      | inr c ↦
          let t = failed (leb (length file) (draft_format.size 0 c.0)) c.0 (LeftOver (draft_format.size 0 c.0)) e c.2 in
          subst (Found file) t.1 (past_end bytes c.0 c.1 t.0)
    ] in
    record {
      none = λ d w f. let z : ◌≡◌ {A = ℕ} 0 1 = cc (h, reads_written d bytes w f) in omega arith;
      within = found.0;
      front = found.1;
      shows = found.2;
    }
