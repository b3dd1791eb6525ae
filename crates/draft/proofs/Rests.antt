-- What is left to read of a file at each stage of the reader.
use Rattle.std.proofs.Common.{◌≡◌, ℕ, suc, ◌+◌, ◌-◌, ◌≤◌, cond, leb, List, [], ◌∷◌, ◌++◌, length, Ok, Err, Result, sym, refl, ap, ◌∙◌, append_assoc, append-nil, add_assoc, arith, le-leb}
use borrow.Author.Tests.{lt-leb}
use Rattle.std.proofs.lemmas.Bool.{cond-true, cond-false}
use Rattle.values.specs.declared.scalar.ValueType.{ValueType}
use Rattle.draft.specs.declared.fault.ReadFault.{ReadFault}
use Rattle.draft.specs.declared.fault.ReadFault.TheVariants.{LeftOver}
use Rattle.draft.specs.declared.record.Header.{Header}
use Rattle.draft.specs.Bits.{bits_of}
use Rattle.draft.specs.Format.{bind, read_all, size_all}
use Rattle.draft.specs.File.{BlockOf, DraftOf, header_format, columns_format, block_format, draft_format, draft_rest, to_draft, read_file}
use Rattle.draft.proofs.Binds.{bind_bind}

-- the draft, where nothing follows the bit q
abbrev pub ended : List ℕ → ℕ → List ValueType → List BlockOf → Result DraftOf ReadFault
ended file q cs bs = cond (leb (length file) q) (Ok (record { columns = cs; blocks = bs })) (Err (LeftOver q))

-- n blocks at p, after the columns cs and the blocks bs
abbrev pub blocks_from : List ℕ → ℕ → ℕ → List ValueType → List BlockOf → Result DraftOf ReadFault
blocks_from file n p cs bs = bind (read_all block_format n file p) (λ ys. ended file (p + size_all block_format p ys) cs (bs ++ ys))

abbrev pub columns_from : List ℕ → Header → ℕ → List ValueType → List BlockOf → Result DraftOf ReadFault
columns_from file h p cs bs = bind ((columns_format h.columns).read file p) (λ xs. blocks_from file h.blocks (p + (columns_format h.columns).size p xs) (cs ++ xs) bs)

abbrev pub header_from : List ℕ → ℕ → List ValueType → List BlockOf → Result DraftOf ReadFault
header_from file p cs bs = bind (header_format.read file p) (λ h. columns_from file h (p + header_format.size p h) cs bs)

abbrev whole : List ℕ → Result DraftOf ReadFault → Result DraftOf ReadFault
whole file r = bind r (λ d. cond (leb (length file) (draft_format.size 0 d)) (Ok d) (Err (LeftOver (draft_format.size 0 d))))

blocks_whole : (file : List ℕ) (h : Header) (cs : List ValueType) (r : Result (List BlockOf) ReadFault) → whole file (bind (bind (bind r (λ b. Ok (cs, b))) (λ b. Ok (h, b))) (λ x. Ok (to_draft x))) ≡ bind r (λ ys. ended file (24 + (columns_format h.columns).size 24 cs + size_all block_format (24 + (columns_format h.columns).size 24 cs) ys) cs ys)
blocks_whole file h cs (Err e) = refl
blocks_whole file h cs (Ok ys) =
    let k = (columns_format h.columns).size 24 cs in
    ap (λ q. ended file q cs ys) (sym (add_assoc 24 k (size_all block_format (24 + k) ys)))

columns_whole : (file : List ℕ) (h : Header) (r : Result (List ValueType) ReadFault) → whole file (bind (bind (bind r (λ a. bind (read_all block_format h.blocks file (24 + (columns_format h.columns).size 24 a)) (λ b. Ok (a, b)))) (λ b. Ok (h, b))) (λ x. Ok (to_draft x))) ≡ bind r (λ cs. blocks_from file h.blocks (24 + (columns_format h.columns).size 24 cs) cs [])
columns_whole file h (Err e) = refl
columns_whole file h (Ok cs) = blocks_whole file h cs (read_all block_format h.blocks file (24 + (columns_format h.columns).size 24 cs))

header_whole : (file : List ℕ) (r : Result Header ReadFault) → whole file (bind (bind r (λ h. bind ((draft_rest h).read file 24) (λ b. Ok (h, b)))) (λ x. Ok (to_draft x))) ≡ bind r (λ h. columns_from file h 24 [] [])
header_whole file (Err e) = refl
header_whole file (Ok h) = columns_whole file h ((columns_format h.columns).read file 24)

pub from_start : (bytes : List ℕ) → read_file bytes ≡ header_from (bits_of bytes) 0 [] []
from_start bytes = header_whole (bits_of bytes) (header_format.read (bits_of bytes) 0)

module _ (file : List ℕ) (p : ℕ) where
  pub header_more : (cs : List ValueType) (bs : List BlockOf) (h : Header) → header_format.read file p ≡ Ok h → header_from file p cs bs ≡ columns_from file h (p + header_format.size p h) cs bs
  header_more cs bs h e = ap (λ r. bind r (λ x. columns_from file x (p + header_format.size p x) cs bs)) e

  pub header_fails : (cs : List ValueType) (bs : List BlockOf) (f : ReadFault) → header_format.read file p ≡ Err f → header_from file p cs bs ≡ Err f
  header_fails cs bs f e = ap (λ r. bind r (λ x. columns_from file x (p + header_format.size p x) cs bs)) e

  pub columns_more : (h : Header) (cs : List ValueType) (bs : List BlockOf) (xs : List ValueType) → (columns_format h.columns).read file p ≡ Ok xs → columns_from file h p cs bs ≡ blocks_from file h.blocks (p + (columns_format h.columns).size p xs) (cs ++ xs) bs
  columns_more h cs bs xs e = ap (λ r. bind r (λ x. blocks_from file h.blocks (p + (columns_format h.columns).size p x) (cs ++ x) bs)) e

  pub columns_fail : (h : Header) (cs : List ValueType) (bs : List BlockOf) (f : ReadFault) → (columns_format h.columns).read file p ≡ Err f → columns_from file h p cs bs ≡ Err f
  columns_fail h cs bs f e = ap (λ r. bind r (λ x. blocks_from file h.blocks (p + (columns_format h.columns).size p x) (cs ++ x) bs)) e

  module _ (cs : List ValueType) (bs : List BlockOf) where
    abbrev first : ℕ → Result BlockOf ReadFault → Result DraftOf ReadFault
    first n r = bind (bind r (λ x. bind (read_all block_format n file (p + block_format.size p x)) (λ xs. Ok (x ∷ xs)))) (λ ys. ended file (p + size_all block_format p ys) cs (bs ++ ys))

    pub block_more : (n : ℕ) (b : BlockOf) → 1 ≤ n → block_format.read file p ≡ Ok b → blocks_from file n p cs bs ≡ blocks_from file (n - 1) (p + block_format.size p b) cs (bs ++ b ∷ [])
    block_more n b h e =
        let q = p + block_format.size p b in
        let one : suc (n - 1) ≡ n = omega arith in
        ap (λ m. blocks_from file m p cs bs) (sym one) ∙ ap (first (n - 1)) e
        ∙ bind_bind (read_all block_format (n - 1) file q) (λ xs. Ok (b ∷ xs)) (λ ys. ended file (p + size_all block_format p ys) cs (bs ++ ys))
        ∙ ap (bind (read_all block_format (n - 1) file q)) (λ i ys. ended file (sym (add_assoc p (block_format.size p b) (size_all block_format q ys)) i) cs (sym (append_assoc bs (b ∷ []) ys) i))

    pub block_fails : (n : ℕ) (f : ReadFault) → 1 ≤ n → block_format.read file p ≡ Err f → blocks_from file n p cs bs ≡ Err f
    block_fails n f h e =
        let one : suc (n - 1) ≡ n = omega arith in
        ap (λ m. blocks_from file m p cs bs) (sym one) ∙ ap (first (n - 1)) e

    at_end : blocks_from file 0 p cs bs ≡ ended file p cs bs
    at_end = let same : p + 0 ≡ p = omega arith in λ i. ended file (same i) cs (append-nil bs i)

    pub blocks_end : (n : ℕ) → n ≡ 0 → length file ≤ p → blocks_from file n p cs bs ≡ Ok (record { columns = cs; blocks = bs })
    blocks_end n e h = ap (λ m. blocks_from file m p cs bs) e ∙ at_end ∙ cond-true (leb (length file) p) _ _ (le-leb (length file) p h)

    pub blocks_over : (n : ℕ) → n ≡ 0 → suc p ≤ length file → blocks_from file n p cs bs ≡ Err (LeftOver p)
    blocks_over n e h = ap (λ m. blocks_from file m p cs bs) e ∙ at_end ∙ cond-false (leb (length file) p) _ _ (lt-leb (length file) p h)
