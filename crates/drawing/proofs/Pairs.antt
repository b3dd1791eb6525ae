-- What holds of each block and its signature, the lists side by side.
use Rattle.std.proofs.Common.{◌≡◌, ℕ, zero, suc, List, [], ◌∷◌, length, Some, subst₂, arith}
use Rattle.std.specs.List.{slice_get}
use Rattle.blocks.specs.Library.{Library}
use Rattle.blocks.specs.declared.library.Signature.{Signature}
use Rattle.draft.specs.declared.draft.Block.{Block}
use Rattle.drawing.specs.Suits.{Fits, AllFit}

abbrev pub Pairs : (Block → Signature → Type 0) → List Block → List Signature → Type 0
Pairs P [] ss = Unit {0}
Pairs P (k ∷ bs) [] = Unit {0}
Pairs P (k ∷ bs) (s ∷ ss) = P k s × Pairs P bs ss

pub pairs_at : (P : Block → Signature → Type 0) (bs : List Block) (ss : List Signature) → Pairs P bs ss
    → (i : ℕ) (k : Block) (s : Signature) → slice_get bs i ≡ Some k → slice_get ss i ≡ Some s → P k s
pairs_at P [] ss h i k s at is = let z : ◌≡◌ {A = ℕ} 0 1 = cc in absurd (omega arith)
pairs_at P (l ∷ bs) [] h i k s at is = let z : ◌≡◌ {A = ℕ} 0 1 = cc in absurd (omega arith)
pairs_at P (l ∷ bs) (t ∷ ss) h zero k s at is = let same_k : l ≡ k = cc in let same_s : t ≡ s = cc in subst₂ P same_k same_s h.0
pairs_at P (l ∷ bs) (t ∷ ss) h (suc i) k s at is = pairs_at P bs ss h.1 i k s at is

pub pairs_fit : (L : Library) (bs : List Block) (ss : List Signature) → length ss ≡ length bs → Pairs (Fits L) bs ss → AllFit L bs ss
pairs_fit L bs ss same h = record { count = same; fit = pairs_at (Fits L) bs ss h }
