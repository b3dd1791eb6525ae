-- The test that a library fits a drawing: every block with its signature.
use Rattle.std.proofs.Common.{◌≡◌, ℕ, zero, suc, ◌<◌, Bool, true, false, List, [], ◌∷◌, length, Some, vec_items, Decides, sym, refl, ap, subst, arith}
use borrow.Author.Tests.{both_ways}
use Rattle.std.specs.Bool.{MatchBool}
use Rattle.std.specs.List.{AllWithin, HoldsAt, slice_get, zip}
use Rattle.std.proofs.lemmas.Option.{get_or_from_slice_get}
use Rattle.blocks.specs.Library.{Library}
use Rattle.blocks.specs.declared.library.Signature.{Signature}
use Rattle.draft.specs.declared.draft.Block.{Block}
use Rattle.drawing.proofs.Rounds.{nth_there, nth_in}
use Rattle.walk.specs.Cycle.{Fitting}

-- a block with its signature fits
abbrev pub FitsAt : Library → Block × Signature → Type 0
FitsAt L p = (L.signature p.0.kind ≡ Some p.1) × (L.lawful p.0.kind (vec_items p.0.params) ≡ true)

zip_at : (bs : List Block) (ss : List Signature) (i : ℕ) (b : Block) (s : Signature) → slice_get bs i ≡ Some b → slice_get ss i ≡ Some s → slice_get (zip bs ss) i ≡ Some (b, s)
zip_at [] ss i b s at is = let z : ◌≡◌ {A = ℕ} 0 1 = cc in absurd (omega arith)
zip_at (c ∷ bs) [] i b s at is = let z : ◌≡◌ {A = ℕ} 0 1 = cc in absurd (omega arith)
zip_at (c ∷ bs) (t ∷ ss) zero b s at is = let same_b : c ≡ b = cc in let same_s : t ≡ s = cc in cc
zip_at (c ∷ bs) (t ∷ ss) (suc i) b s at is = zip_at bs ss i b s at is

zip_parts : (bs : List Block) (ss : List Signature) (i : ℕ) (p : Block × Signature) → slice_get (zip bs ss) i ≡ Some p → (slice_get bs i ≡ Some p.0) × (slice_get ss i ≡ Some p.1)
zip_parts [] ss i p e = let z : ◌≡◌ {A = ℕ} 0 1 = cc in absurd (omega arith)
zip_parts (c ∷ bs) [] i p e = let z : ◌≡◌ {A = ℕ} 0 1 = cc in absurd (omega arith)
zip_parts (c ∷ bs) (t ∷ ss) zero p e = let same : ◌≡◌ {A = Block × Signature} (c, t) p = cc in (ap (λ (q : Block × Signature). Some q.0) same, ap (λ (q : Block × Signature). Some q.1) same)
zip_parts (c ∷ bs) (t ∷ ss) (suc i) p e = zip_parts bs ss i p e

module _ (L : Library) (bs : List Block) (ss : List Signature) (count : length ss ≡ length bs) where
  fits_one : AllWithin (FitsAt L) (zip bs ss) 0 (length (zip bs ss)) → (i : ℕ) (b : Block) (s : Signature) → slice_get bs i ≡ Some b → slice_get ss i ≡ Some s → FitsAt L (b, s)
  fits_one all i b s at is =
      let here = zip_at bs ss i b s at is in
      subst (FitsAt L) (get_or_from_slice_get (zip bs ss) i (b, s) (b, s) here) (all i (b, s) (omega arith) (nth_in (zip bs ss) i (b, s) here))

  fits_all : AllWithin (FitsAt L) (zip bs ss) 0 (length (zip bs ss)) → Fitting L bs ss
  fits_all all = record {
    signs = λ i b s at is. (fits_one all i b s at is).0;
    lawful = λ i b at. let s = nth_there ss i (omega (arith, count, nth_in bs i b at)) in (fits_one all i b s.0 at s.1).1;
  }

  fits_here : (i : ℕ) (p : Block × Signature) → slice_get (zip bs ss) i ≡ Some p → Fitting L bs ss → FitsAt L p
  fits_here i p e f = let h = zip_parts bs ss i p e in (f.signs i p.0 p.1 h.0 h.1, f.lawful i p.0 h.0)

  pub fits_decided : (r : Bool) → MatchBool r (AllWithin (FitsAt L) (zip bs ss) 0 (length (zip bs ss))) ((i : ℕ) × (i < length (zip bs ss)) × HoldsAt (λ p. FitsAt L p → ⊥) (zip bs ss) i) → Decides r (Fitting L bs ss)
  fits_decided true all = (λ _. fits_all all, λ _. refl)
  fits_decided false h =
      let x = nth_there (zip bs ss) h.0 h.1 in
      (λ e. absurd (both_ways _ refl e), λ f. absurd (h.2 x.0 (subst (FitsAt L) (sym (get_or_from_slice_get (zip bs ss) h.0 x.0 x.0 x.1)) (fits_here h.0 x.0 x.1 f))))
