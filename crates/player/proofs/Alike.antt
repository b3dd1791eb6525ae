-- Columns that are alike are the same.
use Rattle.std.proofs.Common.{◌≡◌, ℕ, Bool, true, false, ◌&&◌, List, [], ◌∷◌, Decides, sym, refl, arith}
use Rattle.std.proofs.lemmas.Bool.{and_from, both_ways}
use Rattle.values.specs.declared.scalar.ValueType.{ValueType}
use Rattle.sheet.proofs.Matching.{type_is, type_same}
use Rattle.sheet.specs.Cells.{same_type}
use Rattle.player.specs.Calls.{alike}

pub alike_same : (ts us : List ValueType) → ts ≡ us → alike ts us ≡ true
alike_same [] [] e = refl
alike_same [] (u ∷ us) e = let z : ◌≡◌ {A = ℕ} 0 1 = cc in absurd (omega arith)
alike_same (t ∷ ts) [] e = let z : ◌≡◌ {A = ℕ} 0 1 = cc in absurd (omega arith)
alike_same (t ∷ ts) (u ∷ us) e =
    let head : t ≡ u = cc in
    let tail : ts ≡ us = cc in
    and_from (same_type t u) (alike ts us) (type_same t u head) (alike_same ts us tail)

split : (a b : Bool) → (a && b) ≡ true → (a ≡ true) × (b ≡ true)
split true b e = (refl, e)
split false b e = absurd (both_ways false refl e)

pub same_alike : (ts us : List ValueType) → alike ts us ≡ true → ts ≡ us
same_alike [] [] e = refl
same_alike [] (u ∷ us) e = absurd (both_ways false refl e)
same_alike (t ∷ ts) [] e = absurd (both_ways false refl e)
same_alike (t ∷ ts) (u ∷ us) e =
    let both = split (same_type t u) (alike ts us) e in
    let head : t ≡ u = type_is t u both.0 in
    let tail : ts ≡ us = same_alike ts us both.1 in
    cc

-- a test of the same is a test of being alike
pub decided : (r : Bool) (ts us : List ValueType) → Decides r (ts ≡ us) → r ≡ alike ts us
decided true ts us d = sym (alike_same ts us (d.0 refl))
decided false ts us d = go (alike ts us) refl
  where
    go : (b : Bool) → alike ts us ≡ b → false ≡ alike ts us
    go true e = absurd (both_ways false refl (d.1 (same_alike ts us e)))
    go false e = sym e
