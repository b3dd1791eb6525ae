-- A strict total order, as a test. Assumes nothing.
use Rattle.std.specs.Prelude.{◌≡◌, Bool, true, false, cond}
use Rattle.std.specs.declared.cmp.Ordering.{Ordering}
use Rattle.std.specs.declared.cmp.Ordering.TheVariants.{Less, Equal, Greater}

pub record TotalOrder {K : Type 0} (before : K → K → Bool) : Type 0 where
  pub irreflexive : (x : K) → before x x ≡ false
  pub transitive : (x y z : K) → before x y ≡ true → before y z ≡ true → before x z ≡ true
  pub connected : (x y : K) → before x y ≡ false → before y x ≡ false → x ≡ y

-- the order is total, and a comparison answers by it
pub record Orders {K : Type 0} (before : K → K → Bool) (cmp : K → K → Ordering) : Type 0 where
  pub total : TotalOrder before
  pub answers : (x y : K) → cmp x y ≡ cond (before x y) Less (cond (before y x) Greater Equal)
