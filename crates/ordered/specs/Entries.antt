-- Entries in the order of their keys, as a map from keys to values. Assumes nothing.
use Rattle.std.specs.Prelude.{◌≡◌, ℕ, ◌+◌, Bool, true, false, cond, not, ◌&&◌, ◌||◌, List, [], ◌∷◌, length, is_some, Some, None, filter, Option, nat_lt}
use Rattle.std.specs.List.{list_all}
use Rattle.ordered.specs.declared.entry.Entry.{Entry}

module _ {K : Type 0} (before : K → K → Bool) where
  -- neither key is before the other
  abbrev pub level : K → K → Bool
  level x y = not (before x y) && not (before y x)

  module _ {V : Type 0} where
    -- each key is before those after it
    abbrev pub ascending : List (Entry K V) → Bool
    ascending [] = true
    ascending (e ∷ es) = list_all (λ f. before e.key f.key) es && ascending es

    -- the value at a key
    abbrev pub at : List (Entry K V) → K → Option V
    at [] q = None
    at (e ∷ es) q = cond (level e.key q) (Some e.value) (at es q)

    -- r is the last entry at or before q
    abbrev pub Floor : List (Entry K V) → K → Option (Entry K V) → Type 0
    Floor es q None = (x : K) → before q x ≡ false → at es x ≡ None
    Floor es q (Some e) =
        (before q e.key ≡ false) × (at es e.key ≡ Some e.value)
        × ((x : K) → before e.key x ≡ true → before q x ≡ false → at es x ≡ None)

    -- of es, those at or before q are left
    pub record Cut (es fs : List (Entry K V)) (q : K) : Type 0 where
      pub left : fs ≡ filter (λ e. not (before q e.key)) es
      pub sorted : ascending fs ≡ true
      pub values : (x : K) → at fs x ≡ cond (before q x) None (at es x)

    -- fs is es with v at k, where k is there or es leaves room; else es
    pub record Placed (room : ℕ) (es fs : List (Entry K V)) (k : K) (v : V) (r : Bool) : Type 0 where
      pub answer : r ≡ is_some (at es k) || nat_lt (length es) room
      pub sorted : ascending fs ≡ true
      pub values : (x : K) → at fs x ≡ cond (r && level k x) (Some v) (at es x)
      pub size : length fs ≡ length es + cond (r && not (is_some (at es k))) 1 0
