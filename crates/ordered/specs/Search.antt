-- Where a key stands among entries. Assumes nothing.
use Rattle.std.specs.Prelude.{◌≡◌, ℕ, ◌<◌, ◌≤◌, Bool, true, false, List, length, get_or, Ok, Err, Result}
use Rattle.ordered.specs.declared.entry.Entry.{Entry}

module _ {K : Type 0} (before : K → K → Bool) {V : Type 0} (es : List (Entry K V)) (q : K) where
  -- the first i entries are at or before q, the others after it
  pub record Parts (i : ℕ) : Type 0 where
    pub within : i ≤ length es
    pub under : (k : ℕ) (d : Entry K V) → k < i → before q (get_or es k d).key ≡ false
    pub over : (k : ℕ) (d : Entry K V) → i ≤ k → k < length es → before q (get_or es k d).key ≡ true

  -- q stands at i
  pub record Stands (i : ℕ) : Type 0 where
    pub within : i < length es
    pub same : (d : Entry K V) → (get_or es i d).key ≡ q

  -- q is new, and belongs at i: the entries there and on are after it, the others before
  pub record Belongs (i : ℕ) : Type 0 where
    pub parts : Parts i
    pub apart : (k : ℕ) (d : Entry K V) → k < i → before (get_or es k d).key q ≡ true

  abbrev pub Place : Result ℕ ℕ → Type 0
  Place (Ok i) = Stands i
  Place (Err i) = Belongs i
