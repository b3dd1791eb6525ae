-- What a keyframe store means: the rows that it holds, at most one to a cycle, and the cycles whose row it would accept. Assumes nothing.
use Rattle.std.specs.Prelude.{◌≡◌, ℕ, ◌<◌, ◌≤◌, Bool, true, false, cond, ◌||◌, List, [], ◌∷◌, length, is_some, Some, None, Option, ◌==◌, ◌≢◌, nat_eq}
use Rattle.std.specs.List.{IsDistinct}
use Rattle.values.specs.declared.working.Row.{Row}

pub record Frames : Type 0 where
  pub held : ℕ → Option Row
  pub takes : ℕ → Bool

abbrev pub Holds : Frames → ℕ → Row → Type 0
Holds f c row = f.held c ≡ Some row

-- a held cycle's row would be accepted
abbrev pub Retakes : Frames → Type 0
Retakes f = (c : ℕ) → is_some (f.held c) ≡ true → f.takes c ≡ true

-- the row is held now, with some of those held before and no others
pub record Stored (f : Frames) (c : ℕ) (row : Row) (f' : Frames) : Type 0 where
  pub held_now : Holds f' c row
  pub some_kept : (d : ℕ) (r : Row) → (d ≢ c) → Holds f' d r → Holds f d r

-- the row is held now, with all those held before at other cycles
abbrev pub With : Frames → ℕ → Row → Frames → Type 0
With f c row f' = (d : ℕ) → f'.held d ≡ cond (d == c) (Some row) (f.held d)

-- the row is held, and no other
abbrev pub Only : ℕ → Row → Frames → Type 0
Only c row f = (d : ℕ) → f.held d ≡ cond (d == c) (Some row) None

-- the highest held cycle at or below t, or none
abbrev pub Found : Frames → ℕ → Option ℕ → Type 0
Found f t None = (d : ℕ) → d ≤ t → f.held d ≡ None
Found f t (Some c) = (c ≤ t) × (is_some (f.held c) ≡ true) × ((d : ℕ) → c < d → d ≤ t → f.held d ≡ None)

-- exactly the rows above c are gone
pub record Cut (f : Frames) (c : ℕ) (f' : Frames) : Type 0 where
  pub below : (d : ℕ) → d ≤ c → f'.held d ≡ f.held d
  pub above : (d : ℕ) → c < d → f'.held d ≡ None

abbrev pub Emptied : Frames → Type 0
Emptied f = (d : ℕ) → f.held d ≡ None

abbrev pub among : ℕ → List ℕ → Bool
among c [] = false
among c (d ∷ ds) = c == d || among c ds

-- n rows are held: their cycles, each once, are n
pub record Counts (f : Frames) (n : ℕ) : Type 0 where
  pub cycles : List ℕ
  pub number : length cycles ≡ n
  pub once : IsDistinct nat_eq cycles
  pub each : (c : ℕ) → among c cycles ≡ is_some (f.held c)
