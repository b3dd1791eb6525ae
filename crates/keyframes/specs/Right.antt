-- Rows that are right, where each cycle has one right row. Assumes nothing.
use Rattle.std.specs.Prelude.{◌≡◌, ℕ, ◌≤◌}
use Rattle.values.specs.declared.working.Row.{Row}
use Rattle.keyframes.specs.Frames.{Frames, Holds, Cut, Emptied}
use Rattle.keyframes.specs.Chain.{Visits}

-- each row held is the right one of its cycle
abbrev pub Right : (ℕ → Row) → Frames → Type 0
Right row f = (c : ℕ) (r : Row) → Holds f c r → r ≡ row c

-- right rows stay right
pub record RightStays : Type 0 where
  -- over the puts of a move
  pub along : (row : ℕ → Row) (from c : ℕ) (f g : Frames) → Visits row from f c g → Right row f → Right row g
  -- when the right rows above a cycle change, and the store is cut above it
  pub cut : (row row' : ℕ → Row) (k : ℕ) (f g : Frames) → ((c : ℕ) → c ≤ k → row' c ≡ row c) → Cut f k g → Right row f → Right row' g
  -- and a store that was emptied holds no wrong row
  pub emptied : (row : ℕ → Row) (f : Frames) → Emptied f → Right row f
