-- What the stores that need no memory mean. Assumes nothing.
use Rattle.std.specs.Prelude.{ℕ, true, false, cond, Some, None, Option, ◌==◌}
use Rattle.values.specs.declared.working.Row.{Row}
use Rattle.ordered.specs.declared.entry.Entry.{Entry}
use Rattle.keyframes.specs.declared.one.OneStore.{OneStore}
use Rattle.keyframes.specs.Frames.{Frames}

-- nothing is held, and nothing taken
abbrev pub no_frames : Frames
no_frames = record { held = λ _. None; takes = λ _. false }

-- the row that an entry, if there is one, gives for a cycle
abbrev pub row_of : Option (Entry ℕ Row) → ℕ → Option Row
row_of None c = None
row_of (Some k) c = cond (c == k.key) (Some k.value) None

-- the last row is held, and every row taken
abbrev pub one_frames : OneStore → Frames
one_frames s = record { held = row_of s.last; takes = λ _. true }
