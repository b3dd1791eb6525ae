-- The puts of a move: cycles reached one after another, with rows kept on the way. Assumes nothing.
use Rattle.std.specs.Prelude.{◌≡◌, ℕ, suc, ◌%◌, Bool, true, false, ◌&&◌, ◌==◌, List, map}
use Rattle.values.specs.declared.scalar.State.{State}
use Rattle.values.specs.declared.working.Row.{Row}
use Rattle.values.specs.Packed.{packed_of}
use Rattle.keyframes.specs.Frames.{Frames, Stored}

-- every 32nd cycle's row is put if the store takes it
abbrev pub due : Frames → ℕ → Bool
due f c = c % 32 == 0 && f.takes c

-- the row of some states
abbrev pub packed : List State → Row
packed states = record { states = map packed_of states }

-- what reaching a cycle does to the store
pub record Keeps (f : Frames) (c : ℕ) (row : Row) (f' : Frames) : Type 0 where
  pub put : due f c ≡ true → Stored f c row f'
  pub left : due f c ≡ false → f' ≡ f

-- from the store f at one cycle, each later one up to c reached with its row: the store is then the last
pub data Visits (row : ℕ → Row) (from : ℕ) (f : Frames) : ℕ → Frames → Type 0 where
  start : Visits row from f from f
  next : {c : ℕ} {g h : Frames} → Visits row from f c g → Keeps g (suc c) (row (suc c)) h → Visits row from f (suc c) h
