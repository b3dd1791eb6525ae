-- What a drawing does over rows of inputs, from its first states at cycle 0.
use Rattle.std.specs.Prelude.{ℕ, suc, List, map}
use Rattle.values.specs.declared.scalar.State.{State}
use Rattle.values.specs.declared.scalar.Value.{Value}
use Rattle.values.specs.declared.packed.Cell.{Cell}
use Rattle.values.specs.Packed.{value_of}
use Rattle.blocks.specs.Library.{Library}
use Rattle.draft.specs.declared.draft.Block.{Block}
use Rattle.walk.specs.Cycle.{Solves, Passes, Begins}

-- the states at a cycle: each cycle before it is solved over its row and passes the next states on
pub data Walks (L : Library) (bs : List Block) (rows : ℕ → List Value) : ℕ → List State → Type 0 where
  start : {states : List State} → Begins L bs states → Walks L bs rows 0 states
  pass : {c : ℕ} {states after : List State} {values : List Value} → Walks L bs rows c states → Solves L bs states (rows c) values → Passes L bs states (rows c) values after → Walks L bs rows (suc c) after

-- what the blocks show at a cycle
pub record Finds (L : Library) (bs : List Block) (rows : ℕ → List Value) (c : ℕ) (values : List Value) : Type 0 where
  pub states : List State
  pub walked : Walks L bs rows c states
  pub solved : Solves L bs states (rows c) values

-- the values of a row of cells
abbrev pub values_in : List Cell → List Value
values_in cells = map value_of cells
