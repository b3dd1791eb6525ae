-- The laws of cycles and walks.
use Rattle.std.specs.Prelude.{◌≡◌, ℕ, ◌<◌, ◌≤◌, List, length, replicate}
use Rattle.values.specs.declared.scalar.State.{State}
use Rattle.values.specs.declared.scalar.Value.{Value}
use Rattle.values.specs.Values.{absent}
use Rattle.blocks.specs.Library.{Library, Sound}
use Rattle.blocks.specs.declared.library.Signature.{Signature}
use Rattle.draft.specs.declared.draft.Block.{Block}
use Rattle.drawing.specs.Net.{Orders}
use Rattle.drawing.specs.Wiring.{net}
use Rattle.walk.specs.Cycle.{Solves, Fitting, worked}
use Rattle.walk.specs.Walk.{Walks, Finds}

-- a drawing that fits a sound library, with an order that respects its connections
pub record Playable (L : Library) (bs : List Block) (ss : List Signature) : Type 0 where
  pub sound : Sound L
  pub few : length bs ≤ 64
  pub count : length ss ≡ length bs
  pub fitting : Fitting L bs ss

-- a cycle has one solution, and working in any order that respects the connections gives it
abbrev pub OneSolution : Type 0
OneSolution = (L : Library) (bs : List Block) (ss : List Signature) → Playable L bs ss → (order : List ℕ) → Orders (net bs ss) order
    → (states : List State) (row : List Value) → Solves L bs states row (worked L bs states row order (replicate 64 absent))
    × ((vs : List Value) → Solves L bs states row vs → vs ≡ worked L bs states row order (replicate 64 absent))

-- so a cycle has one row of states, and each block one value
abbrev pub OneWalk : Type 0
OneWalk = (L : Library) (bs : List Block) (ss : List Signature) → Playable L bs ss → (order : List ℕ) → Orders (net bs ss) order
    → (rows : ℕ → List Value) (c : ℕ) → ((s t : List State) → Walks L bs rows c s → Walks L bs rows c t → s ≡ t)
    × ((v w : List Value) → Finds L bs rows c v → Finds L bs rows c w → v ≡ w)

-- the states at a cycle depend on the rows below it alone
abbrev pub Causal : Type 0
Causal = (L : Library) (bs : List Block) (rows rows' : ℕ → List Value) (c : ℕ) → ((i : ℕ) → i < c → rows i ≡ rows' i)
    → (s : List State) → Walks L bs rows c s → Walks L bs rows' c s
