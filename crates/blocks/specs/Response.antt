-- What one block shows when it is fed row after row of inputs. Assumes nothing.
use Rattle.std.specs.Prelude.{ℕ, List, [], ◌∷◌}
use Rattle.values.specs.declared.scalar.State.{State}
use Rattle.values.specs.declared.scalar.Value.{Value}
use Rattle.blocks.specs.Library.{Library}

-- from a state on
abbrev pub response_from : Library → ℕ → List Value → State → List (List Value) → List Value
response_from l k ps s [] = []
response_from l k ps s (is ∷ rows) = l.out k ps s is ∷ response_from l k ps (l.next k ps s is) rows

-- from the first state, at cycle 0
abbrev pub response : Library → ℕ → List Value → List (List Value) → List Value
response l k ps rows = response_from l k ps (l.first k ps) rows
