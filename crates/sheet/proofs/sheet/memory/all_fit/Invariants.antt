use Rattle.std.proofs.Common.{ℕ, ◌<◌}
use Rattle.sheet.specs.Cells.{FitAt}
use Rattle.sheet.specs.Held.{types_of}
use Rattle.sheet.proofs.sheet.memory.all_fit.Given as goal

abbrev pub invariant-loop-i : goal.invariant-loop-i
invariant-loop-i l = (k : ℕ) → k < l.i → FitAt (types_of l.columns) l.cells k
