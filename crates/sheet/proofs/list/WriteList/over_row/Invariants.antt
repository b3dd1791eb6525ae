use Rattle.std.proofs.Common.{length}
use Rattle.sheet.specs.Held.{cells_of}
use Rattle.sheet.specs.Chains.{written, through}
use Rattle.sheet.proofs.Layers.{Layered}
use Rattle.sheet.proofs.list.WriteList.over_row.Given as goal

abbrev pub invariant-loop-at : goal.invariant-loop-at
invariant-loop-at l = Layered l.cycle l.first (written l.self.standing.items) (length l.self.standing.items) l.at (cells_of l.row.row) l.row.given

abbrev pub decreases-loop-at : goal.decreases-loop-at
decreases-loop-at l = through l.at
