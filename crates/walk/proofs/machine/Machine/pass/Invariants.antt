use Rattle.std.proofs.Common.{get_or, vec_items}
use Rattle.std.specs.List.{slice_get}
use Rattle.values.specs.Values.{idle}
use Rattle.walk.specs.Cycle.{next_at, shown}
use Rattle.walk.specs.Walk.{values_in}
use Rattle.walk.proofs.Filled.{Filled}
use Rattle.walk.proofs.machine.Machine.pass.Given as goal

abbrev pub invariant-loop-i : goal.invariant-loop-i
invariant-loop-i g l = Filled (λ k. next_at (g.L.BlockLibrary.meaning l.self.library.now) (slice_get (vec_items l.self.drawing.now.draft.blocks) k) (get_or l.states.all k idle) (values_in l.row) (shown l.values.all)) l.i l.after.all
