use Rattle.std.proofs.Common.{vec_items}
use Rattle.std.specs.List.{slice_get}
use Rattle.walk.specs.Cycle.{first_at}
use Rattle.walk.proofs.Filled.{Filled}
use Rattle.walk.proofs.machine.Machine.begin.Given as goal

abbrev pub invariant-loop-i : goal.invariant-loop-i
invariant-loop-i g l = Filled (λ k. first_at (g.L.BlockLibrary.meaning l.self.library.now) (slice_get (vec_items l.self.drawing.now.draft.blocks) k)) l.i l.states.all
