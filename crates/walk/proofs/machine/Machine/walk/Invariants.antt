use Rattle.sheet.specs.Page.{page}
use Rattle.sheet.specs.Rows.{rows_of}
use Rattle.walk.specs.Opening.{blocks_of}
use Rattle.walk.specs.Walk.{Walks}
use Rattle.walk.proofs.machine.Machine.walk.Given as goal

abbrev pub invariant-loop-c : goal.invariant-loop-c
invariant-loop-c g l = Walks (g.L.BlockLibrary.meaning l.self.library.now) (blocks_of l.self.drawing.now) (rows_of (page l.sheet)) l.c l.states.all
