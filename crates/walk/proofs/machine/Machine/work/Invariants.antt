use Rattle.std.proofs.Common.{◌≡◌, drop, replicate, vec_items}
use Rattle.values.specs.Values.{absent}
use Rattle.walk.specs.Cycle.{worked}
use Rattle.walk.specs.Walk.{values_in}
use Rattle.walk.proofs.machine.Machine.work.Given as goal

abbrev pub invariant-loop-b : goal.invariant-loop-b
invariant-loop-b g l =
    let L = g.L.BlockLibrary.meaning l.self.library.now in
    let bs = vec_items l.self.drawing.now.draft.blocks in
    let order = vec_items l.self.drawing.now.order in
    worked L bs l.states.all (values_in l.row) (drop l.b-index order) l.values.all ≡ worked L bs l.states.all (values_in l.row) order (replicate 64 absent)
