use Rattle.std.proofs.Common.{◌≡◌, map, length, take}
use Rattle.walk.specs.Cycle.{read, shown}
use Rattle.walk.specs.Walk.{values_in}
use Rattle.walk.proofs.cycle.gather.Given as goal

abbrev pub invariant-loop-i : goal.invariant-loop-i
invariant-loop-i l = (length l.all ≡ 4) × (take l.i l.all ≡ map (read (values_in l.row) (shown l.values.all)) (take l.i l.sources))
