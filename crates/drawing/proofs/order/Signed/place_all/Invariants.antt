use Rattle.std.proofs.Common.{◌-◌, length, vec_items}
use Rattle.drawing.specs.Net.{Placing}
use Rattle.drawing.specs.Wiring.{net}
use Rattle.drawing.proofs.order.Signed.place_all.Given as goal

abbrev pub invariant-loop-v : goal.invariant-loop-v
invariant-loop-v l = Placing (net l.self.blocks.now l.self.signatures.now) (vec_items l.order)

abbrev pub decreases-loop-v : goal.decreases-loop-v
decreases-loop-v l = length l.self.blocks.now - length (vec_items l.order)
