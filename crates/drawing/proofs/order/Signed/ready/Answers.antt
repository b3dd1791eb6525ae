use Rattle.std.proofs.Common.{sym}
use Rattle.drawing.proofs.Wiring.{ready_decides}
use Rattle.drawing.proofs.order.Signed.ready.Goals as goal

pub returns-then-not-placed : goal.returns-then-not-placed
returns-then-not-placed c =
    ready_decides _ _ _ _ c.requires c.args.self.now.signed (sym c.if-not-placed.ensures) _ _ _ c.sources.ensures _ c.allowed.ensures
