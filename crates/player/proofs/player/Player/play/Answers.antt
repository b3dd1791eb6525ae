use Rattle.std.proofs.Common.{ap}
use Rattle.sheet.specs.Page.{page}
use Rattle.sheet.specs.Rows.{rows_of}
use Rattle.player.specs.Play.{here}
use Rattle.player.proofs.Playing.{plays_on, stays_refl, stays_trans}
use Rattle.player.proofs.player.Player.play.Goals as goal

pub loop-c-init : goal.loop-c-init
loop-c-init g c = (here, stays_refl _)

pub loop-c-preserved : goal.loop-c-preserved
loop-c-preserved g c =
    let held = c.loop-c.invariant in
    let step = c.advance.ensures in (
      plays_on (rows_of (page c.args.sheet.now)) (ap g.L.BlockLibrary.meaning held.1.library) held.1.drawing held.0 step.works step.reaches,
      stays_trans held.1 step.stays,
    )
