use Rattle.sheet.specs.Page.{page}
use Rattle.player.specs.Feed.{Step}
use Rattle.player.proofs.Outcomes.{obeys}
use Rattle.player.proofs.player.Player.step.Goals as goal

pub returns-clause-law : goal.returns-clause-law
returns-clause-law g c = obeys g.L.BlockLibrary.meaning g.S.KeyframeStore.means c.args.self.now (g.met.L.BlockLibrary.sound c.args.self.now.library) (page c.args.sheet.now) Step _ c.jump.new.self (page c.args.sheet.now) c.jump.ensures.outcome
