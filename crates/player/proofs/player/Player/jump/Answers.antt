use Rattle.std.proofs.Common.{rules}
use Rattle.sheet.specs.Page.{page}
use Rattle.player.specs.Feed.{Jump}
use Rattle.player.proofs.Outcomes.{obeys}
use Rattle.player.proofs.player.Player.jump.Goals as goal

pub returns-in_err-serves-clause-law : goal.returns-in_err-serves-clause-law
returns-in_err-serves-clause-law g c = obeys g.L.BlockLibrary.meaning g.S.KeyframeStore.means c.args.self.now (g.met.L.BlockLibrary.sound c.args.self.now.library) (page c.args.sheet.now) (Jump c.args.cycle) _ c.args.self.now (page c.args.sheet.now) (search rules)

pub returns-clause-law : goal.returns-clause-law
returns-clause-law g c = obeys g.L.BlockLibrary.meaning g.S.KeyframeStore.means c.args.self.now (g.met.L.BlockLibrary.sound c.args.self.now.library) (page c.args.sheet.now) (Jump c.args.cycle) _ c.move_to.new.self (page c.args.sheet.now) (search rules)
