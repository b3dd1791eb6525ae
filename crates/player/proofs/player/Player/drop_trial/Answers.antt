use Rattle.std.proofs.Common.{rules}
use Rattle.sheet.specs.Page.{page}
use Rattle.player.specs.Feed.{Drop}
use Rattle.player.proofs.Outcomes.{obeys}
use Rattle.player.proofs.player.Player.drop_trial.Goals as goal

pub returns-in-Err-clause-law : goal.returns-in-Err-clause-law
returns-in-Err-clause-law g c = obeys g.L.BlockLibrary.meaning g.S.KeyframeStore.means c.args.self.now (g.met.L.BlockLibrary.sound c.args.self.now.library) (page c.args.sheet.now) (Drop c.args.slip.standing) _ c.args.self.now (page c.args.sheet.now) (search rules)

pub returns-clause-law : goal.returns-clause-law
returns-clause-law g c = obeys g.L.BlockLibrary.meaning g.S.KeyframeStore.means c.args.self.now (g.met.L.BlockLibrary.sound c.args.self.now.library) (page c.args.sheet.now) (Drop c.args.slip.standing) _ c.renew_from.new.self (page c.strike_since.new.self) (search rules)
