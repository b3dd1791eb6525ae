use Rattle.std.proofs.Common.{rules}
use Rattle.sheet.specs.Page.{page}
use Rattle.player.specs.Feed.{Confirm}
use Rattle.player.proofs.Outcomes.{obeys}
use Rattle.player.proofs.player.Player.confirm_trial.Goals as goal

pub returns-in-Err-clause-law : goal.returns-in-Err-clause-law
returns-in-Err-clause-law g c = obeys g.L.BlockLibrary.meaning g.S.KeyframeStore.means c.args.self.now (g.met.L.BlockLibrary.sound c.args.self.now.library) (page c.args.sheet.now) (Confirm c.args.slip.standing) _ c.args.self.now (page c.args.sheet.now) (search rules)
