use Rattle.std.proofs.Common.{rules}
use Rattle.player.specs.Feed.{Show}
use Rattle.player.proofs.Outcomes.{obeys}
use Rattle.player.proofs.player.Player.show.Goals as goal

pub returns-clause-law : goal.returns-clause-law
returns-clause-law g c = λ p. obeys g.L.BlockLibrary.meaning g.S.KeyframeStore.means c.args.self.now (g.met.L.BlockLibrary.sound c.args.self.now.library) p (Show c.args.block) _ c.args.self.now p (search rules)
