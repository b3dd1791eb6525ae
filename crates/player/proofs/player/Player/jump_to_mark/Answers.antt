use Rattle.std.proofs.Common.{rules}
use Rattle.sheet.specs.Page.{page}
use Rattle.marks.specs.Marks.{mark}
use Rattle.player.specs.Feed.{Goto}
use Rattle.player.proofs.Outcomes.{obeys}
use Rattle.player.proofs.player.Player.jump_to_mark.Goals as goal

pub returns-clause-law : goal.returns-clause-law
returns-clause-law g c = obeys g.L.BlockLibrary.meaning g.S.KeyframeStore.means c.args.self.now (g.met.L.BlockLibrary.sound c.args.self.now.library) (page c.args.sheet.now) (Goto (mark c.args.marks.now c.args.name)) _ c.jump.new.self (page c.args.sheet.now) (search rules)
