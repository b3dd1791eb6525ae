use Rattle.std.proofs.Common.{vec_items}
use Rattle.sheet.specs.Page.{page}
use Rattle.runs.specs.Chain.{desk}
use Rattle.runs.proofs.Following.{tells_runs}
use Rattle.runs.proofs.Replaying.{lent}
use Rattle.runs.proofs.runs.run.Goals as goal

pub returns : goal.returns
returns g c =
    let q = c.args.player.now in
    let p = page c.args.sheet.now in
    let hand = vec_items c.args.hand.now in
    let before = vec_items c.args.answers.now in
    let end = desk c.follow.new.player (page c.follow.new.sheet) (vec_items c.follow.new.hand) in
    tells_runs g.L.BlockLibrary.meaning g.S.KeyframeStore.means g.met.L.BlockLibrary.sound c.args.marks.now (desk q p hand) end c.args.calls.now before (vec_items c.follow.new.answers)
    (lent g.L.BlockLibrary.meaning g.S.KeyframeStore.means g.met.L.BlockLibrary.sound c.args.marks.now q p hand (vec_items c.reserve.new.hand) c.args.calls.now before (vec_items c.reserve.new.answers) (vec_items c.follow.new.answers) end c.reserve.ensures.hand c.reserve.ensures.answers c.follow.ensures)
