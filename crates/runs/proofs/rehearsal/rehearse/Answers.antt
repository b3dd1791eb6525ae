use Rattle.std.proofs.Common.{vec_items}
use Rattle.sheet.specs.Page.{page}
use Rattle.runs.specs.Chain.{desk}
use Rattle.runs.proofs.Owning.{replay_own, rehearsed, no_slips}
use Rattle.runs.proofs.rehearsal.rehearse.Goals as goal

pub settle-requires : goal.settle-requires
settle-requires g c = replay_own g.L.BlockLibrary.meaning g.S.KeyframeStore.means c.args.marks.now c.args.drawing c.args.player.now (page c.args.sheet.now) _ c.args.calls.now (vec_items c.args.answers.now) (vec_items c.replay.new.answers) (desk c.replay.new.player (page c.replay.new.sheet) (vec_items c.replay.new.hand)) (no_slips c.args.hand) c.in-Ok.ensures

pub returns-in-Ok : goal.returns-in-Ok
returns-in-Ok g c = rehearsed g.L.BlockLibrary.meaning g.S.KeyframeStore.means c.args.marks.now c.args.drawing c.args.player.now (page c.args.sheet.now) _ c.args.calls.now (vec_items c.args.answers.now) (vec_items c.replay.new.answers) (desk c.replay.new.player (page c.replay.new.sheet) (vec_items c.replay.new.hand)) (no_slips c.args.hand) c.in-Ok.ensures (page c.settle.new.sheet) c.settle.ensures
