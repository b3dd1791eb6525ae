use Rattle.std.proofs.Common.{vec_items, arith}
use Rattle.sheet.specs.Page.{page}
use Rattle.runs.specs.Chain.{desk}
use Rattle.runs.proofs.Chaining.{tells_none, tells_more}
use Rattle.runs.proofs.runs.follow.Goals as goal

pub loop-call-init : goal.loop-call-init
loop-call-init g c = (tells_none g.L.BlockLibrary.meaning g.S.KeyframeStore.means c.args.marks.now (desk c.args.player.now (page c.args.sheet.now) (vec_items c.args.hand.now)) (vec_items c.args.answers.now), omega (arith, c.requires.memory), omega (arith, c.requires.room))

pub loop-call-preserved : goal.loop-call-preserved
loop-call-preserved g c =
    let inv = c.loop-call.invariant in
    let step = c.perform.ensures in
    let pushed = c.push_reserved.ensures in (
      tells_more g.L.BlockLibrary.meaning g.S.KeyframeStore.means c.args.marks.now (desk c.args.player.now (page c.args.sheet.now) (vec_items c.args.hand.now)) (desk c.loop-call.player (page c.loop-call.sheet) (vec_items c.loop-call.hand)) (desk c.perform.new.player (page c.perform.new.sheet) (vec_items c.perform.new.hand)) c.args.calls.now c.loop-call.call-index _ (vec_items c.args.answers.now) (vec_items c.loop-call.answers) _ c.perform.result inv.0 step.made c.loop-call-test.true pushed.items,
      omega (arith, pushed.len, pushed.capacity, inv.1),
      omega (arith, step.room.capacity, step.room.len, inv.2),
    )
