use Rattle.std.proofs.Common.{length, get_or, Some, vec_items, sym, ap, ◌∙◌, arith}
use Rattle.std.specs.List.{slice_get}
use Rattle.values.specs.Values.{idle}
use Rattle.walk.specs.Cycle.{next_at, shown}
use Rattle.walk.specs.Walk.{values_in}
use Rattle.walk.proofs.Filled.{filled_none, filled_more, filled_all}
use Rattle.walk.proofs.Places.{lent_at, next_past}
use Rattle.walk.proofs.machine.Machine.pass.Goals as goal

pub loop-i-init : goal.loop-i-init
loop-i-init g c = filled_none _ _ c.new-after.ensures

pub loop-i-preserved : goal.loop-i-preserved
loop-i-preserved g c =
    let L = g.L.BlockLibrary.meaning c.args.self.now.library.now in
    let blocks = c.args.self.now.drawing.now.draft.blocks in
    let row = values_in c.args.row.now in
    let x = shown c.args.values.now.all in
    let long = ap length c.blocks-block-items.ensures in
    let at = lent_at c.blocks-block-items.result.now (vec_items blocks) c.loop-i.i c.block-item.result c.blocks-block-items.ensures c.loop-i-test.true c.block-item.is in
    filled_more _ _ _ _ _ (omega (arith, c.loop-i-test.true, c.loop-i.after.full, long, blocks.ok.0, c.args.self.now.drawing.now.draft.few_blocks)) c.set.ensures
    (c.block_next-next.ensures ∙ ap (λ s. next_at L (Some c.block-item.result) s row x) c.get.ensures ∙ ap (λ o. next_at L o (get_or c.args.states.now.all c.loop-i.i idle) row x) (sym at))
    c.loop-i.invariant

pub returns : goal.returns
returns g c =
    let L = g.L.BlockLibrary.meaning c.args.self.now.library.now in
    let blocks = c.args.self.now.drawing.now.draft.blocks in
    let row = values_in c.args.row.now in
    let x = shown c.args.values.now.all in
    let long = ap length c.blocks-block-items.ensures in
    record {
      each = filled_all (λ k. next_at L (slice_get (vec_items blocks) k) (get_or c.args.states.now.all k idle) row x) _ c.loop-i.i _ c.loop-i-test.false (λ k h. next_past L (vec_items blocks) k (omega (arith, long, h)) _ _ _) c.loop-i.invariant;
      places = c.loop-i.after.full;
    }
