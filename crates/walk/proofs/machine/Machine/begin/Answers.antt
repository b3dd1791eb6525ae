use Rattle.std.proofs.Common.{length, vec_items, sym, ap, ◌∙◌, arith}
use Rattle.std.specs.List.{slice_get}
use Rattle.walk.specs.Cycle.{first_at}
use Rattle.walk.proofs.Filled.{filled_none, filled_more, filled_all}
use Rattle.walk.proofs.Places.{lent_at, first_past, first_is}
use Rattle.walk.proofs.machine.Machine.begin.Goals as goal

pub loop-i-init : goal.loop-i-init
loop-i-init g c = filled_none _ _ c.new-states.ensures

pub loop-i-preserved : goal.loop-i-preserved
loop-i-preserved g c =
    let L = g.L.BlockLibrary.meaning c.args.self.now.library.now in
    let blocks = c.args.self.now.drawing.now.draft.blocks in
    let long = ap length c.blocks-block-items.ensures in
    let at = lent_at c.blocks-block-items.result.now (vec_items blocks) c.loop-i.i c.block-item.result c.blocks-block-items.ensures c.loop-i-test.true c.block-item.is in
    filled_more _ _ _ _ _ (omega (arith, c.loop-i-test.true, c.loop-i.states.full, long, blocks.ok.0, c.args.self.now.drawing.now.draft.few_blocks)) c.set.ensures
    (first_is L c.block-item.result _ _ _ c.kind.ensures c.params.ensures c.first-first.ensures ∙ ap (first_at L) (sym at))
    c.loop-i.invariant

pub returns : goal.returns
returns g c =
    let L = g.L.BlockLibrary.meaning c.args.self.now.library.now in
    let blocks = c.args.self.now.drawing.now.draft.blocks in
    let long = ap length c.blocks-block-items.ensures in
    record {
      each = filled_all (λ k. first_at L (slice_get (vec_items blocks) k)) _ c.loop-i.i _ c.loop-i-test.false (λ k h. first_past L (vec_items blocks) k (omega (arith, long, h))) c.loop-i.invariant;
      places = c.loop-i.states.full;
    }
