use Rattle.std.proofs.Common.{◌≤◌, length, vec_items, sym, ap, ◌∙◌, subst, arith}
use Rattle.std.proofs.lemmas.List.{at_drop_all}
use Rattle.walk.specs.Cycle.{worked}
use Rattle.walk.specs.Walk.{values_in}
use Rattle.walk.proofs.Working.{in_drawing, worked_next}
use Rattle.walk.proofs.machine.Machine.work.Goals as goal

pub bounds-blocks-b : goal.bounds-blocks-b
bounds-blocks-b g c = in_drawing c.args.self.now.drawing.now _ c.order-b-items.ensures _ c.blocks-blocks.ensures c.loop-b.b-index c.loop-b-test.true

pub loop-b-init : goal.loop-b-init
loop-b-init g c =
    let d = c.args.self.now.drawing.now in
    ap (worked (g.L.BlockLibrary.meaning c.args.self.now.library.now) (vec_items d.draft.blocks) c.args.states.now.all (values_in c.args.row.now) (vec_items d.order)) c.new-values.ensures

pub loop-b-preserved : goal.loop-b-preserved
loop-b-preserved g c =
    worked_next c.args.self.now.drawing.now _ c.order-b-items.ensures _ c.blocks-blocks.ensures c.loop-b.b-index c.loop-b-test.true
    (g.L.BlockLibrary.meaning c.args.self.now.library.now) c.args.states.now.all (values_in c.args.row.now) c.loop-b.values.all _ _ c.block_out-v.result c.index-blocks-b.result c.get.result
    c.index-blocks-b.is c.get.ensures c.block_out-v.ensures c.set.ensures c.loop-b.invariant

pub returns : goal.returns
returns g c =
    let d = c.args.self.now.drawing.now in
    let end : length (vec_items d.order) ≤ c.loop-b.b-index = subst (λ l. length l ≤ c.loop-b.b-index) c.order-b-items.ensures c.loop-b-test.false in
    sym (at_drop_all (λ l. worked (g.L.BlockLibrary.meaning c.args.self.now.library.now) (vec_items d.draft.blocks) c.args.states.now.all (values_in c.args.row.now) l c.loop-b.values.all) (vec_items d.order) _ end) ∙ c.loop-b.invariant

pub offset_bounds-blocks-b : goal.offset_bounds-blocks-b
offset_bounds-blocks-b g c =
    let d = c.args.self.now.drawing.now in
    omega (arith, in_drawing d _ c.order-b-items.ensures _ c.blocks-blocks.ensures c.loop-b.b-index c.loop-b-test.true, ap length c.blocks-blocks.ensures, d.draft.blocks.ok.0, d.draft.few_blocks)
