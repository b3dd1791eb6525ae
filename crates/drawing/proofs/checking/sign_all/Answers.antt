use Rattle.std.proofs.Common.{refl}
use Rattle.std.proofs.lemmas.Option.{slice_get_read}
use Rattle.std.proofs.lemmas.Result.{err_from_is_err_and}
use Rattle.drawing.proofs.Rounds.{fit_none, fit_more, fit_before, fit_all, first_at}
use Rattle.drawing.proofs.checking.sign_all.Goals as goal

pub loop-b-init : goal.loop-b-init
loop-b-init g c = fit_none (g.L.BlockLibrary.meaning c.args.library.now) c.args.blocks.now _ c.new-signatures.ensures.items

pub returns-in_err-check_block : goal.returns-in_err-check_block
returns-in_err-check_block g c =
    let p = err_from_is_err_and c.from_residual.result c.from_residual.ensures.1 in
    rw (p.1, p.2)
    (λ cs. first_at (g.L.BlockLibrary.meaning c.args.library.now) cs c.args.blocks.now c.loop-b.b
    (fit_before (g.L.BlockLibrary.meaning c.args.library.now) c.args.blocks.now _ _ c.loop-b.invariant)
    c.index-blocks-b.result (slice_get_read _ _ _ _ refl c.loop-b-test.true c.index-blocks-b.is) _ c.in_err-check_block.ensures)

pub loop-b-preserved : goal.loop-b-preserved
loop-b-preserved g c =
    fit_more (g.L.BlockLibrary.meaning c.args.library.now) c.args.blocks.now _ _ _ c.index-blocks-b.result c.in_ok-check_block.field-0
    (slice_get_read _ _ _ _ refl c.loop-b-test.true c.index-blocks-b.is) c.in_ok-push.ensures.items c.loop-b.invariant
    c.in_ok-check_block.ensures

pub returns : goal.returns
returns g c = fit_all (g.L.BlockLibrary.meaning c.args.library.now) c.args.blocks.now _ _ c.loop-b-test.false
    c.loop-b.auto.b-end c.loop-b.invariant
