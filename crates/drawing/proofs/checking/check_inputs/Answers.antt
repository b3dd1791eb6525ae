use Rattle.std.proofs.Common.{sym, ◌∙◌}
use Rattle.std.proofs.lemmas.Result.{err_from_is_err_and}
use Rattle.drawing.proofs.Sources.{left_next, sources_counted, input_fault, joined_next}
use Rattle.drawing.proofs.checking.check_inputs.Goals as goal

pub check_sources-requires : goal.check_sources-requires
check_sources-requires c =
    let h = c.in-Some.ensures.steps in
    let i = c.loop-b.invariant in
    sources_counted c.args.columns.now c.args.signed.now.blocks.now c.args.signed.now.signatures.now _ _ h.1 _ _ _ _ (sym h.0.0 ∙ i.blocks_left)
    (sym h.0.1 ∙ i.signatures_left) _ c.sources.ensures c.requires

pub returns-in_err-check_sources : goal.returns-in_err-check_sources
returns-in_err-check_sources c =
    let h = c.in-Some.ensures.steps in
    let i = c.loop-b.invariant in
    let p = err_from_is_err_and c.from_residual.result c.from_residual.ensures.1 in
    rw (p.1, p.2)
    (input_fault c.args.columns.now c.args.signed.now.blocks.now c.args.signed.now.signatures.now _ _ h.1 _ _ _ _ (sym h.0.0 ∙ i.blocks_left)
    (sym h.0.1 ∙ i.signatures_left) _ c.sources.ensures i.joined _ c.in_err-check_sources.ensures)

pub loop-b-preserved : goal.loop-b-preserved
loop-b-preserved c =
    let h = c.in-Some.ensures.steps in
    let i = c.loop-b.invariant in
    record {
      blocks_left = left_next _ _ _ _ _ (sym h.0.0 ∙ i.blocks_left) h.2;
      signatures_left = left_next _ _ _ _ _ (sym h.0.1 ∙ i.signatures_left) h.2;
      joined = joined_next c.args.columns.now c.args.signed.now.blocks.now c.args.signed.now.signatures.now _ _ h.1 _ _ _ _ (sym h.0.0 ∙ i.blocks_left)
          (sym h.0.1 ∙ i.signatures_left) _ c.sources.ensures i.joined c.in_ok-check_sources.ensures _ h.2;
    }
