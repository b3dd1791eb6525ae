use Rattle.std.proofs.Common.{map, vec_items, Option, ap, ◌∙◌, subst, arith}
use Rattle.std.proofs.lemmas.Result.{err_from_is_err_and}
use Rattle.draft.specs.Drafts.{block_means}
use Rattle.std.proofs.lemmas.List.{length-map}
use Rattle.draft.specs.declared.record.Record.{Record}
use Rattle.draft.specs.Bits.{bits_of}
use Rattle.draft.specs.Reading.{HandsOut}
use Rattle.draft.proofs.Bounds.{draft_in}
use Rattle.draft.proofs.BitLaws.{under_bits_of}
use Rattle.draft.proofs.RoundTrip.{the_draft, first_fault}
use Rattle.draft.proofs.Steps.{begins, goes_on, ends, stops, fit}
use Rattle.draft.proofs.reading.read_draft.Goals as goal

pub loop-gathered-init : goal.loop-gathered-init
loop-gathered-init c =
    let n = c.new-reader.ensures.start in
    (begins c.args.file.now _ _ _ _ n.2 n.1 c.new.ensures.items (ap (map block_means) c.new-2.ensures.items), n.0)

pub returns-in_err-part : goal.returns-in_err-part
returns-in_err-part c =
    let p = err_from_is_err_and c.from_residual.result c.from_residual.ensures.1 in
    let t = c.in_err-part.ensures.cases in
    let e = stops c.args.file.now _ _ _ _ _ c.loop-gathered.invariant.1 c.loop-gathered.invariant.0 _ t.0 in
    rw (p.1, p.2) (record { value = e; draft = first_fault c.args.file.now _ e })

pub add-requires : goal.add-requires
add-requires c =
    let file = bits_of c.loop-gathered.reader.cursor.file.now in
    let st = c.loop-gathered.reader.stage in
    let p = c.loop-gathered.reader.cursor.at in
    fit file st p c.in-Some.part _ _ (under_bits_of _)
    (subst (λ (o : Option Record). HandsOut file st p o c.next.new.self.stage c.next.new.self.cursor.at) c.in-Some.is c.in_ok-part.ensures.cases)

pub loop-gathered-preserved : goal.loop-gathered-preserved
loop-gathered-preserved c =
    let t = c.in_ok-part.ensures in
    let a = c.in_ok-add.ensures in (
      goes_on c.args.file.now _ _ _ _ _ c.loop-gathered.invariant.1 c.loop-gathered.invariant.0 _ _ _ _ _ _ c.in-Some.is t.cases a.0 a.1,
      t.same ∙ c.loop-gathered.invariant.1,
    )

pub invariant_of-result : goal.invariant_of-result
invariant_of-result c =
    let t = c.in_ok-part.ensures.cases in
    let cs = c.loop-gathered.gathered.columns in
    let bs = c.loop-gathered.gathered.blocks in
    let d = draft_in c.args.file.now _ (ends c.args.file.now _ _ _ _ _ c.loop-gathered.invariant.1 c.loop-gathered.invariant.0 _ _ _ c.in_default.is t) in
    let long = length-map (vec_items bs) block_means in
    record {
      few_columns = omega (arith, cs.ok.0, d.0);
      some_block = omega (arith, bs.ok.0, long, d.1);
      few_blocks = omega (arith, bs.ok.0, long, d.2);
    }

pub returns : goal.returns
returns c =
    let t = c.in_ok-part.ensures.cases in
    let e = ends c.args.file.now _ _ _ _ _ c.loop-gathered.invariant.1 c.loop-gathered.invariant.0 _ _ _ c.in_default.is t in
    record { value = e; draft = the_draft c.args.file.now _ e }
