use Rattle.std.proofs.Common.{◌≡◌, ◌+◌, ◌-◌, ◌*◌, false, take, drop, replicate, Ok, sym, ap, ◌∙◌, subst, arith}
use Rattle.std.proofs.lemmas.Result.{err_from_is_err_and}
use Rattle.values.specs.declared.packed.Cell.TheVariants.{Binary}
use Rattle.draft.specs.declared.source.Source.TheVariants.{Column}
use Rattle.draft.specs.Bits.{bits_of}
use Rattle.draft.specs.Format.{read_all}
use Rattle.draft.specs.File.{BlockOf, source_format, cell_format, padding_format, name_byte, block_format}
use Rattle.draft.proofs.Blocks.{read_all_length, size_all_sources, params_fail, padding_fails, name_fails, block_ok}
use Rattle.draft.proofs.Loops.{all_same}
use Rattle.draft.proofs.Params.{values_all, values_fail}
use Rattle.draft.proofs.cursor.Cursor.block.Goals as goal

pub returns-in_err-params-clause-value : goal.returns-in_err-params-clause-value
returns-in_err-params-clause-value c =
    let file = c.args.self.now.file.now in
    let p = err_from_is_err_and c.from_residual-in_err-params.result c.from_residual-in_err-params.ensures.1 in
    let h = c.in_ok-head.ensures in
    let s = c.in_ok-sources.ensures in
    let xs = all_same source_format _ _ file _ _ _ _ c.skip.ensures.0 c.skip.ensures.1 (s.value.0, s.value.1) in
    let same = s.same ∙ c.skip.ensures.0 in
    rw (p.1, p.2)
    (params_fail (bits_of file) c.args.self.now.at _ _ _ _ h.0 _ _ xs
    (values_fail c.in_ok-head.head.params (bits_of file) c.some.new.self.at _ (ap (λ f. read_all cell_format c.in_ok-head.head.params (bits_of f) c.some.new.self.at) (sym same) ∙ c.in_err-params.ensures.value)))

pub returns-in_err-padding-clause-value : goal.returns-in_err-padding-clause-value
returns-in_err-padding-clause-value c =
    let file = c.args.self.now.file.now in
    let p = err_from_is_err_and c.from_residual-in_err-padding.result c.from_residual-in_err-padding.ensures.1 in
    let h = c.in_ok-head.ensures in
    let s = c.in_ok-sources.ensures in
    let t = c.in_ok-params.ensures in
    let xs = all_same source_format _ _ file _ _ _ _ c.skip.ensures.0 c.skip.ensures.1 (s.value.0, s.value.1) in
    let same = s.same ∙ c.skip.ensures.0 in
    let ps = all_same cell_format _ _ file _ _ _ _ same (λ _. c.some.new.self.at) (t.value.0, t.value.1) in
    rw (p.1, p.2)
    (padding_fails (bits_of file) c.args.self.now.at _ _ _ _ h.0 _ _ xs _ _ (values_all _ _ _ _ _ ps.0 ps.1)
    (ap (λ f. padding_format.read (bits_of f) c.some-2.new.self.at) (sym (t.same ∙ same)) ∙ c.in_err-padding.ensures.value))

pub returns-in_err-name-clause-value : goal.returns-in_err-name-clause-value
returns-in_err-name-clause-value c =
    let file = c.args.self.now.file.now in
    let p = err_from_is_err_and c.from_residual-in_err-name.result c.from_residual-in_err-name.ensures.1 in
    let h = c.in_ok-head.ensures in
    let s = c.in_ok-sources.ensures in
    let t = c.in_ok-params.ensures in
    let z = c.in_ok-padding.ensures in
    let xs = all_same source_format _ _ file _ _ _ _ c.skip.ensures.0 c.skip.ensures.1 (s.value.0, s.value.1) in
    let same = s.same ∙ c.skip.ensures.0 in
    let ps = all_same cell_format _ _ file _ _ _ _ same (λ _. c.some.new.self.at) (t.value.0, t.value.1) in
    let gap = ap (λ f. padding_format.read (bits_of f) c.some-2.new.self.at) (sym (t.same ∙ same)) ∙ z.value.0 in
    rw (p.1, p.2)
    (name_fails (bits_of file) c.args.self.now.at _ _ _ _ h.0 _ _ xs _ _ (values_all _ _ _ _ _ ps.0 ps.1) _ (gap, z.value.1)
    (ap (λ f. read_all name_byte c.in_ok-head.head.name_len (bits_of f) c.padding.new.self.at) (sym (z.same ∙ t.same ∙ same)) ∙ c.in_err-name.ensures))

pub returns : goal.returns
returns c =
    let file = c.args.self.now.file.now in
    let h = c.in_ok-head.ensures in
    let s = c.in_ok-sources.ensures in
    let t = c.in_ok-params.ensures in
    let z = c.in_ok-padding.ensures in
    let xs = all_same source_format _ _ file _ _ _ _ c.skip.ensures.0 c.skip.ensures.1 (s.value.0, s.value.1) in
    let same = s.same ∙ c.skip.ensures.0 in
    let ps = all_same cell_format _ _ file _ _ _ _ same (λ _. c.some.new.self.at) (t.value.0, t.value.1) in
    let gap = ap (λ f. padding_format.read (bits_of f) c.some-2.new.self.at) (sym (t.same ∙ same)) ∙ z.value.0 in
    let name = ap (λ f. read_all name_byte c.in_ok-head.head.name_len (bits_of f) c.padding.new.self.at) (sym (z.same ∙ t.same ∙ same)) ∙ c.in_ok-name.ensures in
    let b = block_ok (bits_of file) c.args.self.now.at _ _ _ _ h.0 _ _ xs _ _ (values_all _ _ _ _ _ ps.0 ps.1) _ (gap, z.value.1) _ name in
    record {
      same = c.skip-2.ensures.0 ∙ z.same ∙ t.same ∙ same;
      value =
          subst (λ (x : BlockOf). (block_format.read (bits_of file) c.args.self.now.at ≡ Ok x) × (c.skip-2.new.self.at ≡ c.args.self.now.at + block_format.size c.args.self.now.at x)) (sym c.block_record.ensures.value)
          (b.0, c.skip-2.ensures.1 ∙ ap (λ n. c.padding.new.self.at + 8 * n) c.from.ensures ∙ b.1);
      near = omega (arith, xs.1, size_all_sources (c.args.self.now.at + 16) (take c.in_ok-head.head.inputs c.in_ok-sources.sources), read_all_length source_format c.in_ok-head.head.inputs (bits_of file) (c.args.self.now.at + 16) (take c.in_ok-head.head.inputs c.in_ok-sources.sources) xs.0, t.near, z.whole.1, h.1, h.2, h.3, c.skip-2.ensures.1);
      plain =
          let e = c.block_record.ensures.places in (
            omega (arith, e.0, h.1),
            omega (arith, e.1, h.2),
            (λ i. drop (e.0 i) (e.2 i)) ∙ s.value.2 ∙ ap (λ n. replicate (4 - n) (Column 0)) (sym e.0),
            (λ i. drop (e.1 i) (e.3 i)) ∙ t.value.2 ∙ ap (λ n. replicate (4 - n) (Binary false)) (sym e.1),
          );
    }
