use Rattle.std.proofs.Common.{◌≡◌, ◌+◌, ◌-◌, List, take, drop, replicate, Ok, sym, ap, ◌∙◌, subst, arith}
use Rattle.values.specs.declared.scalar.ValueType.{ValueType}
use Rattle.values.specs.declared.scalar.ValueType.TheVariants.{Binary}
use Rattle.draft.specs.Bits.{bits_of}
use Rattle.draft.specs.File.{type_format, padding_format, columns_format}
use Rattle.draft.proofs.Blocks.{read_all_length, size_all_types, columns_ok}
use Rattle.draft.proofs.cursor.Cursor.columns.Goals as goal

pub returns : goal.returns
returns c =
    let file = c.args.self.now.file.now in
    let t = c.in_ok-types.ensures in
    let z = c.in_ok-padding.ensures in
    let ts = take c.args.count c.in_ok-types.types in
    let gap = ap (λ f. padding_format.read (bits_of f) c.some.new.self.at) (sym t.same) ∙ z.value.0 in
    record {
      same = z.same ∙ t.same;
      value = subst (λ (x : List ValueType). ((columns_format c.args.count).read (bits_of file) c.args.self.now.at ≡ Ok x) × (c.padding.new.self.at ≡ c.args.self.now.at + (columns_format c.args.count).size c.args.self.now.at x)) (sym c.columns_record.ensures.value) (columns_ok (bits_of file) c.args.self.now.at c.args.count _ _ ts t.value.0 t.value.1 gap z.value.1);
      near = omega (arith, t.value.1, size_all_types c.args.self.now.at ts, read_all_length type_format c.args.count (bits_of file) c.args.self.now.at ts t.value.0, z.whole.1);
      plain =
          let e = c.columns_record.ensures.places in (
            omega (arith, e.0),
            (λ i. drop (e.0 i) (e.1 i)) ∙ t.value.2 ∙ ap (λ n. replicate (8 - n) Binary) (sym e.0),
          );
    }
