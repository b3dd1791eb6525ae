use Rattle.std.proofs.Common.{◌++◌, ap, ◌∙◌}
use Rattle.draft.specs.Bits.{field}
use Rattle.packed.proofs.Appending.{four_written}
use Rattle.packed.proofs.pack.write_header.Goals as goal

pub returns-clause-value : goal.returns-clause-value
returns-clause-value c =
    let h = c.args.header in
    four_written (field 8 1) (field 4 h.columns) (field 7 h.blocks) (field 5 0) c.args.file.now c.field.new.self c.field-2.new.self c.field-3.new.self c.field-4.new.self
    c.field.ensures.value
    (c.field-2.ensures.value ∙ ap (λ n. c.field.new.self ++ field 4 n) c.from.ensures)
    (c.field-3.ensures.value ∙ ap (λ n. c.field-2.new.self ++ field 7 n) c.from-2.ensures)
    c.field-4.ensures.value
