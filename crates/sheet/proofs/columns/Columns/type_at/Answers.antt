use Rattle.std.proofs.Common.{◌∙◌, ap}
use Rattle.std.specs.Option.{unwrap_or}
use Rattle.std.proofs.lemmas.Option.{unwrap_or-slice_get}
use Rattle.values.specs.declared.scalar.ValueType.TheVariants.{Binary}
use Rattle.sheet.specs.Held.{types_of}
use Rattle.sheet.proofs.columns.Columns.type_at.Goals as goal

pub returns : goal.returns
returns c =
    c.unwrap_or.ensures ∙ ap (λ t. unwrap_or t Binary) c.get.ensures ∙ unwrap_or-slice_get (types_of c.args.self.now) c.args.column Binary
