-- What the records of the reader stand for.
use Rattle.std.specs.Prelude.{◌≡◌, ◌-◌, ◌≤◌, false, List, [], ◌∷◌, map, take, drop, replicate}
use Rattle.values.specs.declared.packed.Cell.{Cell}
use Rattle.values.specs.declared.packed.Cell.TheVariants as Cells
use Rattle.values.specs.declared.scalar.ValueType.{ValueType}
use Rattle.values.specs.declared.scalar.ValueType.TheVariants as Types
use Rattle.values.specs.Packed.{value_of}
use Rattle.draft.specs.declared.source.Source.{Source}
use Rattle.draft.specs.declared.source.Source.TheVariants as Sources
use Rattle.draft.specs.declared.record.BlockRecord.{BlockRecord}
use Rattle.draft.specs.declared.record.ColumnsRecord.{ColumnsRecord}
use Rattle.draft.specs.File.{BlockOf}

-- all places of a record
abbrev pub source_places : BlockRecord → List Source
source_places b = b.source0 ∷ b.source1 ∷ b.source2 ∷ b.source3 ∷ []

abbrev pub param_places : BlockRecord → List Cell
param_places b = b.param0 ∷ b.param1 ∷ b.param2 ∷ b.param3 ∷ []

abbrev pub type_places : ColumnsRecord → List ValueType
type_places c = c.type0 ∷ c.type1 ∷ c.type2 ∷ c.type3 ∷ c.type4 ∷ c.type5 ∷ c.type6 ∷ c.type7 ∷ []

abbrev pub block_of : BlockRecord → BlockOf
block_of b = record {
  kind = b.kind;
  sources = take b.inputs (source_places b);
  params = map value_of (take b.params (param_places b));
  name = b.name.now;
}

abbrev pub columns_of : ColumnsRecord → List ValueType
columns_of c = take c.count (type_places c)

-- places that are not meant hold column 0, binary 0 and the type binary
abbrev pub BlockPlain : BlockRecord → Type 0
BlockPlain b = (b.inputs ≤ 4) × (b.params ≤ 4) × (drop b.inputs (source_places b) ≡ replicate (4 - b.inputs) (Sources.Column 0)) × (drop b.params (param_places b) ≡ replicate (4 - b.params) (Cells.Binary false))

abbrev pub ColumnsPlain : ColumnsRecord → Type 0
ColumnsPlain c = (c.count ≤ 8) × (drop c.count (type_places c) ≡ replicate (8 - c.count) Types.Binary)
