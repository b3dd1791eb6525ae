-- What the plain lists of a sheet hold. Assumes nothing.
use Rattle.std.specs.Prelude.{List, take}
use Rattle.values.specs.declared.scalar.ValueType.{ValueType}
use Rattle.values.specs.declared.packed.Cell.{Cell}
use Rattle.sheet.specs.declared.write.Write.{Write}
use Rattle.sheet.specs.declared.columns.Columns.{Columns}
use Rattle.sheet.specs.declared.list.WriteList.{WriteList}
use Rattle.sheet.specs.declared.reading.Reading.{Reading}
use Rattle.sheet.specs.Chains.{written}

abbrev pub types_of : Columns → List ValueType
types_of c = take c.len c.types

abbrev pub writes_of : WriteList → List Write
writes_of l = written l.standing.items

abbrev pub cells_of : Reading → List Cell
cells_of r = take r.len r.cells
