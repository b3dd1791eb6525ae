-- The standing rows: the first rows with the standing writes applied in order. Assumes nothing.
use Rattle.std.specs.Prelude.{ℕ, ◌*◌, cond, List, map, length, take, drop, fold, ◌==◌, slice_set}
use Rattle.values.specs.declared.scalar.Value.{Value}
use Rattle.values.specs.declared.packed.Cell.{Cell}
use Rattle.values.specs.Packed.{value_of}
use Rattle.sheet.specs.declared.write.Write.{Write}
use Rattle.sheet.specs.Page.{Page}

-- the rows of cells that lie row by row, as values by cycle; a cycle past the last row has none
abbrev pub first_rows : ℕ → List Cell → ℕ → List Value
first_rows width cells cycle = map value_of (take width (drop (cycle * width) cells))

-- rows with a write over them
abbrev pub overwritten : (ℕ → List Value) → Write → ℕ → List Value
overwritten rows w cycle = cond (w.cycle == cycle) (slice_set (rows cycle) w.column (value_of w.cell)) (rows cycle)

abbrev pub rows_of : Page → ℕ → List Value
rows_of p = fold overwritten (first_rows (length p.columns) p.first) p.writes

-- one row of cells with a write over it
abbrev pub over : ℕ → List Cell → Write → List Cell
over cycle row w = cond (w.cycle == cycle) (slice_set row w.column w.cell) row
