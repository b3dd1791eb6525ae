-- The cells and the writes that may stand in a sheet. Assumes nothing.
use Rattle.std.specs.Prelude.{◌≡◌, ℕ, ◌%◌, ◌<◌, Bool, true, false, List, length, slice_index_or}
use Rattle.values.specs.declared.scalar.ValueType.{ValueType}
use Rattle.values.specs.declared.scalar.ValueType.TheVariants.{Binary, Whole, Real}
use Rattle.values.specs.declared.packed.Cell.{Cell}
use Rattle.values.specs.declared.packed.Cell.TheVariants as Cells
use Rattle.values.specs.Values.{type_of, finite_of}
use Rattle.values.specs.Packed.{value_of}
use Rattle.sheet.specs.declared.write.Write.{Write}

abbrev pub same_type : ValueType → ValueType → Bool
same_type Binary Binary = true
same_type Binary Whole = false
same_type Binary Real = false
same_type Whole Binary = false
same_type Whole Whole = true
same_type Whole Real = false
same_type Real Binary = false
same_type Real Whole = false
same_type Real Real = true

abbrev pub type_at : List ValueType → ℕ → ValueType
type_at types column = slice_index_or types column Binary

-- a cell that may stand in a column of type t: of that type, and finite
abbrev pub Fit : ValueType → Cell → Type 0
Fit t c = (same_type (type_of (value_of c)) t ≡ true) × (finite_of (value_of c) ≡ true)

-- what a place past the end of a list counts as
abbrev pub no_cell : Cell
no_cell = Cells.Binary false

abbrev pub no_write : Write
no_write = record { cycle = 0; column = 0; cell = no_cell }

-- cells lie row by row, so the cell number i is in column i % width
abbrev pub FitAt : List ValueType → List Cell → ℕ → Type 0
FitAt types cells i = Fit (type_at types (i % length types)) (slice_index_or cells i no_cell)

abbrev pub Sound : List ValueType → List Cell → Type 0
Sound types cells = (i : ℕ) → i < length cells → FitAt types cells i

-- a write inside the sheet, whose cell may stand in its column
abbrev pub Placed : List ValueType → ℕ → Write → Type 0
Placed types rows w =
    (w.cycle < rows) × (w.column < length types) × (same_type (type_of (value_of w.cell)) (type_at types w.column) ≡ true) × (finite_of (value_of w.cell) ≡ true)

abbrev pub Typed : List ValueType → ℕ → List Write → Type 0
Typed types rows writes = (k : ℕ) → k < length writes → Placed types rows (slice_index_or writes k no_write)
