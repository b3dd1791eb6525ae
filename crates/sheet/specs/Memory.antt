-- The test of memory, and the sheet that is made of it. Assumes nothing.
use Rattle.std.specs.Prelude.{◌≡◌, ℕ, ◌*◌, ◌/◌, ◌%◌, ◌<◌, ◌≤◌, not, ◌⊎◌, List, [], ◌∷◌, length, Some, None, Ok, Err, Option, Result, slice_index_or}
use Rattle.values.specs.declared.scalar.ValueType.{ValueType}
use Rattle.values.specs.declared.packed.Cell.{Cell}
use Rattle.values.specs.Values.{type_of, finite_of}
use Rattle.values.specs.Packed.{value_of}
use Rattle.faults.specs.declared.fault.Fault.{Fault}
use Rattle.faults.specs.declared.fault.Fault.TheVariants.{WrongType, NotFinite, SheetSize}
use Rattle.faults.specs.declared.fault.Place.{Place}
use Rattle.sheet.specs.Cells.{same_type, type_at, no_cell, FitAt, Sound}
use Rattle.sheet.specs.Page.{Page, fresh}
use Rattle.sheet.specs.Calls.{first_of, place_of}

-- the cycle and the column of the cell number i
abbrev pub cell_place : List ValueType → ℕ → Place
cell_place types i = place_of (i / length types) (i % length types)

abbrev pub misfit : ValueType → Place → Cell → Option Fault
misfit t place c = first_of (
    (not (same_type (type_of (value_of c)) t), WrongType place)
    ∷ (not (finite_of (value_of c)), NotFinite place)
    ∷ [])

-- the first misfit among the cells, row by row, or none where each fits
abbrev pub FirstMisfit : List ValueType → List Cell → Option Fault → Type 0
FirstMisfit types cells None = Sound types cells
FirstMisfit types cells (Some f) =
    (i : ℕ) × (i < length cells) × ((k : ℕ) → k < i → FitAt types cells k) × (misfit (type_at types (i % length types)) (cell_place types i) (slice_index_or cells i no_cell) ≡ Some f)

-- sizes within their limits, and memory of that size
abbrev pub Sized : List ValueType → ℕ → List Cell → Type 0
Sized types rows cells = (0 < rows) × (rows ≤ 4096) × (length cells ≡ rows * length types)

abbrev pub Passes : List ValueType → ℕ → List Cell → Type 0
Passes types rows cells = Sized types rows cells × Sound types cells

-- the answer of the test: sizes first, then cell by cell
abbrev pub Tested : List ValueType → ℕ → List Cell → Result (Unit {0}) Fault → Type 0
Tested types rows cells (Ok u) = Passes types rows cells
Tested types rows cells (Err f) =
    ((Sized types rows cells → ⊥) × (f ≡ SheetSize)) ⊎ (Sized types rows cells × FirstMisfit types cells (Some f))

-- the sheet that is made: of memory that passes, and else one of no rows and no columns
abbrev pub Makes : List ValueType → ℕ → List Cell → Page → Type 0
Makes types rows cells p = (Passes types rows cells → p ≡ fresh types rows cells) × ((Passes types rows cells → ⊥) → p ≡ fresh [] 0 [])
