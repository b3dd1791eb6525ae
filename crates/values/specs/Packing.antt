-- Packing loses nothing: it is undone both ways, for values, for states and for rows of them. Assumes nothing.
use Rattle.std.specs.Prelude.{◌≡◌, List, map}
use Rattle.std.specs.Float.{nan}
use Rattle.values.specs.declared.scalar.Value.{Value}
use Rattle.values.specs.declared.scalar.Value.TheVariants as Values
use Rattle.values.specs.declared.scalar.State.{State}
use Rattle.values.specs.declared.packed.Cell.{Cell}
use Rattle.values.specs.declared.packed.Cell.TheVariants as Cells
use Rattle.values.specs.declared.packed.PackedState.{PackedState}
use Rattle.values.specs.Packed.{cell_of, value_of, packed_of, state_of, Canonical, Storable, Bounded, CanonicalRow, BoundedRow, StorableRow}

-- not-a-number packs to 7FC00000
abbrev pub NanPacks : Type 0
NanPacks = cell_of (Values.Real nan) ≡ Cells.Real 2143289344

-- a value packs to a canonical cell, which gives the value back
abbrev pub ValuesPack : Type 0
ValuesPack = (v : Value) → Storable v → (value_of (cell_of v) ≡ v) × Canonical (cell_of v) × Bounded (cell_of v)

-- a cell holds a value, which gives the cell back where it is canonical
abbrev pub CellsUnpack : Type 0
CellsUnpack = (c : Cell) → Bounded c → Storable (value_of c) × (Canonical c → cell_of (value_of c) ≡ c)

abbrev pub StatesPack : Type 0
StatesPack = (s : State) → Storable s.value → (state_of (packed_of s) ≡ s) × Canonical (packed_of s).cell × Bounded (packed_of s).cell

abbrev pub StatesUnpack : Type 0
StatesUnpack = (p : PackedState) → Bounded p.cell → Storable (state_of p).value × (Canonical p.cell → packed_of (state_of p) ≡ p)

abbrev pub RowsPack : Type 0
RowsPack = (ss : List State) → StorableRow ss → (map state_of (map packed_of ss) ≡ ss) × CanonicalRow (map packed_of ss) × BoundedRow (map packed_of ss)

abbrev pub RowsUnpack : Type 0
RowsUnpack = (ps : List PackedState) → BoundedRow ps → StorableRow (map state_of ps) × (CanonicalRow ps → map packed_of (map state_of ps) ≡ ps)
