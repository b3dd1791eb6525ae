-- Packing is undone both ways. Assumes nothing.
use Rattle.std.proofs.Common.{[], ◌∷◌, map, refl, ap, ◌∙◌}
use lib.Ieee.{binary32}
use lib.Ieee.Bits.{of_bits-to_bits, to_bits-lt, of_bits-fits}
use Rattle.values.specs.declared.scalar.Value.TheVariants as Values
use Rattle.values.specs.declared.packed.Cell.TheVariants as Cells
use Rattle.values.specs.Packed.{packed_of, state_of}
use Rattle.values.specs.Packing.{NanPacks, ValuesPack, CellsUnpack, StatesPack, StatesUnpack, RowsPack, RowsUnpack}
use Rattle.values.proofs.Patterns.{nan_bits, usual_back, usual_pattern}

pub nan_packs : NanPacks
nan_packs = ap Cells.Real nan_bits

-- ---- values

pub values_pack : ValuesPack
values_pack (Values.Binary b) h = (refl, tt, tt)
values_pack (Values.Whole n) h = (refl, tt, tt)
values_pack (Values.Real x) h = (ap Values.Real (of_bits-to_bits binary32 x h), usual_pattern x h, to_bits-lt binary32 x h)

pub cells_unpack : CellsUnpack
cells_unpack (Cells.Binary b) h = (tt, λ _. refl)
cells_unpack (Cells.Whole n) h = (tt, λ _. refl)
cells_unpack (Cells.Real p) h = (of_bits-fits binary32 p, λ u. ap Cells.Real (usual_back p h u))

-- ---- states

pub states_pack : StatesPack
states_pack s h = let v = values_pack s.value h in (ap (λ w. record { value = w; count = s.count }) v.0, v.1, v.2)

pub states_unpack : StatesUnpack
states_unpack p h = let c = cells_unpack p.cell h in (c.0, λ u. ap (λ d. record { cell = d; count = p.count }) (c.1 u))

-- ---- rows

pub rows_pack : RowsPack
rows_pack [] h = (refl, tt, tt)
rows_pack (s ∷ ss) h =
    let a = states_pack s h.0 in
    let b = rows_pack ss h.1 in (ap (λ t. t ∷ map state_of (map packed_of ss)) a.0 ∙ ap (λ l. s ∷ l) b.0, (a.1, b.1), (a.2, b.2))

pub rows_unpack : RowsUnpack
rows_unpack [] h = (tt, λ _. refl)
rows_unpack (p ∷ ps) h =
    let a = states_unpack p h.0 in
    let b = rows_unpack ps h.1 in
    ((a.0, b.0), λ u. ap (λ t. t ∷ map packed_of (map state_of ps)) (a.1 u.0) ∙ ap (λ l. p ∷ l) (b.1 u.1))
