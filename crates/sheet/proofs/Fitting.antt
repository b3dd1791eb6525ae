-- The standing rows have the columns' types. Assumes nothing.
use Rattle.std.proofs.Common.{◌≡◌, ℕ, ◌+◌, ◌*◌, ◌<◌, true, false, cond, eqb, List, [], ◌∷◌, map, length, get_or, take, drop, set, fold, ap, ◌∙◌, mul_comm, add-mul, one-mul, arith}
use Rattle.std.proofs.lemmas.Nat.{mul-le, mul-add-lt, mod-mul-add}
use Rattle.std.proofs.ByRecursion.{All-from_get_or, All-take, All-drop, All-map, All-set}
use Rattle.std.proofs.lemmas.List.{length-map, length-take, length-drop, get_or-map, get_or-take, get_or-drop, map-set, set-get_or, ext_get_or}
use Rattle.std.specs.List.{AllByRecursion as All}
use Rattle.values.specs.declared.scalar.Value.{Value}
use Rattle.values.specs.declared.scalar.ValueType.{ValueType}
use Rattle.values.specs.declared.scalar.ValueType.TheVariants.{Binary}
use Rattle.values.specs.declared.packed.Cell.{Cell}
use Rattle.values.specs.Values.{type_of, finite_of}
use Rattle.values.specs.Packed.{value_of}
use Rattle.sheet.specs.declared.write.Write.{Write}
use Rattle.sheet.specs.Cells.{type_at, no_cell, no_write, Sound, Placed, Typed}
use Rattle.sheet.specs.Rows.{first_rows, overwritten}
use Rattle.sheet.specs.Laws.{FitRow}
use Rattle.sheet.proofs.Matching.{type_is}

module _ (types : List ValueType) (cells : List Cell) (rows cycle : ℕ) (filled : length cells ≡ rows * length types) (sound : Sound types cells) (inside : cycle < rows) where
  part_length : length (take (length types) (drop (cycle * length types) cells)) ≡ length types
  part_length =
      let width = length types in
      let h = mul-le (cycle + 1) width rows width (omega arith) (omega arith) in
      let m = add-mul cycle 1 width in
      let o = one-mul width in
      length-take width (drop (cycle * width) cells) ∙ (let d = length-drop (cycle * width) cells in omega arith)

  part_type : (k : ℕ) → k < length types → type_of (value_of (get_or (take (length types) (drop (cycle * length types) cells)) k no_cell)) ≡ get_or types k Binary
  part_type k l =
      let width = length types in
      let i = cycle * width + k in
      let there : i < length cells = omega (arith, mul-add-lt cycle width k rows inside l, mul_comm rows width) in
      let at = get_or-take width (drop (cycle * width) cells) k no_cell l ∙ get_or-drop (cycle * width) cells k no_cell in
      ap (λ c. type_of (value_of c)) at ∙ type_is _ _ (sound i there).0 ∙ ap (λ n. get_or types n Binary) (mod-mul-add cycle width k l)

  first_fits : FitRow types (first_rows (length types) cells cycle)
  first_fits =
      let width = length types in
      let part = take width (drop (cycle * width) cells) in
      let long : length (map type_of (map value_of part)) ≡ length types = length-map (map value_of part) type_of ∙ length-map part value_of ∙ part_length in (
        ext_get_or Binary (map type_of (map value_of part)) types long
            (λ k l.
            let m : k < length types = omega (arith, long) in
            let n : k < length part = omega (arith, part_length) in
            let o : k < length (map value_of part) = omega (arith, length-map part value_of) in
            get_or-map type_of (map value_of part) k (value_of no_cell) Binary o ∙ ap type_of (get_or-map value_of part k no_cell (value_of no_cell) n) ∙ part_type k m),
        All-map (λ v. finite_of v ≡ true) value_of part
            (All-take (λ c. finite_of (value_of c) ≡ true) width (drop (cycle * width) cells)
            (All-drop (λ c. finite_of (value_of c) ≡ true) (cycle * width) cells
            (All-from_get_or (λ c. finite_of (value_of c) ≡ true) cells no_cell (λ i l. (sound i l).1)))),
      )

one_fits : (types : List ValueType) (n : ℕ) (rows : ℕ → List Value) (w : Write) (cycle : ℕ) → Placed types n w → FitRow types (rows cycle) → FitRow types (overwritten rows w cycle)
one_fits types n rows w cycle p h =
    let v = value_of w.cell in
    elim (eqb w.cycle cycle) as (λ b. FitRow types (cond b (set (rows cycle) w.column v) (rows cycle))) [
      | true ↦ (
        map-set type_of (rows cycle) w.column v ∙ ap (λ ts. set ts w.column (type_of v)) h.0 ∙ ap (set types w.column) (type_is (type_of v) (type_at types w.column) p.2) ∙ set-get_or types w.column Binary,
        All-set (λ u. finite_of u ≡ true) (rows cycle) w.column v p.3 h.1,
      )
      | false ↦ h
    ]

all_fit : (types : List ValueType) (n : ℕ) (ws : List Write) (rows : ℕ → List Value) (cycle : ℕ) → All (Placed types n) ws → FitRow types (rows cycle) → FitRow types (fold overwritten rows ws cycle)
all_fit types n [] rows cycle p h = h
all_fit types n (w ∷ ws) rows cycle p h = all_fit types n ws (overwritten rows w) cycle p.1 (one_fits types n rows w cycle p.0 h)

pub standing_fit : (types : List ValueType) (cells : List Cell) (n cycle : ℕ) (ws : List Write) → length cells ≡ n * length types → Sound types cells → Typed types n ws → cycle < n → FitRow types (fold overwritten (first_rows (length types) cells) ws cycle)
standing_fit types cells n cycle ws filled sound typed inside =
    all_fit types n ws (first_rows (length types) cells) cycle (All-from_get_or (Placed types n) ws no_write typed) (first_fits types cells n cycle filled sound inside)
