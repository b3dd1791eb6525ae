-- The standing rows, and what writes more or less do to them. Assumes nothing.
use Rattle.std.proofs.Common.{◌≡◌, ℕ, ◌+◌, ◌-◌, ◌*◌, ◌<◌, ◌≤◌, true, false, cond, eqb, List, [], ◌∷◌, map, length, take, drop, set, Some, None, fold, Option, sym, refl, ap, ◌∙◌, arith}
use Rattle.std.proofs.iter.runs.Lists.{fold-append}
use Rattle.std.proofs.lemmas.List.{map-set, take-append-drop, take_all, take_more, drop_all, nil_from_length}
use Rattle.std.proofs.lemmas.List.Sums.{fold_push}
use Rattle.std.proofs.lemmas.Bool.{eq-eqb, ne_eqb, cond-true, cond-false}
use Rattle.values.specs.declared.scalar.Value.{Value}
use Rattle.values.specs.declared.packed.Cell.{Cell}
use Rattle.values.specs.Packed.{value_of}
use Rattle.sheet.specs.declared.write.Write.{Write}
use Rattle.sheet.specs.Cells.{no_write}
use Rattle.sheet.specs.Page.{Page, appended, latest_write, struck_latest}
use Rattle.sheet.specs.Rows.{first_rows, overwritten, over, rows_of}
use Rattle.sheet.specs.Calls.{lower, lowest}
use Rattle.sheet.specs.Laws.{SameBut, SameBelow, Puts}
use Rattle.sheet.proofs.Layers.{length_over}

-- a write over rows of values, from the same write over the cells of one row
one_over : (rows : ℕ → List Value) (w : Write) (cycle : ℕ) (row : List Cell) → rows cycle ≡ map value_of row → overwritten rows w cycle ≡ map value_of (over cycle row w)
one_over rows w cycle row e =
    elim (eqb w.cycle cycle) as (λ b. cond b (set (rows cycle) w.column (value_of w.cell)) (rows cycle) ≡ map value_of (cond b (set row w.column w.cell) row)) [
      | true ↦ ap (λ l. set l w.column (value_of w.cell)) e ∙ sym (map-set value_of row w.column w.cell)
      | false ↦ e
    ]

pub rows_over : (ws : List Write) (rows : ℕ → List Value) (cycle : ℕ) (row : List Cell) → rows cycle ≡ map value_of row → fold overwritten rows ws cycle ≡ map value_of (fold (over cycle) row ws)
rows_over [] rows cycle row e = e
rows_over (w ∷ ws) rows cycle row e = rows_over ws (overwritten rows w) cycle (over cycle row w) (one_over rows w cycle row e)

-- a write changes its own cycle alone, and there its own column
pub other_cycle : (rows : ℕ → List Value) (w : Write) (k : ℕ) → k ≡ w.cycle → SameBut k rows (overwritten rows w)
other_cycle rows w k e cycle ne = cond-false _ _ _ (ne_eqb w.cycle cycle (λ q. ne (sym q ∙ sym e)))

pub own_cycle : (rows : ℕ → List Value) (w : Write) → overwritten rows w w.cycle ≡ set (rows w.cycle) w.column (value_of w.cell)
own_cycle rows w = cond-true _ _ _ (eq-eqb w.cycle w.cycle refl)

-- a cycle below the lowest of some writes, and any where there is none
abbrev Under : ℕ → Option ℕ → Type 0
Under cycle None = Unit {0}
Under cycle (Some k) = cycle < k

under_first : (cycle c : ℕ) (low : Option ℕ) → cycle < lower c low → cycle < c
under_first cycle c None h = h
under_first cycle c (Some k) h = omega arith

under_rest : (cycle c : ℕ) (low : Option ℕ) → cycle < lower c low → Under cycle low
under_rest cycle c None h = tt
under_rest cycle c (Some k) h = omega arith

untouched : (ws : List Write) (rows : ℕ → List Value) (cycle : ℕ) → Under cycle (lowest ws) → fold overwritten rows ws cycle ≡ rows cycle
untouched [] rows cycle h = refl
untouched (w ∷ ws) rows cycle h =
    let l : cycle < w.cycle = under_first cycle w.cycle (lowest ws) h in
    untouched ws (overwritten rows w) cycle (under_rest cycle w.cycle (lowest ws) h) ∙ other_cycle rows w w.cycle refl cycle (λ e. omega (arith, e))

below_from : (before after : ℕ → List Value) (low : Option ℕ) → ((cycle : ℕ) → Under cycle low → after cycle ≡ before cycle) → SameBelow low before after
below_from before after None h = λ cycle. h cycle tt
below_from before after (Some k) h = h

-- the first n of some writes leave the rows below the lowest of the others
pub cut_below : (rows : ℕ → List Value) (ws : List Write) (n : ℕ) (low : Option ℕ) → low ≡ lowest (drop n ws) → SameBelow low (fold overwritten rows ws) (fold overwritten rows (take n ws))
cut_below rows ws n low e =
    below_from _ _ low
    (λ cycle h.
    let u : Under cycle (lowest (drop n ws)) = rw (← e) h in
    sym (untouched (drop n ws) (fold overwritten rows (take n ws)) cycle u) ∙ ap (λ f. f cycle) (sym (fold-append overwritten rows (take n ws) (drop n ws))) ∙ ap (λ l. fold overwritten rows l cycle) (take-append-drop n ws))

-- one write more or less
pub append_puts : (p : Page) (w : Write) (v : Value) → value_of w.cell ≡ v → Puts w.cycle w.column v (rows_of p) (rows_of (appended p w))
append_puts p w v e =
    let more = fold_push overwritten (first_rows (length p.columns) p.first) p.writes w in (
      λ cycle ne. ap (λ f. f cycle) more ∙ other_cycle (rows_of p) w w.cycle refl cycle ne,
      ap (λ f. f w.cycle) more ∙ own_cycle (rows_of p) w ∙ ap (set (rows_of p w.cycle) w.column) e,
    )

pub strike_rows : (p : Page) → 0 < length p.writes → SameBut (latest_write p).cycle (rows_of p) (rows_of (struck_latest p))
strike_rows p l cycle ne =
    let ws = p.writes in
    let m = length ws - 1 in
    let less : m < length ws = omega arith in
    let whole : length ws ≤ m + 1 = omega arith in
    let e = sym (take_all (m + 1) ws whole) ∙ take_more ws m no_write less in
    let f = ap (fold overwritten (first_rows (length p.columns) p.first)) e ∙ fold_push overwritten (first_rows (length p.columns) p.first) (take m ws) (latest_write p) in
    sym (ap (λ g. g cycle) f ∙ other_cycle (rows_of (struck_latest p)) (latest_write p) (latest_write p).cycle refl cycle ne)

-- no row lies past the last
pub row_past : (p : Page) (cycle : ℕ) → length p.first ≤ cycle * length p.columns → [] ≡ rows_of p cycle
row_past p cycle l =
    let width = length p.columns in
    let e : first_rows width p.first cycle ≡ [] =
    ap (λ xs. map value_of (take width xs)) (drop_all (cycle * width) p.first l) ∙ ap (map value_of) (take_all width [] (omega arith)) in
    sym (rows_over p.writes (first_rows width p.first) cycle [] e ∙ ap (map value_of) (nil_from_length _ (length_over cycle p.writes [])))
