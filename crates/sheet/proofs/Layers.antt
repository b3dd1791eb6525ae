-- The writes of a cycle over its row, from the latest back. Assumes nothing.
use Rattle.std.proofs.Common.{◌≡◌, ℕ, zero, suc, ◌<◌, ◌≤◌, Bool, true, false, cond, eqb, ◌≢◌, List, [], ◌∷◌, length, get_or, take, set, replicate, Some, None, fold, Option, sym, refl, ap, ◌∙◌, subst, ⊎_elim, add-one, arith}
use Rattle.std.proofs.lemmas.List.{length-set, length-replicate, get_or-replicate, get_or-set_same, get_or-set_other, ext_get_or}
use Rattle.std.proofs.lemmas.List.Sums.{fold_more}
use Rattle.std.proofs.lemmas.Bool.{cases_eq, cases_lt, cases_Bool, eq-eqb, ne_eqb, cond-true, cond-false, both_ways}
use Rattle.values.specs.declared.packed.Cell.{Cell}
use Rattle.sheet.specs.declared.write.Write.{Write}
use Rattle.sheet.specs.Cells.{no_cell, no_write}
use Rattle.sheet.specs.Chains.{up_to, through}
use Rattle.sheet.specs.Rows.{over}
use Rattle.sheet.proofs.Chaining.{Hit, hit_from, up_to_yes, up_to_no}

-- the row with the first n writes over it
abbrev pub layer : ℕ → List Cell → List Write → ℕ → List Cell
layer cycle first ws n = fold (over cycle) first (take n ws)

pub length_over : (cycle : ℕ) (ws : List Write) (row : List Cell) → length (fold (over cycle) row ws) ≡ length row
length_over cycle [] row = refl
length_over cycle (w ∷ ws) row =
    length_over cycle ws (over cycle row w) ∙
    elim (eqb w.cycle cycle) as (λ b. length (cond b (set row w.column w.cell) row) ≡ length row) [ true ↦ length-set row w.column w.cell | false ↦ refl ]

module _ (cycle : ℕ) (first : List Cell) (ws : List Write) (n : ℕ) (there : n < length ws) where
  more : layer cycle first ws (suc n) ≡ over cycle (layer cycle first ws n) (get_or ws n no_write)
  more = ap (layer cycle first ws) (sym (add-one n)) ∙ fold_more (over cycle) first ws n no_write there

  pub layer_no : ((get_or ws n no_write).cycle ≡ cycle → ⊥) → layer cycle first ws (suc n) ≡ layer cycle first ws n
  layer_no ne = more ∙ cond-false _ _ _ (ne_eqb _ _ ne)

  pub layer_yes : (get_or ws n no_write).cycle ≡ cycle → layer cycle first ws (suc n) ≡ set (layer cycle first ws n) (get_or ws n no_write).column (get_or ws n no_write).cell
  layer_yes e = more ∙ cond-true _ _ _ (eq-eqb _ _ e)

-- writes past the latest of a cycle leave its row
pub layer_up_to : (cycle : ℕ) (first : List Cell) (ws : List Write) (n : ℕ) → n ≤ length ws → layer cycle first ws n ≡ layer cycle first ws (up_to ws cycle n)
layer_up_to cycle first ws zero h = refl
layer_up_to cycle first ws (suc n) h =
    ⊎_elim
    (λ (y : (get_or ws n no_write).cycle ≡ cycle). ap (layer cycle first ws) (sym (up_to_yes ws cycle n y)))
    (λ (no : (get_or ws n no_write).cycle ≡ cycle → ⊥).
    layer_no cycle first ws n (omega arith) no ∙ layer_up_to cycle first ws n (omega arith) ∙ ap (layer cycle first ws) (sym (up_to_no ws cycle n no)))
    (cases_eq (get_or ws n no_write).cycle cycle)

-- The row so far: a column that is given a cell has its last one, and the writes up to `at` give the others theirs.
pub record Layered (cycle : ℕ) (first : List Cell) (ws : List Write) (n : ℕ) (at : Option ℕ) (row : List Cell) (given : List Bool) : Type 0 where
  pub width : length row ≡ length first
  pub flags : length given ≡ 8
  pub hit : Hit ws cycle n at
  pub settled : (k : ℕ) → k < length first → get_or (layer cycle first ws n) k no_cell ≡ cond (get_or given k false) (get_or row k no_cell) (get_or (layer cycle first ws (through at)) k no_cell)
  pub open_yet : (k : ℕ) → k < length first → get_or given k false ≡ false → get_or row k no_cell ≡ get_or first k no_cell

pub layered_start : (cycle : ℕ) (first : List Cell) (ws : List Write) (n : ℕ) (at : Option ℕ) → length first ≤ 8 → n ≤ length ws → through at ≡ up_to ws cycle n → Layered cycle first ws n at first (replicate 8 false)
layered_start cycle first ws n at eight long e =
    record {
      width = refl;
      flags = length-replicate 8 false;
      hit = hit_from ws cycle n at e;
      settled = λ k l.
          ap (λ c. get_or c k no_cell) (layer_up_to cycle first ws n long ∙ ap (layer cycle first ws) (sym e)) ∙
          sym (cond-false _ _ _ (get_or-replicate 8 k false false (omega arith)));
      open_yet = λ k l _. refl;
    }

pub layered_end : (cycle : ℕ) (first : List Cell) (ws : List Write) (n : ℕ) (row : List Cell) (given : List Bool) → Layered cycle first ws n None row given → row ≡ layer cycle first ws n
layered_end cycle first ws n row given h =
    ext_get_or no_cell row (layer cycle first ws n) (h.width ∙ sym (length_over cycle (take n ws) first))
    (λ k l.
    let m : k < length first = omega (arith, h.width) in
    ⊎_elim
    (λ (y : get_or given k false ≡ true). sym (h.settled k m ∙ cond-true _ _ _ y))
    (λ (no : get_or given k false ≡ false). h.open_yet k m no ∙ sym (h.settled k m ∙ cond-false _ _ _ no))
    (cases_Bool (get_or given k false)))

weaker : (ws : List Write) (cycle i n : ℕ) (at : Option ℕ) → i ≤ n → Hit ws cycle i at → Hit ws cycle n at
weaker ws cycle i n None l h = tt
weaker ws cycle i n (Some k) l h = (omega (arith, h.0), h.1)

module _ (cycle : ℕ) (first : List Cell) (ws : List Write) (n i : ℕ) (next : Option ℕ) (w : Write) (row : List Cell) (given : List Bool) (eight : length first ≤ 8) (long : n ≤ length ws) (is : w ≡ get_or ws i no_write) (link : through next ≡ up_to ws w.cycle i) (before : Layered cycle first ws n (Some i) row given) where
  inside : i < length ws
  inside = omega (arith, before.hit.0)

  linked : through next ≡ up_to ws cycle i
  linked = link ∙ ap (λ (v : Write). up_to ws v.cycle i) is ∙ ap (λ c. up_to ws c i) before.hit.1

  next_hit : Hit ws cycle n next
  next_hit = weaker ws cycle i n next (omega (arith, before.hit.0)) (hit_from ws cycle i next linked)

  top : layer cycle first ws (suc i) ≡ set (layer cycle first ws i) w.column w.cell
  top = layer_yes cycle first ws i inside before.hit.1 ∙ ap (λ (v : Write). set (layer cycle first ws i) v.column v.cell) (sym is)

  -- the columns beside the write's
  beside : (k : ℕ) → k ≢ w.column → get_or (layer cycle first ws (suc i)) k no_cell ≡ get_or (layer cycle first ws (through next)) k no_cell
  beside k ne =
      ap (λ c. get_or c k no_cell) top ∙
      get_or-set_other (layer cycle first ws i) w.column k w.cell no_cell ne ∙
      ap (λ c. get_or c k no_cell) (layer_up_to cycle first ws i (omega (arith, inside)) ∙ ap (layer cycle first ws) (sym linked))

  -- a column that was given a cell keeps it
  layered_keep : (w.column < length first → get_or given w.column false ≡ true) → Layered cycle first ws n next row given
  layered_keep had =
      record {
        width = before.width;
        flags = before.flags;
        hit = next_hit;
        settled = λ k l.
            ⊎_elim
            (λ (e : k ≡ w.column).
            let y : get_or given k false ≡ true = ap (λ c. get_or given c false) e ∙ had (omega (arith, e)) in
            before.settled k l ∙ cond-true _ _ _ y ∙ sym (cond-true _ _ _ y))
            (λ (ne : k ≢ w.column).
            before.settled k l ∙ ap (λ c. cond (get_or given k false) (get_or row k no_cell) c) (beside k ne))
            (cases_eq k w.column);
        open_yet = before.open_yet;
      }

  module _ (within : w.column < length first) (no : get_or given w.column false ≡ false) where
    own : get_or (layer cycle first ws n) w.column no_cell ≡ w.cell
    own =
        let l : w.column < length (layer cycle first ws i) = omega (arith, length_over cycle (take i ws) first) in
        before.settled w.column within ∙ cond-false _ _ _ no ∙
        ap (λ c. get_or c w.column no_cell) top ∙
        get_or-set_same (layer cycle first ws i) w.column w.cell no_cell l

    marked : get_or (set given w.column true) w.column false ≡ true
    marked = get_or-set_same given w.column true false (omega (arith, before.flags))

    -- the latest write of a column gives its cell
    layered_write : Layered cycle first ws n next (set row w.column w.cell) (set given w.column true)
    layered_write =
        record {
          width = length-set row w.column w.cell ∙ before.width;
          flags = length-set given w.column true ∙ before.flags;
          hit = next_hit;
          settled = λ k l.
              ⊎_elim
              (λ (e : k ≡ w.column).
              rw e
              (own ∙ sym (cond-true _ _ _ marked ∙ get_or-set_same row w.column w.cell no_cell (omega (arith, before.width)))))
              (λ (ne : k ≢ w.column).
              rw (get_or-set_other given w.column k true false ne, get_or-set_other row w.column k w.cell no_cell ne)
              (before.settled k l ∙ ap (λ c. cond (get_or given k false) (get_or row k no_cell) c) (beside k ne)))
              (cases_eq k w.column);
          open_yet = λ k l free.
              ⊎_elim
              (λ (e : k ≡ w.column). absurd (both_ways _ (ap (λ c. get_or (set given w.column true) c false) (sym e) ∙ free) marked))
              (λ (ne : k ≢ w.column).
              get_or-set_other row w.column k w.cell no_cell ne ∙ before.open_yet k l (sym (get_or-set_other given w.column k true false ne) ∙ free))
              (cases_eq k w.column);
        }

  -- one write back
  pub layered_next : (row' : List Cell) (given' : List Bool) → (length row ≤ w.column → (row' ≡ row) × (given' ≡ given)) → (get_or given w.column false ≡ true → (row' ≡ row) × (given' ≡ given)) → (w.column < length row → get_or given w.column false ≡ false → (row' ≡ set row w.column w.cell) × (given' ≡ set given w.column true)) → Layered cycle first ws n next row' given'
  layered_next row' given' past kept put =
      let P : List Cell → List Bool → Type 0 = Layered cycle first ws n next in
      let by : (r : List Cell) (g : List Bool) → (row' ≡ r) × (given' ≡ g) → P r g → P row' given' =
      λ r g e h. subst (λ x. P x given') (sym e.0) (subst (P r) (sym e.1) h) in
      ⊎_elim
      (λ (y : get_or given w.column false ≡ true). by row given (kept y) (layered_keep (λ _. y)))
      (λ (no : get_or given w.column false ≡ false).
      ⊎_elim
      (λ (l : w.column < length row).
      by (set row w.column w.cell) (set given w.column true) (put l no) (layered_write (omega (arith, before.width)) no))
      (λ (l : length row ≤ w.column). by row given (past l) (layered_keep (λ m. absurd (omega (arith, before.width)))))
      (cases_lt w.column (length row)))
      (cases_Bool (get_or given w.column false))
