-- What the demonstration's delay shows, by the writes that stand.
use Rattle.std.proofs.Common.{◌≡◌, ℕ, ◌<◌, Bool, true, false, cond, eqb, List, [], ◌∷◌, map, length, get_or, set, None, refl, ap, ◌∙◌, subst, arith}
use Rattle.values.specs.declared.scalar.State.{State}
use Rattle.values.specs.declared.scalar.Value.{Value}
use Rattle.values.specs.declared.scalar.ValueType.TheVariants as T
use Rattle.values.specs.declared.packed.Cell.{Cell}
use Rattle.values.specs.Values.{absent, idle, coerce}
use Rattle.plant.specs.Plant.{plant}
use Rattle.draft.specs.declared.draft.Block.{Block}
use Rattle.draft.specs.Drafts.{block_means, means}
use Rattle.draft.specs.File.{BlockOf, DraftOf}
use Rattle.drawing.specs.declared.drawing.Drawing.{Drawing}
use Rattle.packed.specs.Example.{counter}
use Rattle.sheet.specs.declared.write.Write.{Write}
use Rattle.sheet.specs.Page.{write_of}
use Rattle.sheet.specs.Rows.{rows_of}
use Rattle.walk.specs.Opening.{blocks_of}
use Rattle.walk.specs.Walk.{Walks, Finds}
use Rattle.player.specs.Walker.{Walker, walked}
use Rattle.worked_examples.specs.Demonstration.{whole, sheet, cell, Reads}
use Rattle.worked_examples.proofs.Counting.{trace, kept, delay_of_lem, sum_of, holds, counts}

abbrev pub walker : List Write → ℕ → Walker
walker writes c = record { writes = writes; trial = None; cycle = c }

abbrev pub three_at_10 : List Write
three_at_10 = write_of 10 0 (whole 3) ∷ []

abbrev pub two_at_32 : List Write
two_at_32 = write_of 32 0 (whole 2) ∷ []

two_blocks : (bs : List Block) (m n : BlockOf) → map block_means bs ≡ m ∷ n ∷ [] → (b c : Block) × (bs ≡ b ∷ c ∷ []) × (block_means b ≡ m) × (block_means c ≡ n)
two_blocks [] m n e = let z : ◌≡◌ {A = ℕ} 0 1 = cc in absurd (omega arith)
two_blocks (b ∷ []) m n e = let z : ◌≡◌ {A = ℕ} 0 1 = cc in absurd (omega arith)
two_blocks (b ∷ c ∷ []) m n e = (b, c, refl, cc, cc)
two_blocks (b ∷ c ∷ d ∷ bs) m n e = let z : ◌≡◌ {A = ℕ} 0 1 = cc in absurd (omega arith)

-- a write in column 0 is read at its cycle, and the column elsewhere
abbrev written : ℕ → Value → (ℕ → Value) → ℕ → Value
written k v column c = cond (eqb k c) v (column c)

overwrites : (b : Bool) (row : List Value) (v : Value) (n : ℕ) → get_or row 0 absent ≡ whole n → get_or (cond b (set row 0 v) row) 0 absent ≡ cond b v (whole n)
overwrites true [] v n e = let z : ◌≡◌ {A = ℕ} 0 1 = cc in absurd (omega arith)
overwrites true (x ∷ row) v n e = refl
overwrites false row v n e = e

module _ (D : Drawing) (is : means D.draft ≡ counter) (cells : List Cell) (reads : Reads cells) where
  blocks : (b c : Block) × (blocks_of D ≡ b ∷ c ∷ []) × (block_means b ≡ delay_of_lem (0x44 ∷ [])) × (block_means c ≡ sum_of [])
  unfolding counter
  blocks = two_blocks (blocks_of D) _ _ (ap (λ (m : DraftOf). m.blocks) is)

  pub two : length (blocks_of D) ≡ 2
  two = ap length blocks.2

  -- the only value of the delay at a cycle
  abbrev pub Shows : List Write → ℕ → ℕ → Type 0
  Shows writes c n = (vs : List Value) → Finds plant (blocks_of D) (rows_of (walked (sheet cells) (walker writes c))) c vs → get_or vs 0 absent ≡ whole n

  shows : (writes : List Write) (column : ℕ → Value) (c n : ℕ) → ((k : ℕ) → k < 100 → get_or (rows_of (walked (sheet cells) (walker writes c)) k) 0 absent ≡ column k)
      → c < 100 → coerce T.Whole (trace column c) ≡ whole n → Shows writes c n
  shows writes column c n reads inside figure vs found =
      let rows = rows_of (walked (sheet cells) (walker writes c)) in
      counts blocks.0 blocks.1 _ _ blocks.3 blocks.4 rows column 100 reads c (omega arith) vs (subst (λ bs. Finds plant bs rows c vs) blocks.2 found) ∙ figure

  -- one write of a whole value in column 0
  over : (k v c j : ℕ) → j < 100 → get_or (rows_of (walked (sheet cells) (walker (write_of k 0 (whole v) ∷ []) c)) j) 0 absent ≡ written k (whole v) cell j
  over k v c j inside = overwrites (eqb k j) (rows_of (sheet cells) j) (whole v) _ (reads j inside)

  pub at_57 : Shows [] 57 45
  unfolding trace
  at_57 = shows [] cell 57 45 reads (omega arith) refl

  pub at_3 : Shows [] 3 8
  unfolding trace
  at_3 = shows [] cell 3 8 reads (omega arith) refl

  pub with_3 : Shows three_at_10 57 47
  unfolding trace
  with_3 = shows three_at_10 (written 10 (whole 3) cell) 57 47 (over 10 3 57) (omega arith) refl

  pub with_2 : Shows two_at_32 57 46
  unfolding trace
  with_2 = shows two_at_32 (written 32 (whole 2) cell) 57 46 (over 32 2 57) (omega arith) refl

  -- what the row of cycle 32 holds of the delay
  pub state_at_32 : (states : List State) → Walks plant (blocks_of D) (rows_of (walked (sheet cells) (walker two_at_32 57))) 32 states → get_or states 0 idle ≡ record { value = whole 37; count = 0 }
  unfolding trace kept
  state_at_32 states walks =
      let rows = rows_of (walked (sheet cells) (walker two_at_32 57)) in
      holds blocks.0 blocks.1 _ _ blocks.3 blocks.4 rows (written 32 (whole 2) cell) 100 (over 32 2 57) (subst (λ bs. Walks plant bs rows 32 states) blocks.2 walks) (omega arith)
