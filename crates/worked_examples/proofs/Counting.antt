-- The counter, cycle by cycle: a delay that starts at 5, fed by the sum of itself and a column.
use Rattle.std.proofs.Common.{◌≡◌, ℕ, zero, suc, ◌<◌, ◌≤◌, List, [], ◌∷◌, map, get_or, Some, ap, ◌∙◌, arith}
use Rattle.values.specs.declared.scalar.State.{State}
use Rattle.values.specs.declared.scalar.Value.{Value}
use Rattle.values.specs.declared.scalar.ValueType.TheVariants as T
use Rattle.values.specs.Values.{absent, idle, coerce}
use Rattle.plant.specs.Plant.{plant}
use Rattle.draft.specs.declared.source.Source.TheVariants.{Column, Block as Output}
use Rattle.draft.specs.declared.draft.Block.{Block}
use Rattle.draft.specs.Drafts.{block_means}
use Rattle.draft.specs.File.{BlockOf}
use Rattle.walk.specs.Cycle.{read, shown, out_at, next_at, first_at, Solves}
use Rattle.walk.specs.Walk.{Walks, start, pass, Finds}
use Rattle.worked_examples.specs.Demonstration.{whole}

-- what the delay holds at a cycle, by the column
unfoldable pub trace : (ℕ → Value) → ℕ → Value
trace column zero = whole 5
trace column (suc c) = coerce T.Whole (plant.out 11 [] idle (coerce T.Whole (trace column c) ∷ column c ∷ []))

unfoldable pub kept : Value → State
kept v = record { value = v; count = 0 }

-- the functions of a block by what it means
module _ (b : Block) (m : BlockOf) (is : block_means b ≡ m) where
  first_by : first_at plant (Some b) ≡ plant.first m.kind m.params
  unfolding first_at
  first_by = ap (λ (k : BlockOf). plant.first k.kind k.params) is

  module _ (s : State) (row : List Value) (x : ℕ → Value) where
    out_by_lem : out_at plant (Some b) s row x ≡ plant.out m.kind m.params s (map (read row x) m.sources)
    unfolding out_at
    out_by_lem = ap (λ (k : BlockOf). plant.out k.kind k.params s (map (read row x) k.sources)) is

    next_by_lem : next_at plant (Some b) s row x ≡ plant.next m.kind m.params s (map (read row x) m.sources)
    unfolding next_at
    next_by_lem = ap (λ (k : BlockOf). plant.next k.kind k.params s (map (read row x) k.sources)) is

abbrev pub delay_of_lem : List ℕ → BlockOf
delay_of_lem name = record { kind = 2; sources = Output 1 ∷ []; params = whole 5 ∷ []; name = name }

abbrev pub sum_of : List ℕ → BlockOf
sum_of name = record { kind = 11; sources = Output 0 ∷ Column 0 ∷ []; params = []; name = name }

module _ (d a : Block) (n k : List ℕ) (delay : block_means d ≡ delay_of_lem n) (sum : block_means a ≡ sum_of k) (rows : ℕ → List Value)
    (column : ℕ → Value) (end : ℕ) (reads : (c : ℕ) → c < end → get_or (rows c) 0 absent ≡ column c) where
  module _ (c : ℕ) (states : List State) (vs : List Value) (s : Solves plant (d ∷ a ∷ []) states (rows c) vs) (held : get_or states 0 idle ≡ kept (trace column c)) where
    shows : get_or vs 0 absent ≡ coerce T.Whole (trace column c)
    unfolding kept
    shows = s.each 0 ∙ out_by_lem d (delay_of_lem n) delay (get_or states 0 idle) (rows c) (shown vs) ∙ ap (λ (t : State). coerce T.Whole t.value) held

    sums : c < end → get_or vs 1 absent ≡ plant.out 11 [] idle (coerce T.Whole (trace column c) ∷ column c ∷ [])
    sums inside = s.each 1 ∙ out_by_lem a (sum_of k) sum (get_or states 1 idle) (rows c) (shown vs)
        ∙ ap (λ v. plant.out 11 [] idle (v ∷ get_or (rows c) 0 absent ∷ [])) shows
        ∙ ap (λ v. plant.out 11 [] idle (coerce T.Whole (trace column c) ∷ v ∷ [])) (reads c inside)

  pub holds : {c : ℕ} {states : List State} → Walks plant (d ∷ a ∷ []) rows c states → c ≤ end → get_or states 0 idle ≡ kept (trace column c)
  unfolding kept trace
  holds (start b) low = b.each 0 ∙ first_by d (delay_of_lem n) delay
  holds (pass {c = c} {states = states} {values = vs} w s p) low =
      p.each 0 ∙ next_by_lem d (delay_of_lem n) delay (get_or states 0 idle) (rows c) (shown vs)
      ∙ ap (λ v. kept (coerce T.Whole v)) (sums c states vs s (holds w (omega arith)) (omega arith))

  pub counts : (c : ℕ) → c ≤ end → (vs : List Value) → Finds plant (d ∷ a ∷ []) rows c vs → get_or vs 0 absent ≡ coerce T.Whole (trace column c)
  counts c low vs f = shows c f.states vs f.solved (holds f.walked low)
