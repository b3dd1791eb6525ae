-- The counter, cycle by cycle.
use Rattle.std.proofs.Common.{◌≡◌, ℕ, zero, suc, List, [], ◌∷◌, map, get_or, pos, Some, vec_items, refl, ap, ◌∙◌}
use Rattle.values.specs.declared.scalar.State.{State}
use Rattle.values.specs.declared.scalar.Value.{Value}
use Rattle.values.specs.declared.scalar.Value.TheVariants.{Whole}
use Rattle.values.specs.declared.scalar.ValueType.TheVariants as T
use Rattle.values.specs.Values.{absent, idle, coerce}
use Rattle.plant.specs.Plant.{plant}
use Rattle.draft.specs.declared.source.Source.{Source}
use Rattle.draft.specs.declared.source.Source.TheVariants.{Column, Block as Output}
use Rattle.draft.specs.declared.draft.Block.{Block}
use Rattle.walk.specs.Cycle.{read, shown, out_at, next_at, first_at, Solves}
use Rattle.walk.specs.Walk.{Walks, start, pass}
use Rattle.examples.specs.Counter.{Is, cell, Counts}

-- what the delay holds at a cycle
trace : ℕ → Value
trace zero = Whole (pos 5)
trace (suc c) = coerce T.Whole (plant.out 11 [] idle (coerce T.Whole (trace c) ∷ (cell c ∷ [])))

kept : Value → State
kept v = record { value = v; count = 0 }

-- the functions of a block by its kind, parameters and sources
module _ (b : Block) (k : ℕ) (ps : List Value) (srcs : List Source) (is : Is b k ps srcs) where
  first_by : first_at plant (Some b) ≡ plant.first k ps
  unfolding first_at
  first_by = ap (λ n. plant.first n (vec_items b.params)) is.kind_is ∙ ap (plant.first k) is.params_are

  module _ (s : State) (row : List Value) (x : ℕ → Value) where
    out_by_lem : out_at plant (Some b) s row x ≡ plant.out k ps s (map (read row x) srcs)
    unfolding out_at
    out_by_lem = ap (λ n. plant.out n (vec_items b.params) s (map (read row x) (vec_items b.sources))) is.kind_is
        ∙ ap (λ p. plant.out k p s (map (read row x) (vec_items b.sources))) is.params_are ∙ ap (λ l. plant.out k ps s (map (read row x) l)) is.sources_are

    next_by_lem : next_at plant (Some b) s row x ≡ plant.next k ps s (map (read row x) srcs)
    unfolding next_at
    next_by_lem = ap (λ n. plant.next n (vec_items b.params) s (map (read row x) (vec_items b.sources))) is.kind_is
        ∙ ap (λ p. plant.next k p s (map (read row x) (vec_items b.sources))) is.params_are ∙ ap (λ l. plant.next k ps s (map (read row x) l)) is.sources_are

module _ (d a : Block) (delay : Is d 2 (Whole (pos 5) ∷ []) (Output 1 ∷ [])) (sum : Is a 11 [] (Output 0 ∷ (Column 0 ∷ []))) (rows : ℕ → List Value) (column : (c : ℕ) → get_or (rows c) 0 absent ≡ cell c) where
  module _ (c : ℕ) (states : List State) (vs : List Value) (s : Solves plant (d ∷ (a ∷ [])) states (rows c) vs) (held : get_or states 0 idle ≡ kept (trace c)) where
    shows : get_or vs 0 absent ≡ coerce T.Whole (trace c)
    unfolding kept
    shows = s.each 0 ∙ out_by_lem d 2 _ _ delay (get_or states 0 idle) (rows c) (shown vs) ∙ ap (λ (t : State). coerce T.Whole t.value) held

    sums : get_or vs 1 absent ≡ plant.out 11 [] idle (coerce T.Whole (trace c) ∷ (cell c ∷ []))
    sums = s.each 1 ∙ out_by_lem a 11 _ _ sum (get_or states 1 idle) (rows c) (shown vs)
        ∙ ap (λ v. plant.out 11 [] idle (v ∷ (get_or (rows c) 0 absent ∷ []))) shows ∙ ap (λ v. plant.out 11 [] idle (coerce T.Whole (trace c) ∷ (v ∷ []))) (column c)

  holds : {c : ℕ} {states : List State} → Walks plant (d ∷ (a ∷ [])) rows c states → get_or states 0 idle ≡ kept (trace c)
  unfolding kept trace
  holds (start b) = b.each 0 ∙ first_by d 2 _ _ delay
  holds (pass {c = c} {states = states} {values = vs} w s p) =
      p.each 0 ∙ next_by_lem d 2 _ _ delay (get_or states 0 idle) (rows c) (shown vs) ∙ ap (λ v. kept (coerce T.Whole v)) (sums c states vs s (holds w))

at_57 : coerce T.Whole (trace 57) ≡ Whole (pos 45)
unfolding trace
at_57 = refl

pub counts : Counts
counts d a delay sum rows column vs f = shows d a delay sum rows column 57 f.states vs f.solved (holds d a delay sum rows column f.walked) ∙ at_57
