-- The inputs of a block, gathered from its sources.
use Rattle.std.proofs.Common.{◌≡◌, ℕ, ◌+◌, ◌<◌, List, [], ◌∷◌, ◌++◌, map, length, get_or, take, set, Some, vec_items, sym, ap, ◌∙◌}
use Rattle.std.proofs.lemmas.List.{take_more_set, map_more}
use Rattle.values.specs.declared.scalar.State.{State}
use Rattle.values.specs.declared.scalar.Value.{Value}
use Rattle.blocks.specs.Library.{Library}
use Rattle.draft.specs.declared.source.Source.{Source}
use Rattle.draft.specs.declared.draft.Block.{Block}
use Rattle.walk.specs.Cycle.{read, inputs_of, out_at, next_at}

-- one input more
pub gathered_more : (f : Source → Value) (all : List Value) (sources : List Source) (i : ℕ) (d : Source) (v : Value) → i < length all → i < length sources → v ≡ f (get_or sources i d) → take i all ≡ map f (take i sources) → take (i + 1) (set all i v) ≡ map f (take (i + 1) sources)
gathered_more f all sources i d v room there value before =
    take_more_set all i v room ∙ ap (λ l. l ++ v ∷ []) before ∙ ap (λ w. map f (take i sources) ++ w ∷ []) value ∙ sym (map_more f sources i d there)

module _ (L : Library) (b : Block) (s : State) (row : List Value) (x : ℕ → Value) (kind : ℕ) (params : List Value) (sources : List Source) (inputs : List Value)
    (kind_is : kind ≡ b.kind) (params_are : params ≡ vec_items b.params) (sources_are : sources ≡ vec_items b.sources) (gathered : inputs ≡ map (read row x) sources) where
  inputs_are : inputs ≡ inputs_of b row x
  inputs_are = gathered ∙ ap (map (read row x)) sources_are

  pub out_is : (r : Value) → r ≡ L.out kind params s inputs → r ≡ out_at L (Some b) s row x
  unfolding out_at
  out_is r e = e ∙ ap (λ k. L.out k params s inputs) kind_is ∙ ap (λ ps. L.out b.kind ps s inputs) params_are ∙ ap (L.out b.kind (vec_items b.params) s) inputs_are

  pub next_is : (r : State) → r ≡ L.next kind params s inputs → r ≡ next_at L (Some b) s row x
  unfolding next_at
  next_is r e = e ∙ ap (λ k. L.next k params s inputs) kind_is ∙ ap (λ ps. L.next b.kind ps s inputs) params_are ∙ ap (L.next b.kind (vec_items b.params) s) inputs_are
