-- A delay that starts at 5, fed by the sum of itself and a column that is 1 in cycles 0 to 39, then 0.
use Rattle.std.specs.Prelude.{◌≡◌, ℕ, cond, List, [], ◌∷◌, pos, vec_items, nat_lt, slice_index_or}
use Rattle.values.specs.declared.scalar.Value.{Value}
use Rattle.values.specs.declared.scalar.Value.TheVariants.{Whole}
use Rattle.values.specs.Values.{absent}
use Rattle.plant.specs.Plant.{plant}
use Rattle.draft.specs.declared.source.Source.{Source}
use Rattle.draft.specs.declared.source.Source.TheVariants.{Column, Block as Output}
use Rattle.draft.specs.declared.draft.Block.{Block}
use Rattle.walk.specs.Walk.{Finds}

-- a block by its kind, parameters and sources
pub record Is (b : Block) (kind : ℕ) (params : List Value) (sources : List Source) : Type 0 where
  pub kind_is : b.kind ≡ kind
  pub params_are : vec_items b.params ≡ params
  pub sources_are : vec_items b.sources ≡ sources

abbrev pub cell : ℕ → Value
cell c = Whole (pos (cond (nat_lt c 40) 1 0))

abbrev pub Counts : Type 0
Counts = (delay sum : Block) → Is delay 2 (Whole (pos 5) ∷ []) (Output 1 ∷ []) → Is sum 11 [] (Output 0 ∷ (Column 0 ∷ []))
    → (rows : ℕ → List Value) → ((c : ℕ) → slice_index_or (rows c) 0 absent ≡ cell c)
    → (vs : List Value) → Finds plant (delay ∷ (sum ∷ [])) rows 57 vs → slice_index_or vs 0 absent ≡ Whole (pos 45)
