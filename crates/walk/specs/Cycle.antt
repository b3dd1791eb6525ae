-- One cycle of a drawing: its solution, and the states that it passes on.
use Rattle.std.specs.Prelude.{◌≡◌, ℕ, true, List, [], ◌∷◌, map, length, Some, None, vec_items, Option, slice_index_or, slice_set}
use Rattle.std.specs.List.{slice_get}
use Rattle.values.specs.declared.scalar.State.{State}
use Rattle.values.specs.declared.scalar.Value.{Value}
use Rattle.values.specs.Values.{absent, idle}
use Rattle.blocks.specs.Library.{Library}
use Rattle.blocks.specs.declared.library.Signature.{Signature}
use Rattle.draft.specs.declared.source.Source.{Source}
use Rattle.draft.specs.declared.source.Source.TheVariants.{Column, Block as Output}
use Rattle.draft.specs.declared.draft.Block.{Block}

-- what a source gives, by the row and the values of the blocks
abbrev pub read : List Value → (ℕ → Value) → Source → Value
read row x (Column c) = slice_index_or row c absent
read row x (Output b) = x b

-- the values of blocks in a list
abbrev pub shown : List Value → ℕ → Value
shown vs b = slice_index_or vs b absent

abbrev pub inputs_of : Block → List Value → (ℕ → Value) → List Value
inputs_of b row x = map (read row x) (vec_items b.sources)

-- out, next and first at a place; where there is no block, binary 0 and the idle state
unfoldable pub out_at : Library → Option Block → State → List Value → (ℕ → Value) → Value
out_at L None s row x = absent
out_at L (Some b) s row x = L.out b.kind (vec_items b.params) s (inputs_of b row x)

unfoldable pub next_at : Library → Option Block → State → List Value → (ℕ → Value) → State
next_at L None s row x = idle
next_at L (Some b) s row x = L.next b.kind (vec_items b.params) s (inputs_of b row x)

unfoldable pub first_at : Library → Option Block → State
first_at L None = idle
first_at L (Some b) = L.first b.kind (vec_items b.params)

-- every block's value is out of its state and its sources' values
pub record Solves (L : Library) (bs : List Block) (states : List State) (row : List Value) (vs : List Value) : Type 0 where
  pub each : (i : ℕ) → slice_index_or vs i absent ≡ out_at L (slice_get bs i) (slice_index_or states i idle) row (shown vs)
  pub places : length vs ≡ 64

-- the next states come from the same values
pub record Passes (L : Library) (bs : List Block) (states : List State) (row : List Value) (vs : List Value) (after : List State) : Type 0 where
  pub each : (i : ℕ) → slice_index_or after i idle ≡ next_at L (slice_get bs i) (slice_index_or states i idle) row (shown vs)
  pub places : length after ≡ 64

-- the first states
pub record Begins (L : Library) (bs : List Block) (states : List State) : Type 0 where
  pub each : (i : ℕ) → slice_index_or states i idle ≡ first_at L (slice_get bs i)
  pub places : length states ≡ 64

-- each out taken in turn
abbrev pub worked : Library → List Block → List State → List Value → List ℕ → List Value → List Value
worked L bs states row [] vs = vs
worked L bs states row (b ∷ order) vs = worked L bs states row order (slice_set vs b (out_at L (slice_get bs b) (slice_index_or states b idle) row (shown vs)))

-- the library gives each block the signature that it was checked with, and finds its parameters lawful
pub record Fitting (L : Library) (bs : List Block) (ss : List Signature) : Type 0 where
  pub signs : (i : ℕ) (b : Block) (s : Signature) → slice_get bs i ≡ Some b → slice_get ss i ≡ Some s → L.signature b.kind ≡ Some s
  pub lawful : (i : ℕ) (b : Block) → slice_get bs i ≡ Some b → L.lawful b.kind (vec_items b.params) ≡ true
