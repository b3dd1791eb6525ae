-- What every checked drawing keeps, by the signatures that it holds.
use Rattle.std.specs.Prelude.{◌≡◌, ℕ, List, map, length, Some, vec_items, Option}
use Rattle.std.specs.List.{slice_get}
use Rattle.values.specs.Values.{type_of}
use Rattle.values.specs.declared.scalar.ValueType.{ValueType}
use Rattle.blocks.specs.Library.{listed}
use Rattle.blocks.specs.declared.library.Signature.{Signature}
use Rattle.draft.specs.declared.source.Source.{Source}
use Rattle.draft.specs.declared.source.Source.TheVariants.{Column, Block as Output}
use Rattle.draft.specs.declared.draft.Block.{Block}
use Rattle.drawing.specs.Net.{Orders, Placing}
use Rattle.drawing.specs.Wiring.{net}

-- the type that a source gives, where it is there
abbrev pub gives : List ValueType → List Signature → Source → Option ValueType
gives cs ss (Column c) = slice_get cs c
gives cs ss (Output b) = slice_get (map (λ s. s.output) ss) b

-- every source gives the type of its input
abbrev pub Joined : List ValueType → List Signature → List Source → List ValueType → Type 0
Joined cs ss xs ts = (i : ℕ) (x : Source) → slice_get xs i ≡ Some x → gives cs ss x ≡ slice_get ts i

-- block k has the inputs and the parameters of its signature, and each source gives the type of its input
pub record RightTypes (cs : List ValueType) (ss : List Signature) (k : Block) (s : Signature) : Type 0 where
  pub inputs : length (vec_items k.sources) ≡ length (listed s.inputs)
  pub params : map type_of (vec_items k.params) ≡ listed s.params
  pub joined : Joined cs ss (vec_items k.sources) (listed s.inputs)

-- A signature for every block, and right types by them; an order that has every block once and respects the
-- connections, each block in it the lowest that its sources allowed.
pub record Sound (cs : List ValueType) (bs : List Block) (ss : List Signature) (order : List ℕ) : Type 0 where
  pub count : length ss ≡ length bs
  pub typed : (b : ℕ) (k : Block) (s : Signature) → slice_get bs b ≡ Some k → slice_get ss b ≡ Some s → RightTypes cs ss k s
  pub orders : Orders (net bs ss) order
  pub placing : Placing (net bs ss) order
