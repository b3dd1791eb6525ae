-- When a draft suits a library: its blocks, its sources, and every way round through its connections.
use Rattle.std.specs.Prelude.{◌≡◌, ℕ, true, List, [], ◌∷◌, map, length, Some, vec_items}
use Rattle.std.specs.List.{slice_get}
use Rattle.values.specs.Values.{type_of}
use Rattle.values.specs.declared.scalar.ValueType.{ValueType}
use Rattle.blocks.specs.Library.{Library, listed}
use Rattle.blocks.specs.declared.library.Signature.{Signature}
use Rattle.draft.specs.declared.source.Source.{Source}
use Rattle.draft.specs.declared.source.Source.TheVariants.{Column, Block as Output}
use Rattle.draft.specs.declared.draft.Block.{Block}
use Rattle.drawing.specs.Members.{In}

-- The library knows the kind of block k by the signature s; the block has as many inputs as s, parameters of the
-- types of s, and they are lawful.
pub record Fits (L : Library) (k : Block) (s : Signature) : Type 0 where
  pub signs : L.signature k.kind ≡ Some s
  pub inputs : length (vec_items k.sources) ≡ length (listed s.inputs)
  pub params : map type_of (vec_items k.params) ≡ listed s.params
  pub lawful : L.lawful k.kind (vec_items k.params) ≡ true

-- block k has number b, and its kind the signature s
pub record Signed (L : Library) (bs : List Block) (b : ℕ) (k : Block) (s : Signature) : Type 0 where
  pub block : slice_get bs b ≡ Some k
  pub signs : L.signature k.kind ≡ Some s

-- the source is there and gives values of the type: a column of the type, or a block whose output has it
abbrev pub Gives : Library → List ValueType → List Block → Source → ValueType → Type 0
Gives L cs bs (Column c) t = slice_get cs c ≡ Some t
Gives L cs bs (Output u) t = (k : Block) × (s : Signature) × Signed L bs u k s × (s.output ≡ t)

-- a connection from block u into block v: u is the source of an input of v
pub record Feeds (bs : List Block) (u v : ℕ) : Type 0 where
  pub block : Block
  pub input : ℕ
  pub here : slice_get bs v ≡ Some block
  pub source : slice_get (vec_items block.sources) input ≡ Some (Output u)

-- a way along the connections from u to v; the list has the blocks that it comes to, v first
pub data Way (bs : List Block) : ℕ → ℕ → List ℕ → Type 0 where
  step : {u v : ℕ} → Feeds bs u v → Way bs u v (v ∷ [])
  onward : {u v w : ℕ} {ws : List ℕ} → Way bs u v ws → Feeds bs v w → Way bs u w (w ∷ ws)

-- block v delays
abbrev pub Delaying : Library → List Block → ℕ → Type 0
Delaying L bs v = (k : Block) × (s : Signature) × Signed L bs v k s × (s.delaying ≡ true)

-- Every block suits the library; every source is there and gives the type of its input; every way round, from a
-- block back to itself, comes to a delaying block.
pub record Suits (L : Library) (cs : List ValueType) (bs : List Block) : Type 0 where
  pub blocks : (b : ℕ) (k : Block) → slice_get bs b ≡ Some k → (s : Signature) × Fits L k s
  pub sources : (b i : ℕ) (k : Block) (s : Signature) (x : Source) → Signed L bs b k s
      → slice_get (vec_items k.sources) i ≡ Some x
      → (t : ValueType) × (slice_get (listed s.inputs) i ≡ Some t) × Gives L cs bs x t
  pub chains : (v : ℕ) (ws : List ℕ) → Way bs v v ws → (w : ℕ) × In w ws × Delaying L bs w

-- the signatures that the library gives to the blocks, each of which suits it
pub record AllFit (L : Library) (bs : List Block) (ss : List Signature) : Type 0 where
  pub count : length ss ≡ length bs
  pub fit : (i : ℕ) (k : Block) (s : Signature) → slice_get bs i ≡ Some k → slice_get ss i ≡ Some s → Fits L k s
