-- What the tests of the three rounds find, each by itself.
use Rattle.std.specs.Prelude.{◌≡◌, ℕ, ◌<◌, true, false, ◌⊎◌, List, map, length, Some, None, vec_items, ◌≢◌}
use Rattle.std.specs.List.{slice_get}
use Rattle.values.specs.Values.{type_of}
use Rattle.values.specs.declared.scalar.Value.{Value}
use Rattle.values.specs.declared.scalar.ValueType.{ValueType}
use Rattle.blocks.specs.Library.{Library, listed}
use Rattle.blocks.specs.declared.library.Signature.{Signature}
use Rattle.draft.specs.declared.source.Source.{Source}
use Rattle.draft.specs.declared.draft.Block.{Block}
use Rattle.drawing.specs.declared.fault.CheckFault.{CheckFault}
use Rattle.drawing.specs.declared.fault.CheckFault.TheVariants.{UnknownKind, InputCount, ParameterCount, ParameterType, Unlawful, SourceAbsent, SourceType, Loop}
use Rattle.faults.specs.declared.failure.Failure.{Failure}
use Rattle.faults.specs.declared.failure.Failure.TheVariants.{Fault, NoMemory}
use Rattle.drawing.specs.Net.{Net, FirstLooped}
use Rattle.drawing.specs.Sound.{Sound, gives, Joined}
use Rattle.drawing.specs.Suits.{Suits, AllFit}

-- p is the first parameter whose type is not the one at its place
pub record Misfit (ps : List Value) (ts : List ValueType) (p : ℕ) : Type 0 where
  pub there : p < length ps
  pub differs : slice_get (map type_of ps) p ≡ slice_get ts p → ⊥
  pub before : (q : ℕ) → q < p → slice_get (map type_of ps) q ≡ slice_get ts q

-- The tests of block k that come before the test n passed: at test 4, those of the parameters before p.
pub record Passed (L : Library) (k : Block) (s : Signature) (n p : ℕ) : Type 0 where
  pub known : 1 < n → L.signature k.kind ≡ Some s
  pub inputs : 2 < n → length (vec_items k.sources) ≡ length (listed s.inputs)
  pub count : 3 < n → length (vec_items k.params) ≡ length (listed s.params)
  pub agree : (q : ℕ) → 3 < n → (n ≡ 4 → q < p) → slice_get (map type_of (vec_items k.params)) q ≡ slice_get (listed s.params) q
  pub lawful : 5 < n → L.lawful k.kind (vec_items k.params) ≡ true

-- the first test that block k, of number b, fails by itself
abbrev pub BlockFault : Library → ℕ → Block → CheckFault → Type 0
BlockFault L b k (UnknownKind c) = (c ≡ b) × (L.signature k.kind ≡ None)
BlockFault L b k (InputCount c) =
    (c ≡ b) × (s : Signature) × Passed L k s 2 0 × (length (vec_items k.sources) ≢ length (listed s.inputs))
BlockFault L b k (ParameterCount c) =
    (c ≡ b) × (s : Signature) × Passed L k s 3 0 × (length (vec_items k.params) ≢ length (listed s.params))
BlockFault L b k (ParameterType c p) =
    (c ≡ b) × (s : Signature) × Passed L k s 4 p × (p < length (vec_items k.params))
    × (slice_get (map type_of (vec_items k.params)) p ≢ slice_get (listed s.params) p)
BlockFault L b k (Unlawful c) =
    (c ≡ b) × (s : Signature) × Passed L k s 5 0 × (L.lawful k.kind (vec_items k.params) ≡ false)
BlockFault L b k (SourceAbsent c i) = ⊥
BlockFault L b k (SourceType c i) = ⊥
BlockFault L b k (Loop c) = ⊥

-- the sources before n give the types of their inputs
abbrev pub JoinedUpTo : List ValueType → List Signature → List Source → List ValueType → ℕ → Type 0
JoinedUpTo cs ss xs ts n = (i : ℕ) (x : Source) → i < n → slice_get xs i ≡ Some x → gives cs ss x ≡ slice_get ts i

-- the first source of block b that does not, and which of its two tests fails
pub record SourceFault (cs : List ValueType) (ss : List Signature) (b : ℕ) (xs : List Source) (ts : List ValueType) (e : CheckFault) : Type 0 where
  pub input : ℕ
  pub source : Source
  pub at : slice_get xs input ≡ Some source
  pub before : JoinedUpTo cs ss xs ts input
  pub fault : ((e ≡ SourceAbsent b input) × (gives cs ss source ≡ None))
      ⊎ ((e ≡ SourceType b input) × (gives cs ss source ≢ None) × (gives cs ss source ≢ slice_get ts input))

-- each block has as many inputs as its signature
abbrev pub Counted : List Block → List Signature → Type 0
Counted bs ss =
    (b : ℕ) (k : Block) (s : Signature) → slice_get bs b ≡ Some k → slice_get ss b ≡ Some s
    → length (vec_items k.sources) ≡ length (listed s.inputs)

-- the sources of the blocks before n give the types of their inputs
abbrev pub JoinedBefore : List ValueType → List Block → List Signature → ℕ → Type 0
JoinedBefore cs bs ss n =
    (b : ℕ) (k : Block) (s : Signature) → b < n → slice_get bs b ≡ Some k → slice_get ss b ≡ Some s
    → Joined cs ss (vec_items k.sources) (listed s.inputs)

-- the first source of all that does not
pub record InputFault (cs : List ValueType) (bs : List Block) (ss : List Signature) (e : CheckFault) : Type 0 where
  pub block : ℕ
  pub here : Block
  pub sign : Signature
  pub at : slice_get bs block ≡ Some here
  pub signed : slice_get ss block ≡ Some sign
  pub before : JoinedBefore cs bs ss block
  pub fault : SourceFault cs ss block (vec_items here.sources) (listed sign.inputs) e

-- why there is no order
abbrev pub Unordered : Net → Failure CheckFault → Type 0
Unordered g (Fault e) = (v : ℕ) × (e ≡ Loop v) × FirstLooped g v
Unordered g NoMemory = Unit {0}

-- what the three rounds work out of a draft that suits the library
pub record Planned (L : Library) (cs : List ValueType) (bs : List Block) (ss : List Signature) (order : List ℕ) : Type 0 where
  pub suits : Suits L cs bs
  pub signatures : AllFit L bs ss
  pub keeps : Sound cs bs ss order
