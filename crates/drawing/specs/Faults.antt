-- What is wrong with a draft, and which fault comes first.
use Rattle.std.specs.Prelude.{◌≡◌, ℕ, ◌<◌, ◌≤◌, false, ◌⊎◌, List, [], ◌∷◌, map, length, Some, None, vec_items, ◌≢◌}
use Rattle.std.specs.List.{slice_get}
use Rattle.faults.specs.declared.report.Report.{Report}
use Rattle.values.specs.Values.{type_of}
use Rattle.values.specs.declared.scalar.ValueType.{ValueType}
use Rattle.blocks.specs.Library.{Library, listed}
use Rattle.blocks.specs.declared.library.Signature.{Signature}
use Rattle.draft.specs.declared.source.Source.{Source}
use Rattle.draft.specs.declared.source.Source.TheVariants.{Column, Block as Output}
use Rattle.draft.specs.declared.draft.Block.{Block}
use Rattle.drawing.specs.declared.fault.CheckFault.{CheckFault}
use Rattle.drawing.specs.declared.fault.CheckFault.TheVariants.{UnknownKind, InputCount, ParameterCount, ParameterType, Unlawful, SourceAbsent, SourceType, Loop}
use Rattle.faults.specs.declared.failure.Failure.{Failure}
use Rattle.faults.specs.declared.failure.Failure.TheVariants.{Fault, NoMemory}
use Rattle.drawing.specs.Net.{Looped}
use Rattle.drawing.specs.Wiring.{net}
use Rattle.drawing.specs.Sound.{gives}
use Rattle.drawing.specs.Suits.{Signed, Suits}

-- by the draughtsman: layer 2, at the block, and at the input or the parameter where there is one
abbrev pub by_draughtsman : ℕ → ℕ → ℕ → Report
by_draughtsman n b i = record { number = n; layer = 2; place = (b, i) }

abbrev pub check_report : CheckFault → Report
check_report (UnknownKind b) = by_draughtsman 11 b 0
check_report (InputCount b) = by_draughtsman 12 b 0
check_report (ParameterCount b) = by_draughtsman 13 b 0
check_report (ParameterType b p) = by_draughtsman 13 b p
check_report (Unlawful b) = by_draughtsman 14 b 0
check_report (SourceAbsent b i) = by_draughtsman 15 b i
check_report (SourceType b i) = by_draughtsman 16 b i
check_report (Loop b) = by_draughtsman 17 b 0

-- When a fault is found: the round; in it the block; at the block the test; at the test the parameter.
-- The second round goes by inputs, and tests each input twice.
abbrev pub turn : CheckFault → List ℕ
turn (UnknownKind b) = 1 ∷ b ∷ 1 ∷ 0 ∷ []
turn (InputCount b) = 1 ∷ b ∷ 2 ∷ 0 ∷ []
turn (ParameterCount b) = 1 ∷ b ∷ 3 ∷ 0 ∷ []
turn (ParameterType b p) = 1 ∷ b ∷ 4 ∷ p ∷ []
turn (Unlawful b) = 1 ∷ b ∷ 5 ∷ 0 ∷ []
turn (SourceAbsent b i) = 2 ∷ b ∷ i ∷ 1 ∷ []
turn (SourceType b i) = 2 ∷ b ∷ i ∷ 2 ∷ []
turn (Loop b) = 3 ∷ b ∷ 0 ∷ 0 ∷ []

-- the order of a dictionary
abbrev pub Lower : List ℕ → List ℕ → Type 0
Lower [] [] = ⊥
Lower [] (y ∷ ys) = Unit {0}
Lower (x ∷ xs) [] = ⊥
Lower (x ∷ xs) (y ∷ ys) = (x < y) ⊎ ((x ≡ y) × Lower xs ys)

-- the signatures of the blocks, where the library knows every kind
abbrev pub Signs : Library → List Block → List Signature → Type 0
Signs L bs ss = map Some ss ≡ map (λ b. L.signature b.kind) bs

-- a source that is not there
abbrev pub Absent : List ValueType → List Block → Source → Type 0
Absent cs bs (Column c) = length cs ≤ c
Absent cs bs (Output b) = length bs ≤ b

-- what each fault says of a draft
abbrev pub Wrong : Library → List ValueType → List Block → CheckFault → Type 0
Wrong L cs bs (UnknownKind b) = (k : Block) × (slice_get bs b ≡ Some k) × (L.signature k.kind ≡ None)
Wrong L cs bs (InputCount b) =
    (k : Block) × (s : Signature) × Signed L bs b k s × (length (vec_items k.sources) ≢ length (listed s.inputs))
Wrong L cs bs (ParameterCount b) =
    (k : Block) × (s : Signature) × Signed L bs b k s × (length (vec_items k.params) ≢ length (listed s.params))
Wrong L cs bs (ParameterType b p) =
    (k : Block) × (s : Signature) × Signed L bs b k s × (p < length (vec_items k.params))
    × (slice_get (map type_of (vec_items k.params)) p ≢ slice_get (listed s.params) p)
Wrong L cs bs (Unlawful b) = (k : Block) × (slice_get bs b ≡ Some k) × (L.lawful k.kind (vec_items k.params) ≡ false)
Wrong L cs bs (SourceAbsent b i) =
    (k : Block) × (x : Source) × (slice_get bs b ≡ Some k) × (slice_get (vec_items k.sources) i ≡ Some x) × Absent cs bs x
Wrong L cs bs (SourceType b i) =
    (k : Block) × (s : Signature) × (x : Source) × (ss : List Signature) × Signed L bs b k s × Signs L bs ss
    × (slice_get (vec_items k.sources) i ≡ Some x) × (gives cs ss x ≢ slice_get (listed s.inputs) i)
Wrong L cs bs (Loop b) = (ss : List Signature) × Signs L bs ss × Looped (net bs ss) b

-- the fault that is found first
pub record First (L : Library) (cs : List ValueType) (bs : List Block) (e : CheckFault) : Type 0 where
  pub wrong : Wrong L cs bs e
  pub earliest : (d : CheckFault) → Lower (turn d) (turn e) → Wrong L cs bs d → ⊥

-- a refusal: the fault that is found first; memory may be wanting at any draft
abbrev pub Refuses : Library → List ValueType → List Block → Failure CheckFault → Type 0
Refuses L cs bs (Fault e) = First L cs bs e
Refuses L cs bs NoMemory = Unit {0}

-- at most one fault is the first
abbrev pub OneFirst : Type 0
OneFirst = (L : Library) (cs : List ValueType) (bs : List Block) (d e : CheckFault) → First L cs bs d → First L cs bs e → d ≡ e

-- where a draft suits the library, nothing is wrong with it
abbrev pub SuitedIsRight : Type 0
SuitedIsRight = (L : Library) (cs : List ValueType) (bs : List Block) → Suits L cs bs → (e : CheckFault) → Wrong L cs bs e → ⊥

-- a draft suits the library, or has a fault that is found first
abbrev pub SuitsOrFirst : Type 0
SuitsOrFirst = (L : Library) (cs : List ValueType) (bs : List Block) → Suits L cs bs ⊎ ((e : CheckFault) × First L cs bs e)
