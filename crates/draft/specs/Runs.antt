-- Whole runs of the reader.
use Rattle.std.specs.Prelude.{◌≡◌, ℕ, ◌≤◌, List, [], ◌∷◌, Some, None, Ok, Err, Option, Result}
use Rattle.std.specs.List.{flat_map}
use Rattle.values.specs.declared.scalar.ValueType.{ValueType}
use Rattle.draft.specs.declared.fault.ReadFault.{ReadFault}
use Rattle.draft.specs.declared.record.Record.{Record}
use Rattle.draft.specs.declared.record.Record.TheVariants.{Header as HeaderRecord, Columns, Block}
use Rattle.draft.specs.declared.record.Stage.{Stage}
use Rattle.draft.specs.declared.record.Stage.TheVariants.{Start}
use Rattle.draft.specs.Bits.{bits_of}
use Rattle.draft.specs.Format.{bind}
use Rattle.draft.specs.File.{BlockOf, DraftOf, block_format, read_file}
use Rattle.draft.specs.Reading.{HandsOut, Refuses}
use Rattle.draft.specs.Records.{block_of, columns_of}

-- the columns and the blocks that a record tells of
abbrev pub columns_in : Record → List ValueType
columns_in (HeaderRecord h) = []
columns_in (Columns c) = columns_of c
columns_in (Block b) = []

abbrev pub blocks_in : Record → List BlockOf
blocks_in (HeaderRecord h) = []
blocks_in (Columns c) = []
blocks_in (Block b) = block_of b ∷ []

abbrev pub gathered : List Record → DraftOf
gathered rs = record { columns = flat_map columns_in rs; blocks = flat_map blocks_in rs }

-- from a stage and a bit, the reader hands out the records rs in turn, and then ends or refuses
abbrev pub Run : List ℕ → Stage → ℕ → List Record → Result (Unit {0}) ReadFault → Type 0
Run file st p [] (Ok _) = (st' : Stage) × (q : ℕ) × HandsOut file st p None st' q
Run file st p [] (Err e) = Refuses file st p e
Run file st p (r ∷ rs) end = (st' : Stage) × (q : ℕ) × HandsOut file st p (Some r) st' q × Run file st' q rs end

-- the records of a run are those of the draft, and its refusal is that of the file
abbrev pub RunsReadTheFile : Type 0
RunsReadTheFile = (bytes : List ℕ) (rs : List Record) (end : Result (Unit {0}) ReadFault) → Run (bits_of bytes) Start 0 rs end → read_file bytes ≡ bind end (λ _. Ok (gathered rs))

-- Where the reader refuses it hands out nothing and has one fault to tell: asked again it tells it again, since a refusal leaves it where it stood.
abbrev pub TellsTheSameAgain : Type 0
TellsTheSameAgain = (file : List ℕ) (st : Stage) (p : ℕ) (e : ReadFault) → Refuses file st p e → ((d : ReadFault) → Refuses file st p d → d ≡ e) × ((o : Option Record) (st' : Stage) (q : ℕ) → HandsOut file st p o st' q → ⊥)

-- a record that a block or columns can be made of
abbrev pub Fit : Record → Type 0
Fit (HeaderRecord h) = Unit {0}
Fit (Columns c) = c.count ≤ 8
Fit (Block b) = block_format.fits (block_of b) × (b.inputs ≤ 4) × (b.params ≤ 4)
