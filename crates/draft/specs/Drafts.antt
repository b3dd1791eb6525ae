-- What a draft means.
use Rattle.std.specs.Prelude.{◌≡◌, ℕ, false, List, [], ◌∷◌, map, Err, vec_items}
use Rattle.values.specs.declared.scalar.Value.TheVariants as Values
use Rattle.draft.specs.declared.source.Source.TheVariants as Sources
use Rattle.draft.specs.declared.draft.Block.{Block}
use Rattle.draft.specs.declared.draft.Draft.{Draft}
use Rattle.draft.specs.declared.fault.ReadFault.{ReadFault}
use Rattle.faults.specs.declared.failure.Failure.{Failure}
use Rattle.faults.specs.declared.failure.Failure.TheVariants.{Fault, NoMemory}
use Rattle.draft.specs.File.{BlockOf, DraftOf, read_file, FileOf, Writable}
use Rattle.draft.specs.Refused.{FirstFault}

abbrev pub block_means : Block → BlockOf
block_means b = record { kind = b.kind; sources = vec_items b.sources; params = vec_items b.params; name = vec_items b.name }

abbrev pub means : Draft → DraftOf
means d = record { columns = vec_items d.columns; blocks = map block_means (vec_items d.blocks) }

-- why no draft is read of the bytes; memory may be wanting at any file
abbrev pub Unread : List ℕ → Failure ReadFault → Type 0
Unread bytes (Fault e) = read_file bytes ≡ Err e
Unread bytes NoMemory = Unit {0}

-- the draft is the one that the bytes are the file of
abbrev pub TheDraft : List ℕ → DraftOf → Type 0
TheDraft bytes d = FileOf d bytes × ((x : DraftOf) → Writable x → FileOf x bytes → x ≡ d)

-- the bytes are no draft's file, by the first fault; memory may be wanting at any file
abbrev pub NoDraft : List ℕ → Failure ReadFault → Type 0
NoDraft bytes (Fault e) = FirstFault bytes e
NoDraft bytes NoMemory = Unit {0}

-- every draft that exists can be written
abbrev pub EveryDraftFits : Type 0
EveryDraftFits = (d : Draft) → Writable (means d)

-- a nameless delay of binary values, first 0, fed by itself
abbrev pub built_in : DraftOf
built_in = record {
  columns = [];
  blocks = record { kind = 1; sources = Sources.Block 0 ∷ []; params = Values.Binary false ∷ []; name = [] } ∷ [];
}
