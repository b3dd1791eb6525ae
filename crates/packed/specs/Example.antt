-- A delay that is fed by the sum of itself and a column, and its file; the file of the draft that is built in.
use Rattle.std.specs.Prelude.{◌≡◌, ℕ, List, [], ◌∷◌, pos, Ok}
use Rattle.values.specs.declared.scalar.ValueType.TheVariants.{Whole}
use Rattle.values.specs.declared.scalar.Value.TheVariants as Values
use Rattle.draft.specs.declared.source.Source.TheVariants.{Column, Block}
use Rattle.draft.specs.Drafts.{built_in}
use Rattle.draft.specs.File.{DraftOf, FileOf, read_file}

unfoldable pub counter : DraftOf
counter = record {
  columns = Whole ∷ [];
  blocks =
      record { kind = 2; sources = Block 1 ∷ []; params = Values.Whole (pos 5) ∷ []; name = 0x44 ∷ [] }
      ∷ record { kind = 11; sources = Block 0 ∷ Column 0 ∷ []; params = []; name = [] } ∷ [];
}

unfoldable pub counter_file : List ℕ
counter_file = 0x01 ∷ 0x10 ∷ 0x40 ∷ 0x80 ∷ 0x08 ∷ 0x91 ∷ 0x81 ∷ 0x80 ∷ 0x01 ∷ 0x40 ∷ 0x44 ∷ 0x2D ∷ 0x00 ∷ 0x80 ∷ 0x00 ∷ []

abbrev pub CounterFile : Type 0
CounterFile = FileOf counter counter_file × (read_file counter_file ≡ Ok counter)

unfoldable pub built_in_file : List ℕ
built_in_file = 0x01 ∷ 0x00 ∷ 0x20 ∷ 0x04 ∷ 0x90 ∷ 0x80 ∷ 0x40 ∷ []

abbrev pub BuiltInFile : Type 0
BuiltInFile = FileOf built_in built_in_file × (read_file built_in_file ≡ Ok built_in)
