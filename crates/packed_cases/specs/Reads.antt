-- Whether a file reads.
use Rattle.std.specs.Prelude.{◌≡◌, ℕ, Bool, List, Some, None, Ok, Err, Option}
use Rattle.draft.specs.declared.fault.ReadFault.{ReadFault}
use Rattle.draft.specs.File.{DraftOf, read_file}

-- there is an answer where it does
abbrev pub Reads : List ℕ → Option Bool → Type 0
Reads file None = (e : ReadFault) × (read_file file ≡ Err e)
Reads file (Some _) = (d : DraftOf) × (read_file file ≡ Ok d)
