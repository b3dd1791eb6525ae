-- What writing a draft leaves in the memory that it is given.
use Rattle.std.specs.Prelude.{◌≡◌, ℕ, ◌*◌, ◌<◌, ◌≤◌, List, length, take, drop, Ok, Err, Result, MatchResult}
use Rattle.std.specs.List.{AllByRecursion}
use Rattle.faults.specs.declared.fault.Fault.{Fault}
use Rattle.faults.specs.declared.fault.Fault.TheVariants.{OutputShort}
use Rattle.draft.specs.File.{DraftOf, draft_format, FileOf, read_file}

-- The memory before and after, and the answer: the file stands at the front, n bytes of it, and the bytes past it stay; or the memory is shorter than the file and nothing changes.
abbrev pub Written : DraftOf → List ℕ → List ℕ → Result ℕ Fault → Type 0
Written d before after (Ok n) = (8 * n ≡ length (draft_format.bits 0 d)) × (n ≤ length before) × FileOf d (take n after) × (drop n after ≡ drop n before)
Written d before after (Err e) = (e ≡ OutputShort) × (8 * length before < length (draft_format.bits 0 d)) × (after ≡ before)

-- what was read writes back as the same bytes: whichever file the draft was read from, that is what is written, and it fits memory of its length
abbrev pub Rewritten : DraftOf → List ℕ → List ℕ → Result ℕ Fault → Type 0
Rewritten d before after r = (file : List ℕ) → AllByRecursion (λ b. b < 256) file → read_file file ≡ Ok d → MatchResult r (λ n. take n after ≡ file) (λ _. length before < length file)
