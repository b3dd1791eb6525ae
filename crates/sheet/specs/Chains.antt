-- The writes of one cycle, found from the latest back to the oldest. Assumes nothing.
use Rattle.std.specs.Prelude.{◌≡◌, ℕ, zero, suc, ◌<◌, cond, List, map, length, get_or, Some, None, Option, ◌==◌, slice_index_or}
use Rattle.sheet.specs.declared.write.Write.{Write}
use Rattle.sheet.specs.declared.write.Standing.{Standing}
use Rattle.sheet.specs.Cells.{no_write}

-- the writes of a list, and the places by which they are linked
abbrev pub written : List Standing → List Write
written standing = map (λ s. s.write) standing

abbrev pub links : List Standing → List (Option ℕ)
links standing = map (λ s. s.previous) standing

-- how many writes there are up to the latest of a cycle among the first n, and 0 where it has none there
abbrev pub up_to : List Write → ℕ → ℕ → ℕ
up_to ws cycle zero = 0
up_to ws cycle (suc n) = cond ((get_or ws n no_write).cycle == cycle) (suc n) (up_to ws cycle n)

-- the same of a place
abbrev pub through : Option ℕ → ℕ
through None = 0
through (Some k) = suc k

-- each write knows the one before it in its cycle
abbrev pub Linked : List Write → List (Option ℕ) → ℕ → Type 0
Linked ws previous n = (i : ℕ) → i < n → through (slice_index_or previous i None) ≡ up_to ws (get_or ws i no_write).cycle i

-- each cycle knows its latest write
abbrev pub Headed : List Write → List (Option ℕ) → ℕ → Type 0
Headed ws latest n = (cycle : ℕ) → cycle < length latest → through (slice_index_or latest cycle None) ≡ up_to ws cycle n

abbrev pub Within : List Write → ℕ → ℕ → Type 0
Within ws cycles n = (i : ℕ) → i < n → (get_or ws i no_write).cycle < cycles

-- the links of a list, and by cycle the places of the latest writes
pub record Chained (standing : List Standing) (latest : List (Option ℕ)) : Type 0 where
  pub within : Within (written standing) (length latest) (length standing)
  pub linked : Linked (written standing) (links standing) (length standing)
  pub headed : Headed (written standing) latest (length standing)
