-- What is read of a kind's number. Assumes nothing.
use Rattle.std.specs.Prelude.{◌≡◌, ℕ, Some, None, Result, MatchResult}
use Rattle.plant.specs.declared.kinds.Kind.{Kind}
use Rattle.plant.specs.declared.kinds.UnknownKind.{UnknownKind}
use Rattle.plant.specs.Plant.{kind_of}

-- the kind with the number, or the number itself where no kind has it
abbrev pub Named : ℕ → Result Kind UnknownKind → Type 0
Named k r = MatchResult r (λ q. kind_of k ≡ Some q) (λ e. (kind_of k ≡ None) × (e.0 ≡ k))
