-- Bits that are written after others.
use Rattle.std.specs.Prelude.{◌≡◌, ℕ, ◌+◌, List, [], ◌∷◌, ◌++◌, length}
use Rattle.draft.specs.Format.{Format}

-- the bits after are those before, and then those of the value a
abbrev pub Appends : {A : Type 0} → Format A → A → List ℕ → List ℕ → Type 0
Appends F a before after = after ≡ before ++ F.bits (length before) a

-- the bits of each value, one after the other; f gives those of one by the bits before it
abbrev pub bits_each : {A : Type 0} → (ℕ → A → List ℕ) → ℕ → List A → List ℕ
bits_each f p [] = []
bits_each f p (x ∷ xs) = f p x ++ bits_each f (p + length (f p x)) xs
