-- The limits of drafts, as tests. Assumes nothing.
use Rattle.std.specs.Prelude.{ℕ, Bool, true, ◌&&◌, List, [], ◌∷◌, nat_le, nat_lt}
use Rattle.std.specs.Float.Ieee.{fits}
use Rattle.std.specs.Int.Signed.{mag}
use Rattle.std.specs.Float.{float_is_finite, binary32}
use Rattle.values.specs.declared.scalar.Value.{Value}
use Rattle.values.specs.declared.scalar.Value.TheVariants as Values
use Rattle.draft.specs.declared.source.Source.{Source}
use Rattle.draft.specs.declared.source.Source.TheVariants as Sources

abbrev pub every : {A : Type 0} → (A → Bool) → List A → Bool
every test [] = true
every test (x ∷ xs) = test x && every test xs

abbrev pub printable : ℕ → Bool
printable b = nat_le 32 b && nat_le b 126

-- a value of 1, 16 or 32 bits whose real is finite
abbrev pub holdable : Value → Bool
holdable (Values.Binary b) = true
holdable (Values.Whole z) = nat_lt (mag z) 0x8000
holdable (Values.Real x) = float_is_finite x && fits binary32 x

abbrev pub numbered : Source → Bool
numbered (Sources.Column n) = nat_lt n 128
numbered (Sources.Block n) = nat_lt n 128
