-- Rows of text, and what their blocks show. Assumes nothing.
use Rattle.std.specs.Prelude.{◌≡◌, ℕ, List, [], ◌∷◌, ℤ, Some, None, Option, FitsSigned, from_bits}
use Rattle.std.specs.Int.{w16}
use Rattle.std.specs.Float.{binary32}
use Rattle.std.specs.Option.{SomeIff}
use Rattle.std.specs.Str.Parse.{IsNumeral, without_leading_sign, signed_digits_value}
use Rattle.values.specs.declared.scalar.Value.{Value}
use Rattle.values.specs.declared.scalar.Value.TheVariants.{Whole, Real}
use Rattle.values.specs.Values.{idle}
use Rattle.plant.specs.Plant.{plant}
use Rattle.reals.specs.Digits.{pattern_of}
use Rattle.reals.specs.declared.rows.Row.{Row}
use Rattle.reals.specs.declared.rows.Row.TheVariants.{Limit, Sequence, Scale}

abbrev pub real_of : ℕ → Value
real_of bits = Real (from_bits binary32 bits)

abbrev pub shown_of : Row → Value
shown_of (Limit low high x) = plant.out 10 (real_of low ∷ (real_of high ∷ [])) idle (real_of x ∷ [])
shown_of (Sequence m x) = plant.out 12 (Whole m ∷ []) idle (real_of x ∷ [])
shown_of (Scale a b c d x) = plant.out 14 (real_of a ∷ (real_of b ∷ (real_of c ∷ (real_of d ∷ [])))) idle (real_of x ∷ [])

-- rows from the parts of a line, none where one of them is none
abbrev pub limit_of : Option ℕ → Option ℕ → Option ℕ → Option Row
limit_of None h x = None
limit_of (Some l) None x = None
limit_of (Some l) (Some h) None = None
limit_of (Some l) (Some h) (Some x) = Some (Limit l h x)

abbrev pub sequence_of : Option ℤ → Option ℕ → Option Row
sequence_of None x = None
sequence_of (Some m) None = None
sequence_of (Some m) (Some x) = Some (Sequence m x)

-- the whole number is what `parse` reads
abbrev pub ReadsSequence : List ℕ → List ℕ → Option Row → Type 0
ReadsSequence m x r = (n : Option ℤ) × SomeIff n (IsNumeral 10 (without_leading_sign m) × FitsSigned w16 (signed_digits_value 10 m)) (signed_digits_value 10 m) × (r ≡ sequence_of n (pattern_of x))

abbrev pub scale_of : Option ℕ → Option ℕ → Option ℕ → Option ℕ → Option ℕ → Option Row
scale_of None b c d x = None
scale_of (Some a) None c d x = None
scale_of (Some a) (Some b) None d x = None
scale_of (Some a) (Some b) (Some c) None x = None
scale_of (Some a) (Some b) (Some c) (Some d) None = None
scale_of (Some a) (Some b) (Some c) (Some d) (Some x) = Some (Scale a b c d x)
