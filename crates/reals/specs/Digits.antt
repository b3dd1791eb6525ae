-- Eight hexadecimal digits as a number. Assumes nothing.
use Rattle.std.specs.Prelude.{ℕ, ◌+◌, ◌*◌, cond, List, length, Some, None, fold, Option, ◌==◌}
use Rattle.hexadecimal.specs.Digits.{digit_of}

-- a number with one digit more, none where either is none
abbrev pub with_digit : Option ℕ → Option ℕ → Option ℕ
with_digit None d = None
with_digit (Some n) None = None
with_digit (Some n) (Some d) = Some (n * 16 + d)

abbrev pub more : Option ℕ → ℕ → Option ℕ
more n c = with_digit n (digit_of c)

abbrev pub pattern_of : List ℕ → Option ℕ
pattern_of cs = cond (length cs == 8) (fold more (Some 0) cs) None
