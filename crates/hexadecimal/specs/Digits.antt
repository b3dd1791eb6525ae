-- Hexadecimal digits, and the bytes that pairs of them write. Assumes nothing.
use Rattle.std.specs.Prelude.{ℕ, ◌+◌, ◌-◌, ◌*◌, cond, ◌&&◌, List, [], ◌∷◌, Some, None, Option, nat_le}

-- 0 to 9 and A to F, by their codes
abbrev pub digit_of : ℕ → Option ℕ
digit_of c = cond (nat_le 48 c && nat_le c 57) (Some (c - 48)) (cond (nat_le 65 c && nat_le c 70) (Some (c - 55)) None)

abbrev pub paired : Option ℕ → Option ℕ → Option ℕ
paired None l = None
paired (Some h) None = None
paired (Some h) (Some l) = Some (h * 16 + l)

-- the byte of two digits, the higher first
abbrev pub byte_of : ℕ → ℕ → Option ℕ
byte_of h l = paired (digit_of h) (digit_of l)

-- a byte before others, none where either is none
abbrev pub before : Option ℕ → Option (List ℕ) → Option (List ℕ)
before None bs = None
before (Some b) None = None
before (Some b) (Some bs) = Some (b ∷ bs)

-- the bytes of a text of digits, none where it has another character or an odd length
abbrev pub bytes_of : List ℕ → Option (List ℕ)
bytes_of [] = Some []
bytes_of (h ∷ []) = None
bytes_of (h ∷ l ∷ cs) = before (byte_of h l) (bytes_of cs)
