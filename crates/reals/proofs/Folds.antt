-- The digits of a word, read one by one. Assumes nothing.
use Rattle.std.proofs.Common.{◌≡◌, ℕ, ◌+◌, ◌*◌, ◌^◌, ◌<◌, ◌≤◌, eqb, List, [], ◌∷◌, length, get_or, drop, Some, None, fold, Option, sym, refl, ap, ◌∙◌, arith, pow_mono, pow-add}
use Rattle.std.proofs.lemmas.List.{at_drop_more}
use Rattle.std.proofs.lemmas.Bool.{cond-true, eq-eqb}
use Rattle.std.proofs.lemmas.Bool.Decides.{nat_tests}
use Rattle.hexadecimal.specs.Digits.{digit_of}
use Rattle.reals.specs.Digits.{more, with_digit, pattern_of}

pub none_stays : (cs : List ℕ) → fold more None cs ≡ None
none_stays [] = refl
none_stays (c ∷ cs) = none_stays cs

pub digit_small : (c d : ℕ) → digit_of c ≡ Some d → d < 16
digit_small c d e = grind (arith, nat_tests)

-- one digit more, with its value, or none
pub read_more : (cs : List ℕ) (n i : ℕ) (o d : Option ℕ) → i < length cs → digit_of (get_or cs i 0) ≡ d → o ≡ fold more (Some n) (drop i cs) → o ≡ fold more (with_digit (Some n) d) (drop (i + 1) cs)
read_more cs n i o d h q e = e ∙ at_drop_more (fold more (Some n)) cs i 0 h ∙ ap (λ a. fold more (with_digit (Some n) a) (drop (i + 1) cs)) q

-- what eight bytes write
pub whole : (cs : List ℕ) → length cs ≡ 8 → fold more (Some 0) cs ≡ pattern_of cs
whole cs h = sym (cond-true (eqb (length cs) 8) _ _ (eq-eqb (length cs) 8 h))

-- eight digits fit 32 bits
pub small : (n i : ℕ) → n < 2 ^ (4 * i) → i < 8 → n < 2 ^ 28
small n i h l = let m : 2 ^ (4 * i) ≤ 2 ^ 28 = pow_mono {i = 4 * i} {j = 28} (omega arith) in omega arith

pub small_more : (n d i : ℕ) → n < 2 ^ (4 * i) → d < 16 → n * 16 + d < 2 ^ (4 * (i + 1))
small_more n d i h l =
    let e : 2 ^ (4 * (i + 1)) ≡ 2 ^ (4 * i) * 16 = ap (λ k. 2 ^ k) (let s : 4 * (i + 1) ≡ 4 * i + 4 = omega arith in s) ∙ pow-add 2 (4 * i) 4 in omega arith
