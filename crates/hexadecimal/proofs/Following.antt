-- The bytes read so far, and those to come.
use Rattle.std.proofs.Common.{◌≡◌, ◌+◌, ℕ, List, [], ◌∷◌, ◌++◌, Some, None, Option, refl, sym, ap, ◌∙◌, length, take, drop, get_or, arith}
use Rattle.std.proofs.lemmas.List.{append_assoc, take_all}
use Rattle.hexadecimal.specs.Digits.{before, byte_of, bytes_of}

abbrev pub after : List ℕ → Option (List ℕ) → Option (List ℕ)
after xs None = None
after xs (Some ys) = Some (xs ++ ys)

after_one : (xs : List ℕ) (b : ℕ) (o : Option (List ℕ)) → after xs (before (Some b) o) ≡ after (xs ++ b ∷ []) o
after_one xs b None = refl
after_one xs b (Some ys) = ap Some (sym (append_assoc xs (b ∷ []) ys))

-- one byte more is read
pub after_byte : (cs xs : List ℕ) (b n : ℕ) → n + 2 ≡ length cs → byte_of (get_or cs 0 0) (get_or cs 1 0) ≡ Some b
    → after xs (bytes_of cs) ≡ after (xs ++ b ∷ []) (bytes_of (take n (drop 2 cs)))
after_byte [] xs b n two is = absurd (omega (arith, two))
after_byte (h ∷ []) xs b n two is = absurd (omega (arith, two))
after_byte (h ∷ l ∷ cs) xs b n two is =
    ap (λ o. after xs (before o (bytes_of cs))) is ∙ after_one xs b (bytes_of cs)
    ∙ ap (λ t. after (xs ++ b ∷ []) (bytes_of t)) (sym (take_all n cs (omega (arith, two))))
