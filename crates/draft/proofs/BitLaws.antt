-- Laws of bit fields, over any width.
use Rattle.std.proofs.Common.{◌≡◌, ℕ, zero, suc, ◌+◌, ◌-◌, ◌*◌, ◌/◌, ◌%◌, ◌^◌, ◌<◌, List, [], ◌∷◌, ◌++◌, length, get_or, sym, refl, ap, ◌∙◌, append_assoc, append-nil, add-zero, pow-suc, one-add, arith, length-append}
use lib.Bits.{bit_and}
use Rattle.std.specs.Int.Digits.{number_from_digits, number_from_digits_after, AllBelowBase}
use Rattle.std.proofs.lemmas.Nat.{shr-shr, and_mask}
use Rattle.std.proofs.lemmas.Int.Digits.{number_push}
use Rattle.std.proofs.ByRecursion.{All-append, All-push}
use Rattle.std.proofs.lemmas.List.{get_or_push, get_or_append_left, get_or-append-add}
use Rattle.draft.specs.Bits.{field, bits_of}

pub length_field : (n v : ℕ) → length (field n v) ≡ n
length_field zero v = refl
length_field (suc n) v = simp length-append (omega (arith, length_field n (v / 2)))

-- the number in a field
pub number_field : (n v : ℕ) → v < 2 ^ n → number_from_digits 2 (field n v) ≡ v
number_field zero v h = omega arith
number_field (suc n) v h =
    let half : v / 2 < 2 ^ n = omega (arith, pow-suc 2 n) in
    number_push 2 (field n (v / 2)) (v % 2) ∙ omega (arith, number_field n (v / 2) half)

-- the digits that follow a, as one field with it
pub field_after : (n a : ℕ) (ds : List ℕ) → AllBelowBase 2 ds → field (n + length ds) (number_from_digits_after 2 a ds) ≡ field n a ++ ds
field_after n a [] u = ap (λ k. field k a) (add-zero n) ∙ sym (append-nil (field n a))
field_after n a (d ∷ ds) u =
    let small : d < 2 = u.0 in
    let half : (a * 2 + d) / 2 ≡ a = omega arith in
    let low : (a * 2 + d) % 2 ≡ d = omega arith in
    let wide : n + suc (length ds) ≡ suc n + length ds = omega arith in
    ap (λ k. field k (number_from_digits_after 2 (a * 2 + d) ds)) wide ∙ field_after (suc n) (a * 2 + d) ds u.1
    ∙ ap (λ l. l ++ ds) ((λ i. field n (half i) ++ (low i ∷ []))) ∙ append_assoc (field n a) (d ∷ []) ds

pub field_number : (ds : List ℕ) → AllBelowBase 2 ds → field (length ds) (number_from_digits 2 ds) ≡ ds
field_number ds u =
    let none : length ds ≡ 0 + length ds = omega arith in
    ap (λ k. field k (number_from_digits 2 ds)) none ∙ field_after 0 0 ds u

pub under_field : (n v : ℕ) → AllBelowBase 2 (field n v)
under_field zero v = tt
under_field (suc n) v = All-push (λ d. d < 2) (field n (v / 2)) (v % 2) (under_field n (v / 2)) (omega arith)

pub getD_field : (n v i k : ℕ) → i + suc k ≡ n → get_or (field n v) i 0 ≡ v / 2 ^ k % 2
getD_field zero v i k e = absurd (omega arith)
getD_field (suc n) v i zero e =
    get_or_push (field n (v / 2)) (v % 2) 0 i (omega (arith, length_field n (v / 2))) ∙ omega arith
getD_field (suc n) v i (suc k) e =
    get_or_append_left (field n (v / 2)) (v % 2 ∷ []) 0 i (omega (arith, length_field n (v / 2)))
    ∙ getD_field n (v / 2) i k (omega arith) ∙ ap (λ x. x % 2) (shr-shr v 1 k ∙ ap (λ j. v / 2 ^ j) (one-add k))

pub length_bits_of : (bs : List ℕ) → length (bits_of bs) ≡ 8 * length bs
unfolding bits_of
length_bits_of [] = refl
length_bits_of (b ∷ bs) = ap (λ n. suc (suc (suc (suc (suc (suc (suc (suc n)))))))) (length_bits_of bs) ∙ omega arith

pub under_bits_of : (bs : List ℕ) → AllBelowBase 2 (bits_of bs)
unfolding bits_of
under_bits_of [] = tt
under_bits_of (b ∷ bs) = All-append (λ d. d < 2) (field 8 b) (bits_of bs) (under_field 8 b) (under_bits_of bs)

-- bit j of byte q, where k bits of the byte follow it
pub getD_bits_of : (bs : List ℕ) (q j k : ℕ) → j + suc k ≡ 8 → q < length bs → get_or (bits_of bs) (8 * q + j) 0 ≡ get_or bs q 0 / 2 ^ k % 2
unfolding bits_of
getD_bits_of [] q j k e h = absurd (omega arith)
getD_bits_of (b ∷ bs) zero j k e h =
    let here : 8 * 0 + j ≡ j = omega arith in
    ap (λ i. get_or (field 8 b ++ bits_of bs) i 0) here ∙ get_or_append_left (field 8 b) (bits_of bs) 0 j (omega arith)
    ∙ getD_field 8 b j k e
getD_bits_of (b ∷ bs) (suc q) j k e h =
    let there : 8 * suc q + j ≡ 8 + (8 * q + j) = omega arith in
    ap (λ i. get_or (field 8 b ++ bits_of bs) i 0) there ∙ get_or-append-add (field 8 b) (bits_of bs) (8 * q + j) 0
    ∙ getD_bits_of bs q j k e (omega arith)

-- the same bit by its place in the file
pub bit_at : (bs : List ℕ) (i : ℕ) → i < 8 * length bs → bit_and (get_or bs (i / 8) 0 / 2 ^ (7 - i % 8)) 1 ≡ get_or (bits_of bs) i 0
bit_at bs i h =
    let place : 8 * (i / 8) + i % 8 ≡ i = omega arith in
    and_mask (get_or bs (i / 8) 0 / 2 ^ (7 - i % 8)) 1 ∙ sym (getD_bits_of bs (i / 8) (i % 8) (7 - i % 8) (omega arith) (omega arith))
    ∙ ap (λ k. get_or (bits_of bs) k 0) place
