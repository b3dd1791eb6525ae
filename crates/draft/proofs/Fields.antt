-- What stands at a bit of a file, and the number in a field there.
use Rattle.std.proofs.Common.{◌≡◌, ℕ, suc, ◌+◌, ◌-◌, ◌*◌, ◌^◌, ◌<◌, ◌≤◌, min, leb, List, [], ◌∷◌, ◌++◌, length, get_or, take, drop, Ok, Err, sym, refl, ap, ◌∙◌, subst, arith, length-append, length-drop, length-take, pow_mono, le-leb}
use borrow.Author.Tests.{lt-leb}
use Rattle.std.specs.Int.Digits.{number_from_digits, AllBelowBase}
use Rattle.std.proofs.lemmas.Int.Digits.{number_more, number_lt}
use Rattle.std.proofs.ByRecursion.{All-take, All-drop}
use Rattle.std.proofs.lemmas.List.{get_or-drop, take_at, drop_at, take-take, take-append-le, drop-take, drop-drop, take-append-drop, length-take-le}
use Rattle.std.proofs.lemmas.Bool.{cond-true, cond-false}
use Rattle.draft.specs.declared.fault.ReadFault.TheVariants.{CutShort}
use Rattle.draft.specs.Bits.{field, value_at}
use Rattle.draft.specs.Format.{Stands, read_field}
use Rattle.draft.proofs.BitLaws.{length_field, number_field, field_number}

pub value_at_none : (file : List ℕ) (p : ℕ) → 0 ≡ value_at file p 0
unfolding value_at
value_at_none file p = refl

pub value_at_more : (file : List ℕ) (p i : ℕ) → p + i < length file → value_at file p i * 2 + get_or file (p + i) 0 ≡ value_at file p (i + 1)
unfolding value_at
value_at_more file p i h =
    ap (λ b. number_from_digits 2 (take i (drop p file)) * 2 + b) (sym (get_or-drop p file i 0))
    ∙ sym (number_more 2 (drop p file) i (simp length-drop (omega arith)))

pub value_at_lt : (file : List ℕ) (p n : ℕ) → AllBelowBase 2 file → value_at file p n < 2 ^ n
unfolding value_at
value_at_lt file p n u =
    let short : length (take n (drop p file)) ≤ n = simp length-take (omega arith) in
    omega (arith, number_lt 2 (take n (drop p file)) (All-take (λ d. d < 2) n (drop p file) (All-drop (λ d. d < 2) p file u)), pow_mono short)

pub read_field_cut : (file : List ℕ) (p w : ℕ) → length file < p + w → read_field file p w ≡ Err (CutShort p)
read_field_cut file p w h = cond-false (leb (p + w) (length file)) (Ok (value_at file p w)) (Err (CutShort p)) (lt-leb (p + w) (length file) h)

pub read_field_whole : (file : List ℕ) (p w : ℕ) → p + w ≤ length file → read_field file p w ≡ Ok (value_at file p w)
read_field_whole file p w h = cond-true (leb (p + w) (length file)) (Ok (value_at file p w)) (Err (CutShort p)) (le-leb (p + w) (length file) h)

module _ (file : List ℕ) (p : ℕ) (xs ys : List ℕ) where
  pub stands_first : Stands file p (xs ++ ys) → Stands file p xs
  stands_first h =
      let le : length xs ≤ length (xs ++ ys) = simp length-append (omega arith) in
      sym (take-take (length xs) (length (xs ++ ys)) (drop p file) le) ∙ ap (take (length xs)) h ∙ take_at xs ys (length xs) refl

  pub stands_second : Stands file p (xs ++ ys) → Stands file (p + length xs) ys
  stands_second h =
      ap (take (length ys)) (sym (drop-drop (length xs) p file))
      ∙ sym (drop-take (length xs) (length ys) (drop p file))
      ∙ ap (λ n. drop (length xs) (take n (drop p file))) (sym (length-append xs ys))
      ∙ ap (drop (length xs)) h ∙ drop_at xs ys (length xs) refl

  pub stands_both : Stands file p xs → Stands file (p + length xs) ys → Stands file p (xs ++ ys)
  stands_both h k =
      let le : length xs ≤ length (xs ++ ys) = simp length-append (omega arith) in
      let front = take-take (length xs) (length (xs ++ ys)) (drop p file) le ∙ h in
      let back =
      ap (λ n. drop (length xs) (take n (drop p file))) (length-append xs ys) ∙ drop-take (length xs) (length ys) (drop p file)
      ∙ ap (take (length ys)) (drop-drop (length xs) p file) ∙ k in
      sym (take-append-drop (length xs) (take (length (xs ++ ys)) (drop p file))) ∙ (λ i. front i ++ back i)

pub stands_within : (file : List ℕ) (p : ℕ) (xs : List ℕ) → 0 < length xs → Stands file p xs → p + length xs ≤ length file
stands_within file p xs some h =
    let long : min (length xs) (length file - p) ≡ length xs =
    ap (min (length xs)) (sym (length-drop p file)) ∙ sym (length-take (length xs) (drop p file)) ∙ ap length h in
    omega arith

pub stands_room : (file : List ℕ) (p : ℕ) (xs : List ℕ) → p ≤ length file → Stands file p xs → p + length xs ≤ length file
stands_room file p [] h s = omega arith
stands_room file p (x ∷ xs) h s = stands_within file p (x ∷ xs) (omega arith) s

-- the front of what stands
pub stands_none : (file : List ℕ) (p q : ℕ) (xs : List ℕ) → q ≡ p → Stands file p (take (q - p) xs)
stands_none file p q xs e = let none : 0 ≡ q - p = omega arith in subst (λ n. Stands file p (take n xs)) none refl

pub stands_front : (file : List ℕ) (p k : ℕ) (xs ys : List ℕ) → k ≤ length xs → Stands file p (take k xs) → Stands file p (take k (xs ++ ys))
stands_front file p k xs ys h s = subst (Stands file p) (sym (take-append-le k xs ys h)) s

take_past : (n : ℕ) (xs ys : List ℕ) → take (length xs + n) (xs ++ ys) ≡ xs ++ take n ys
take_past n [] ys = let none : 0 + n ≡ n = omega arith in ap (λ k. take k ys) none
take_past n (x ∷ xs) ys =
    let one : suc (length xs) + n ≡ suc (length xs + n) = omega arith in
    ap (λ k. take k (x ∷ xs ++ ys)) one ∙ ap (λ l. x ∷ l) (take_past n xs ys)

pub stands_after : (file : List ℕ) (p q r : ℕ) (xs ys : List ℕ) → q ≡ p + length xs → q ≤ r → Stands file p xs → Stands file q (take (r - q) ys) → Stands file p (take (r - p) (xs ++ ys))
stands_after file p q r xs ys e h s t =
    let more : length xs + (r - q) ≡ r - p = omega arith in
    let parts : xs ++ take (r - q) ys ≡ take (r - p) (xs ++ ys) = sym (take_past (r - q) xs ys) ∙ ap (λ n. take n (xs ++ ys)) more in
    subst (Stands file p) parts (stands_both file p xs (take (r - q) ys) s (subst (λ n. Stands file n (take (r - q) ys)) e t))

pub value_at_field : (file : List ℕ) (p w v : ℕ) → v < 2 ^ w → Stands file p (field w v) → value_at file p w ≡ v
unfolding value_at
value_at_field file p w v small h =
    ap (λ n. number_from_digits 2 (take n (drop p file))) (sym (length_field w v)) ∙ ap (number_from_digits 2) h ∙ number_field w v small

pub field_value_at : (file : List ℕ) (p w : ℕ) → AllBelowBase 2 file → p + w ≤ length file → Stands file p (field w (value_at file p w))
unfolding value_at
field_value_at file p w u h =
    let ds = take w (drop p file) in
    let long : length ds ≡ w = length-take-le w (drop p file) (simp length-drop (omega arith)) in
    let same : field w (number_from_digits 2 ds) ≡ ds =
    ap (λ n. field n (number_from_digits 2 ds)) (sym long) ∙ field_number ds (All-take (λ d. d < 2) w (drop p file) (All-drop (λ d. d < 2) p file u)) in
    ap (λ n. take n (drop p file)) (length_field w (number_from_digits 2 ds)) ∙ sym same
