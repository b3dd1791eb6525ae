-- The bytes of a name, read as fields.
use Rattle.std.proofs.Common.{◌≡◌, ℕ, zero, suc, ◌+◌, ◌-◌, ◌*◌, ◌<◌, ◌≤◌, min, Bool, true, false, cond, not, nat_lt, List, [], ◌∷◌, ◌++◌, length, get_or, take, drop, Some, None, Ok, Err, sym, refl, ap, ◌∙◌, subst, arith, length-drop, ltb-false}
use Rattle.std.specs.Int.Digits.{number_from_digits as number_of}
use Rattle.std.proofs.lemmas.List.{drop-drop, take_more, get_or-drop, get_or-take, length-take-le}
use Rattle.std.specs.List.{position, position_or_len}
use Rattle.std.proofs.lemmas.List.Quantifiers.{position-Some}
use Rattle.std.proofs.lemmas.List.Sums.{fails_before_first}
use Rattle.std.proofs.lemmas.Bool.{not-true, not-false}
use Rattle.draft.specs.declared.fault.ReadFault.TheVariants.{CutShort, NameByte}
use Rattle.draft.specs.Bits.{field, bits_of, value_at}
use Rattle.draft.specs.Format.{bind, read_all}
use Rattle.draft.specs.Limits.{printable}
use Rattle.draft.specs.File.{name_byte}
use Rattle.draft.proofs.BitLaws.{number_field, length_bits_of}
use Rattle.draft.proofs.Fields.{read_field_cut, read_field_whole}
use Rattle.draft.proofs.Loops.{Left, left_start, left_more, left_fails, left_none}

byte_at : (bs : List ℕ) (q : ℕ) → q < length bs → get_or bs q 0 < 256 → value_at (bits_of bs) (8 * q) 8 ≡ get_or bs q 0
unfolding value_at bits_of
byte_at [] q h k = absurd (omega arith)
byte_at (b ∷ bs) zero h k = number_field 8 b k
byte_at (b ∷ bs) (suc q) h k =
    let on : 8 * suc q ≡ 8 + 8 * q = omega arith in
    ap (λ p. number_of 2 (take 8 (drop p (field 8 b ++ bits_of bs)))) on
    ∙ ap (λ l. number_of 2 (take 8 l)) (sym (drop-drop (8 * q) 8 (field 8 b ++ bits_of bs)))
    ∙ byte_at bs q (omega arith) k

position-None : (test : ℕ → Bool) (xs : List ℕ) → position test xs ≡ None → (i : ℕ) → i < length xs → test (get_or xs i 0) ≡ false
position-None test xs e i h = fails_before_first test xs i 0 (omega (arith, past (position_or_len test xs) (length xs) e)) where
  past : (m n : ℕ) → cond (nat_lt m n) (Some m) None ≡ None → n ≤ m
  past m n e = ltb-false m n (none (nat_lt m n) e) where
    none : (b : Bool) → cond b (Some m) None ≡ None → b ≡ false
    none true h = absurd (cc h)
    none false h = refl

-- byte k of the file begins at bit p
module _ (file : List ℕ) (k p : ℕ) (fit : (i : ℕ) → get_or (drop k file) i 0 < 256) (here : p ≡ 8 * k) where
  byte_read : (i : ℕ) → k + i < length file → name_byte.read (bits_of file) (p + 8 * i) ≡ cond (printable (get_or file (k + i) 0)) (Ok (get_or file (k + i) 0)) (Err (NameByte (p + 8 * i)))
  byte_read i h =
      let place : p + 8 * i ≡ 8 * (k + i) = omega arith in
      ap (λ r. bind r (λ v. cond (printable v) (Ok v) (Err (NameByte (p + 8 * i)))))
      (read_field_whole (bits_of file) (p + 8 * i) 8 (omega (arith, length_bits_of file)) ∙ ap Ok (ap (λ q. value_at (bits_of file) q 8) place ∙ byte_at file (k + i) h (omega (arith, fit i, get_or-drop k file i 0))))

  byte_cut : (i : ℕ) → length file ≤ k + i → name_byte.read (bits_of file) (p + 8 * i) ≡ Err (CutShort (p + 8 * i))
  byte_cut i h =
      ap (λ r. bind r (λ v. cond (printable v) (Ok v) (Err (NameByte (p + 8 * i)))))
      (read_field_cut (bits_of file) (p + 8 * i) 8 (omega (arith, length_bits_of file)))

  -- of n bytes, j are read
  bytes_left : (n j : ℕ) → j ≤ length (drop k file) → j ≤ n → ((i : ℕ) → i < j → printable (get_or (drop k file) i 0) ≡ true) → Left name_byte (bits_of file) n p (n - j) (p + 8 * j) (take j (drop k file))
  bytes_left n zero h l f =
      let all : n ≡ n - 0 = omega arith in
      let start : p ≡ p + 8 * 0 = omega arith in
      subst (λ m. Left name_byte (bits_of file) n p m (p + 8 * 0) []) all (subst (λ q. Left name_byte (bits_of file) n p n q []) start (left_start name_byte (bits_of file) n p))
  bytes_left n (suc j) h l f =
      let bits = bits_of file in
      let x = get_or file (k + j) 0 in
      let one : suc (n - suc j) ≡ n - j = omega arith in
      let on : p + 8 * j + 8 ≡ p + 8 * suc j = omega arith in
      let next : suc j ≡ j + 1 = omega arith in
      let room : k + j < length file = omega (arith, length-drop k file) in
      let good : printable x ≡ true = sym (ap printable (get_or-drop k file j 0)) ∙ f j (omega arith) in
      let read = byte_read j (omega arith) ∙ ap (λ t. cond t (Ok x) (Err (NameByte (p + 8 * j)))) good in
      let more : take (suc j) (drop k file) ≡ take j (drop k file) ++ x ∷ [] =
      ap (λ m. take m (drop k file)) next ∙ take_more (drop k file) j 0 (omega arith) ∙ ap (λ b. take j (drop k file) ++ b ∷ []) (get_or-drop k file j 0) in
      let step = left_more name_byte bits n p (n - j) (p + 8 * j) (n - suc j) (take j (drop k file)) x one (bytes_left n j (omega arith) (omega arith) (λ i lt. f i (omega arith))) read in
      subst (λ q. Left name_byte bits n p (n - suc j) q (take (suc j) (drop k file))) on (subst (Left name_byte bits n p (n - suc j) (p + 8 * j + 8)) (sym more) step)

  module _ (n m : ℕ) (name : List ℕ) (least : m ≡ min (length (drop k file)) n) (is : name ≡ take m (drop k file)) where
    long : length name ≡ m
    long = ap length is ∙ length-take-le m (drop k file) (omega arith)

    printed : (j : ℕ) → j ≤ m → ((i : ℕ) → i < j → not (printable (get_or name i 0)) ≡ false) → Left name_byte (bits_of file) n p (n - j) (p + 8 * j) (take j (drop k file))
    printed j h f =
        bytes_left n j (omega arith) (omega arith)
        (λ i lt. sym (ap printable (ap (λ l. get_or l i 0) is ∙ get_or-take m (drop k file) i 0 (omega arith))) ∙ not-false _ (f i lt))

    pub name_bad : (i : ℕ) → position (λ b. not (printable b)) name ≡ Some i → read_all name_byte n (bits_of file) p ≡ Err (NameByte (p + 8 * i))
    name_bad i e =
        let found = position-Some (λ b. not (printable b)) name i 0 e in
        let within : i < m = omega (arith, found.0, long) in
        let one : suc (n - suc i) ≡ n - i = omega arith in
        let byte : get_or name i 0 ≡ get_or file (k + i) 0 = ap (λ l. get_or l i 0) is ∙ get_or-take m (drop k file) i 0 within ∙ get_or-drop k file i 0 in
        let bad : printable (get_or file (k + i) 0) ≡ false = sym (ap printable byte) ∙ not-true _ found.1 in
        left_fails name_byte (bits_of file) n p (n - i) (p + 8 * i) (n - suc i) (take i (drop k file)) _ one (printed i (omega arith) found.2)
        (byte_read i (omega (arith, length-drop k file)) ∙ ap (λ t. cond t (Ok (get_or file (k + i) 0)) (Err (NameByte (p + 8 * i)))) bad)

    module _ (none : position (λ b. not (printable b)) name ≡ None) where
      all_printed : Left name_byte (bits_of file) n p (n - m) (p + 8 * m) (take m (drop k file))
      all_printed = printed m (omega arith) (λ i lt. position-None (λ b. not (printable b)) name none i (omega (arith, long)))

      pub name_cut : length name < n → read_all name_byte n (bits_of file) p ≡ Err (CutShort (p + 8 * length name))
      name_cut h =
          let short : m < n = omega (arith, long) in
          let one : suc (n - suc m) ≡ n - m = omega arith in
          left_fails name_byte (bits_of file) n p (n - m) (p + 8 * m) (n - suc m) (take m (drop k file)) _ one all_printed (byte_cut m (omega (arith, length-drop k file)))
          ∙ ap (λ j. Err (CutShort (p + 8 * j))) (sym long)

      pub name_ok : n ≤ length name → read_all name_byte n (bits_of file) p ≡ Ok name
      name_ok h =
          let none_left : n - m ≡ 0 = omega (arith, long) in
          left_none name_byte (bits_of file) n p (n - m) (p + 8 * m) (take m (drop k file)) none_left all_printed ∙ ap Ok (sym is)
