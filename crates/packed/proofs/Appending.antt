-- Laws of bits that are written.
use Rattle.std.proofs.Common.{◌≡◌, ℕ, zero, suc, ◌+◌, ◌-◌, ◌*◌, ◌/◌, ◌%◌, ◌^◌, ◌<◌, ◌≤◌, List, [], ◌∷◌, ◌++◌, length, map, get_or, take, set, replicate, sym, refl, ap, ◌∙◌, subst, append_assoc, append-nil, add-zero, add-suc, mul_assoc, pow-suc, add-one, arith, length-append}
use Rattle.std.proofs.lemmas.Nat.{pow_pos, pow-add, mod_below, shr_below, shr_split, shr-shr}
use Rattle.std.proofs.Math.Nat.{le-mul_of_pos_right}
use lib.Arith.{digits_lt}
use Rattle.std.proofs.lemmas.List.{replicate_more, take_at, length-take-le}
use Rattle.draft.specs.Bits.{field, bits_of}
use Rattle.draft.specs.File.{zero_bit}
use Rattle.draft.specs.Format.{Format, then, times, bits_all}
use Rattle.packed.specs.Appends.{Appends, bits_each}
use Rattle.draft.proofs.Exact.{Exact}
use Rattle.draft.proofs.BitLaws.{length_field, length_bits_of}

-- a field in two parts
pub field_split : (m n hi lo : ℕ) → lo < 2 ^ n → field (m + n) (hi * 2 ^ n + lo) ≡ field m hi ++ field n lo
field_split m zero hi lo h =
    let e : hi * 1 + lo ≡ hi = omega arith in
    (λ i. field (add-zero m i) (e i)) ∙ sym (append-nil (field m hi))
field_split m (suc n) hi lo h =
    let twice : hi * 2 ^ suc n ≡ hi * 2 ^ n * 2 = ap (λ k. hi * k) (pow-suc 2 n) ∙ sym (mul_assoc hi (2 ^ n) 2) in
    let half : (hi * 2 ^ suc n + lo) / 2 ≡ hi * 2 ^ n + lo / 2 = ap (λ k. (k + lo) / 2) twice ∙ omega arith in
    let low : (hi * 2 ^ suc n + lo) % 2 ≡ lo % 2 = ap (λ k. (k + lo) % 2) twice ∙ omega arith in
    let small : lo / 2 < 2 ^ n = omega (arith, pow-suc 2 n) in
    ap (λ k. field k (hi * 2 ^ suc n + lo)) (add-suc m n)
    ∙ (λ i. field (m + n) (half i) ++ (low i ∷ []))
    ∙ ap (λ l. l ++ (lo % 2 ∷ [])) (field_split m n hi (lo / 2) small) ∙ append_assoc (field m hi) (field n (lo / 2)) (lo % 2 ∷ [])

-- the last next of the left bits are written, of w in all
pub field_grows : (w left next v : ℕ) → next ≤ left → left ≤ w → field (w - left) (v / 2 ^ left) ++ field next (v / 2 ^ (left - next) % 2 ^ next) ≡ field (w - (left - next)) (v / 2 ^ (left - next))
field_grows w left next v h k =
    let u = v / 2 ^ (left - next) in
    let whole : left - next + next ≡ left = omega arith in
    let wide : w - left + next ≡ w - (left - next) = omega arith in
    let high : u / 2 ^ next ≡ v / 2 ^ left = shr-shr v (left - next) next ∙ ap (λ n. v / 2 ^ n) whole in
    ap (λ n. field (w - left) n ++ field next (u % 2 ^ next)) (sym high)
    ∙ sym (field_split (w - left) next (u / 2 ^ next) (u % 2 ^ next) (mod_below u (2 ^ next) (pow_pos next)))
    ∙ (λ i. field (wide i) (shr_split u next i))

-- a byte of which all but the last free bits are kept, with w bits after them, and s zeros
abbrev pub filled : ℕ → ℕ → ℕ → ℕ → ℕ → ℕ
filled b free w s v = (b / 2 ^ free * 2 ^ w + v) * 2 ^ s

byte_parts : (b j free : ℕ) → j + free ≡ 8 → field 8 b ≡ field j (b / 2 ^ free) ++ field free (b % 2 ^ free)
byte_parts b j free e =
    (λ i. field (sym e i) (sym (shr_split b free) i)) ∙ field_split j free (b / 2 ^ free) (b % 2 ^ free) (mod_below b (2 ^ free) (pow_pos free))

filled_parts : (b j free w s v : ℕ) → v < 2 ^ w → j + w + s ≡ 8 → field 8 (filled b free w s v) ≡ field j (b / 2 ^ free) ++ (field w v ++ field s 0)
filled_parts b j free w s v h e =
    let top = b / 2 ^ free * 2 ^ w + v in
    (λ i. field (sym e i) (sym (add-zero (top * 2 ^ s)) i)) ∙ field_split (j + w) s top 0 (pow_pos s)
    ∙ ap (λ l. l ++ field s 0) (field_split j w (b / 2 ^ free) v h) ∙ append_assoc (field j (b / 2 ^ free)) (field w v) (field s 0)

pub filled_small : (b j free w s v : ℕ) → b < 256 → v < 2 ^ w → j + free ≡ 8 → w + s ≡ free → (b / 2 ^ free * 2 ^ w + v < 256) × (filled b free w s v < 256)
filled_small b j free w s v h t e d =
    let first : b / 2 ^ free < 2 ^ j = shr_below b j free (subst (λ n. b < 2 ^ n) (sym e) h) in
    let two : b / 2 ^ free * 2 ^ w + v < 2 ^ j * 2 ^ w = digits_lt first t in
    let three : b / 2 ^ free * 2 ^ w + v < 2 ^ (j + w) = subst (λ n. b / 2 ^ free * 2 ^ w + v < n) (sym (pow-add 2 j w)) two in
    let four : filled b free w s v + 0 < 2 ^ (j + w) * 2 ^ s = digits_lt three (pow_pos s) in
    let wide : j + w + s ≡ 8 = omega arith in
    let all : 2 ^ (j + w) * 2 ^ s ≡ 256 = sym (pow-add 2 (j + w) s) ∙ ap (λ n. 2 ^ n) wide in
    let more : 2 ^ (j + w) ≤ 2 ^ (j + w) * 2 ^ s = le-mul_of_pos_right {m = 2 ^ s} (2 ^ (j + w)) (pow_pos s) in
    (omega (arith, three, more, all), omega (arith, four, all))

-- the same in 32 bits
pub filled_byte : (b j free w s v : ℕ) → b < 256 → v < 2 ^ w → j + free ≡ 8 → w + s ≡ free → ((b / 2 ^ free * 2 ^ w % 4294967296 + v) * 2 ^ s % 4294967296 ≡ filled b free w s v) × (filled b free w s v < 256)
filled_byte b j free w s v h t e d =
    let small = filled_small b j free w s v h t e d in
    let top : b / 2 ^ free * 2 ^ w % 4294967296 ≡ b / 2 ^ free * 2 ^ w = omega (arith, small.0) in
    let whole : filled b free w s v % 4294967296 ≡ filled b free w s v = omega (arith, small.1) in
    (ap (λ n. (n + v) * 2 ^ s % 4294967296) top ∙ whole, small.1)

-- the bits before bit j of byte q, and the bits from there
spot : (bs : List ℕ) (q j free w s v : ℕ) → q < length bs → v < 2 ^ w → j + free ≡ 8 → w + s ≡ free → (xs : List ℕ) × (ys : List ℕ) × (zs : List ℕ) × (length xs ≡ 8 * q + j) × (bits_of bs ≡ xs ++ ys) × (bits_of (set bs q (filled (get_or bs q 0) free w s v)) ≡ xs ++ (field w v ++ zs))
unfolding bits_of
spot [] q j free w s v h t e d = absurd (omega arith)
spot (b ∷ bs) zero j free w s v h t e d =
    let wide : j + w + s ≡ 8 = omega arith in (
      field j (b / 2 ^ free),
      field free (b % 2 ^ free) ++ bits_of bs,
      field s 0 ++ bits_of bs,
      omega (arith, length_field j (b / 2 ^ free)),
      ap (λ l. l ++ bits_of bs) (byte_parts b j free e) ∙ append_assoc (field j (b / 2 ^ free)) _ (bits_of bs),
      ap (λ l. l ++ bits_of bs) (filled_parts b j free w s v t wide) ∙ append_assoc (field j (b / 2 ^ free)) _ (bits_of bs)
          ∙ ap (λ l. field j (b / 2 ^ free) ++ l) (append_assoc (field w v) (field s 0) (bits_of bs)),
    )
spot (b ∷ bs) (suc q) j free w s v h t e d =
    let r = spot bs q j free w s v (omega arith) t e d in (
      field 8 b ++ r.0,
      r.1,
      r.2,
      length-append (field 8 b) r.0 ∙ omega (arith, r.3),
      ap (λ l. field 8 b ++ l) r.4 ∙ sym (append_assoc (field 8 b) r.0 _),
      ap (λ l. field 8 b ++ l) r.5 ∙ sym (append_assoc (field 8 b) r.0 _),
    )

-- two lists with one front; one goes on with u
fronts : (xs ys zs u a b : List ℕ) (n : ℕ) → length xs ≡ n → a ≡ xs ++ ys → b ≡ xs ++ (u ++ zs) → take (n + length u) b ≡ take n a ++ u
fronts xs ys zs u a b n e h k =
    let long : length (xs ++ u) ≡ n + length u = length-append xs u ∙ ap (λ m. m + length u) e in
    ap (take (n + length u)) (k ∙ sym (append_assoc xs u zs)) ∙ take_at (xs ++ u) zs (n + length u) long
    ∙ ap (λ l. l ++ u) (sym (ap (take n) h ∙ take_at xs ys n e))

pub part_written : (bs : List ℕ) (n free w s v : ℕ) → n < 8 * length bs → v < 2 ^ w → free ≡ 8 - n % 8 → w + s ≡ free → take (n + w) (bits_of (set bs (n / 8) (filled (get_or bs (n / 8) 0) free w s v))) ≡ take n (bits_of bs) ++ field w v
part_written bs n free w s v h t e d =
    let r = spot bs (n / 8) (n % 8) free w s v (omega arith) t (omega arith) d in
    let after = bits_of (set bs (n / 8) (filled (get_or bs (n / 8) 0) free w s v)) in
    ap (λ k. take (n + k) after) (sym (length_field w v)) ∙ fronts r.0 r.1 r.2 (field w v) (bits_of bs) after n (r.3 ∙ omega arith) r.4 r.5

module _ {A B : Type 0} (F : Format A) (G : A → Format B) (f : Exact F) where
  pub appends_then : (a : A) (b : B) (x y z : List ℕ) → Appends F a x y → Appends (G a) b y z → Appends (then F G) (a, b) x z
  appends_then a b x y z h k =
      let at : length y ≡ length x + F.size (length x) a = ap length h ∙ length-append x (F.bits (length x) a) ∙ ap (λ n. length x + n) (f.long (length x) a) in
      k ∙ (λ i. h i ++ (G a).bits (at i) b) ∙ append_assoc x (F.bits (length x) a) ((G a).bits (length x + F.size (length x) a) b)

module _ {A : Type 0} (f : ℕ → A → List ℕ) where
  each_push : (p : ℕ) (xs : List A) (x : A) → bits_each f p (xs ++ x ∷ []) ≡ bits_each f p xs ++ f (p + length (bits_each f p xs)) x
  each_push p [] x = append-nil (f p x) ∙ ap (λ q. f q x) (sym (add-zero p))
  each_push p (y ∷ ys) x =
      let q = p + length (f p y) in
      let far : q + length (bits_each f q ys) ≡ p + length (f p y ++ bits_each f q ys) = omega (arith, length-append (f p y) (bits_each f q ys)) in
      ap (λ l. f p y ++ l) (each_push q ys x) ∙ sym (append_assoc (f p y) (bits_each f q ys) _)
      ∙ ap (λ n. (f p y ++ bits_each f q ys) ++ f n x) far

  -- a loop's step: one value more
  pub each_more : (xs : List A) (a : A) (x y z : List ℕ) → y ≡ x ++ bits_each f (length x) xs → z ≡ y ++ f (length y) a → z ≡ x ++ bits_each f (length x) (xs ++ a ∷ [])
  each_more xs a x y z h k =
      let at : length y ≡ length x + length (bits_each f (length x) xs) = ap length h ∙ length-append x (bits_each f (length x) xs) in
      k ∙ (λ i. h i ++ f (at i) a) ∙ append_assoc x (bits_each f (length x) xs) _ ∙ ap (λ l. x ++ l) (sym (each_push (length x) xs a))

each_means : {A B : Type 0} (F : Format A) (f : Exact F) (m : B → A) (p : ℕ) (xs : List B) → bits_each (λ q x. F.bits q (m x)) p xs ≡ bits_all F p (map m xs)
each_means F f m p [] = refl
each_means F f m p (x ∷ xs) =
    ap (λ l. F.bits p (m x) ++ l) (each_means F f m (p + length (F.bits p (m x))) xs ∙ ap (λ n. bits_all F (p + n) (map m xs)) (f.long p (m x)))

-- each of the values xs, which mean ys
pub each_written : {A B : Type 0} (F : Format A) (f : Exact F) (m : B → A) (xs : List B) (ys : List A) (x y : List ℕ) → map m xs ≡ ys → y ≡ x ++ bits_each (λ q a. F.bits q (m a)) (length x) xs → Appends (times (length ys) F) ys x y
each_written F f m xs ys x y e h = h ∙ ap (λ l. x ++ l) (each_means F f m (length x) xs ∙ ap (bits_all F (length x)) e)

-- four fields, one after the other
pub four_written : (a b c d x y z u v : List ℕ) → y ≡ x ++ a → z ≡ y ++ b → u ≡ z ++ c → v ≡ u ++ d → v ≡ x ++ (a ++ (b ++ (c ++ d)))
four_written a b c d x y z u v h k l m = m ∙ ap (λ s. s ++ d) (l ∙ ap (λ s. s ++ c) (k ∙ ap (λ s. s ++ b) h)) ∙ simp append_assoc

pub bits_take : (n : ℕ) (bs : List ℕ) → n ≤ length bs → bits_of (take n bs) ≡ take (8 * n) (bits_of bs)
unfolding bits_of
bits_take zero bs h = refl
bits_take (suc n) [] h = absurd (omega arith)
bits_take (suc n) (b ∷ bs) h =
    let more : 8 * suc n ≡ suc (suc (suc (suc (suc (suc (suc (suc (8 * n)))))))) = omega arith in
    ap (λ l. field 8 b ++ l) (bits_take n bs (omega arith)) ∙ ap (λ m. take m (field 8 b ++ bits_of bs)) (sym more)

-- how many bits are written
pub length_written : (n : ℕ) (bs : List ℕ) → n ≤ 8 * length bs → length (take n (bits_of bs)) ≡ n
length_written n bs h = length-take-le n (bits_of bs) (omega (arith, length_bits_of bs))

pub bits_zeros : (p n : ℕ) → field n 0 ≡ bits_all zero_bit p (replicate n 0)
bits_zeros p n = front n ∙ sym (back n p) where
  front : (m : ℕ) → field m 0 ≡ replicate m 0
  front zero = refl
  front (suc m) = ap (λ l. l ++ 0 ∷ []) (front m) ∙ replicate_more m 0 ∙ ap (λ k. replicate k 0) (add-one m)

  back : (m q : ℕ) → bits_all zero_bit q (replicate m 0) ≡ replicate m 0
  back zero q = refl
  back (suc m) q = ap (λ l. 0 ∷ l) (back m (q + 1))
