-- The order of reals: not-a-number is in no order, and of two numbers one is not above the other. Assumes nothing.
use Rattle.std.proofs.Common.{◌≡◌, ℕ, ◌+◌, ◌*◌, ◌<◌, ◌≤◌, Bool, true, false, ◌||◌, sym, refl, ap, ◌∙◌, inl, inr, eq-zero-or-pos, mul-pos, zero-mul, arith}
use lib.Ieee.{Float, nan, inf, fin, up, down, below, level, is_nan, lt, le, eq}
use lib.Ieee.Fits.{down_pos}
use lib.Ieee.Positive.{through, first_pos}
use Rattle.std.proofs.lemmas.Bool.{lt-ltb, cases_lt, or_left}
use Rattle.std.proofs.lemmas.Bool.Decides.{nat_tests}
use Rattle.blocks.proofs.Arguments.{no}

-- ---- not-a-number

pub lt_nan : (x : Float) → lt x nan ≡ false
unfolding lt
lt_nan nan = refl
lt_nan (inf s) = refl
lt_nan (fin s m e) = refl

pub nan_lt : (x : Float) → lt nan x ≡ false
unfolding lt
nan_lt x = refl

pub eq_nan : (x : Float) → eq x nan ≡ false
unfolding eq
eq_nan nan = refl
eq_nan (inf s) = refl
eq_nan (fin s m e) = refl

pub nan_eq : (x : Float) → eq nan x ≡ false
unfolding eq
nan_eq x = refl

pub le_nan : (x : Float) → le x nan ≡ false
unfolding le
le_nan nan = refl
le_nan (inf s) = refl
le_nan (fin s m e) = refl

pub nan_le : (x : Float) → le nan x ≡ false
unfolding le
nan_le x = refl

-- ---- what is ordered is a number

pub le_left : (x y : Float) → le x y ≡ true → is_nan x ≡ false
unfolding is_nan
le_left nan y h = no (sym (nan_le y) ∙ h)
le_left (inf s) y h = refl
le_left (fin s m e) y h = refl

pub le_right : (x y : Float) → le x y ≡ true → is_nan y ≡ false
unfolding is_nan
le_right x nan h = no (sym (le_nan x) ∙ h)
le_right x (inf s) h = refl
le_right x (fin s m e) h = refl

pub lt_right : (x y : Float) → lt x y ≡ true → is_nan y ≡ false
unfolding is_nan
lt_right x nan h = no (sym (lt_nan x) ∙ h)
lt_right x (inf s) h = refl
lt_right x (fin s m e) h = refl

-- ---- two magnitudes with their signs

least : (s t : Bool) (a b : ℕ) → below s a t b ≡ false → (below t b s a || level t b s a) ≡ true
least false false a b h = grind (arith, nat_tests)
least false true a b h = grind (arith, nat_tests)
least true false a b h = grind (arith, nat_tests)
least true true a b h = grind (arith, nat_tests)

strict : (s t : Bool) (a b : ℕ) → (below s a t b || level s a t b) ≡ true → below t b s a ≡ false
strict false false a b h = grind (arith, nat_tests)
strict false true a b h = grind (arith, nat_tests)
strict true false a b h = grind (arith, nat_tests)
strict true true a b h = grind (arith, nat_tests)

same : (s : Bool) (a : ℕ) → (below s a s a || level s a s a) ≡ true
same false a = grind (arith, nat_tests)
same true a = grind (arith, nat_tests)

-- ---- numbers

pub le_same : (x : Float) → is_nan x ≡ false → le x x ≡ true
unfolding le is_nan
le_same nan h = no (sym h)
le_same (inf true) h = refl
le_same (inf false) h = refl
le_same (fin s m e) h = same s (m * up e * down e)

pub le_from_not_lt : (x y : Float) → is_nan x ≡ false → is_nan y ≡ false → lt x y ≡ false → le y x ≡ true
unfolding le is_nan
le_from_not_lt nan y p q h = no (sym p)
le_from_not_lt (inf s) nan p q h = no (sym q)
le_from_not_lt (inf true) (inf true) p q h = refl
le_from_not_lt (inf true) (inf false) p q h = no (sym h)
le_from_not_lt (inf false) (inf true) p q h = refl
le_from_not_lt (inf false) (inf false) p q h = refl
le_from_not_lt (inf true) (fin t n d) p q h = no (sym h)
le_from_not_lt (inf false) (fin t n d) p q h = refl
le_from_not_lt (fin s m e) nan p q h = no (sym q)
le_from_not_lt (fin s m e) (inf true) p q h = refl
le_from_not_lt (fin s m e) (inf false) p q h = no (sym h)
le_from_not_lt (fin s m e) (fin t n d) p q h = least s t (m * up e * down d) (n * up d * down e) h

pub not_lt_from_le : (x y : Float) → le x y ≡ true → lt y x ≡ false
unfolding le
not_lt_from_le nan y h = lt_nan y
not_lt_from_le (inf s) nan h = refl
not_lt_from_le (inf true) (inf true) h = refl
not_lt_from_le (inf true) (inf false) h = refl
not_lt_from_le (inf false) (inf true) h = no h
not_lt_from_le (inf false) (inf false) h = refl
not_lt_from_le (inf true) (fin t n d) h = refl
not_lt_from_le (inf false) (fin t n d) h = no h
not_lt_from_le (fin s m e) nan h = refl
not_lt_from_le (fin s m e) (inf true) h = no h
not_lt_from_le (fin s m e) (inf false) h = refl
not_lt_from_le (fin s m e) (fin t n d) h = strict s t (m * up e * down d) (n * up d * down e) h

-- ---- three numbers: from x < y and y ≤ z it follows that x < z

zero_left : (y r : ℕ) → 0 < r → y * r ≡ 0 → y ≡ 0
zero_left y r h e = elim (eq-zero-or-pos y) [ inl z ↦ z | inr p ↦ let never : ⊥ = omega (arith, mul-pos p h) in elim never [ ] ]

zero_times : (y p : ℕ) → y ≡ 0 → y * p ≡ 0
zero_times y p e = ap (λ n. n * p) e ∙ zero-mul p

-- a product above 0, with another second factor
times : (x q r : ℕ) → 0 < r → 0 < x * q → 0 < x * r
times x q r R h = mul-pos (first_pos x q h) R

-- x / p < y / q ≤ z / r
through_strict : (x y z p q r : ℕ) → 0 < r → x * q < y * p → y * r ≤ z * q → x * r < z * p
through_strict x y z p q r R h k =
    elim (cases_lt (x * r) (z * p)) [ inl l ↦ l | inr l ↦ let never : ⊥ = omega (arith, through y z x q r p R k l) in elim never [ ] ]

-- the fractions x / p, y / q and z / r with their signs
chain : (s t u : Bool) (x y z p q r : ℕ) → 0 < p → 0 < q → 0 < r → below s (x * q) t (y * p) ≡ true → (below t (y * r) u (z * q) || level t (y * r) u (z * q)) ≡ true → below s (x * r) u (z * p) ≡ true
chain false false false x y z p q r P Q R h k =
    let a : x * q < y * p = grind (arith, nat_tests) in
    let b : y * r ≤ z * q = grind (arith, nat_tests) in
    lt-ltb (x * r) (z * p) (through_strict x y z p q r R a b)
chain false false true x y z p q r P Q R h k =
    let a : x * q < y * p = grind (arith, nat_tests) in
    let b : y * r ≡ 0 = grind (arith, nat_tests) in
    let never : ⊥ = omega (arith, zero_times y p (zero_left y r R b)) in elim never [ ]
chain false true u x y z p q r P Q R h k = no h
chain true false false x y z p q r P Q R h k =
    let a : 0 < x * q + y * p = grind (arith, nat_tests) in
    let b : y * r ≤ z * q = grind (arith, nat_tests) in
    lt-ltb 0 (x * r + z * p) (elim (cases_lt 0 (x * q)) [
      | inl l ↦ omega (arith, times x q r R l)
      | inr l ↦
          let y-above : 0 < y * r = times y p r R (omega arith) in
          omega (arith, times z q p P (omega (arith, y-above)))
    ])
chain true false true x y z p q r P Q R h k =
    let a : 0 < x * q + y * p = grind (arith, nat_tests) in
    let y-none : y * r ≡ 0 = grind (arith, nat_tests) in
    let z-none : z * q ≡ 0 = grind (arith, nat_tests) in
    let y-none-too : y * p ≡ 0 = zero_times y p (zero_left y r R y-none) in
    let z-none-too : z * p ≡ 0 = zero_times z p (zero_left z q Q z-none) in
    lt-ltb (z * p) (x * r) (omega (arith, times x q r R (omega arith)))
chain true true false x y z p q r P Q R h k =
    let a : y * p < x * q = grind (arith, nat_tests) in
    lt-ltb 0 (x * r + z * p) (omega (arith, times x q r R (omega arith)))
chain true true true x y z p q r P Q R h k =
    let a : y * p < x * q = grind (arith, nat_tests) in
    let b : z * q ≤ y * r = grind (arith, nat_tests) in
    lt-ltb (z * p) (x * r) (elim (cases_lt (z * p) (x * r)) [ inl l ↦ l | inr l ↦ let never : ⊥ = omega (arith, through x z y p r q R l b) in elim never [ ] ])

pub lt_chain : (x y z : Float) → lt x y ≡ true → le y z ≡ true → lt x z ≡ true
unfolding le
lt_chain nan y z h k = no h
lt_chain (inf s) nan z h k = no h
lt_chain (inf false) (inf t) z h k = no h
lt_chain (inf false) (fin t n d) z h k = no h
lt_chain (inf true) (inf true) z h k = no h
lt_chain (inf true) (inf false) nan h k = no k
lt_chain (inf true) (inf false) (inf true) h k = no k
lt_chain (inf true) (inf false) (inf false) h k = refl
lt_chain (inf true) (inf false) (fin u l f) h k = no k
lt_chain (inf true) (fin t n d) nan h k = no k
lt_chain (inf true) (fin t n d) (inf true) h k = no k
lt_chain (inf true) (fin t n d) (inf false) h k = refl
lt_chain (inf true) (fin t n d) (fin u l f) h k = refl
lt_chain (fin s m e) nan z h k = no h
lt_chain (fin s m e) (inf true) z h k = no h
lt_chain (fin s m e) (inf false) nan h k = no k
lt_chain (fin s m e) (inf false) (inf true) h k = no k
lt_chain (fin s m e) (inf false) (inf false) h k = refl
lt_chain (fin s m e) (inf false) (fin u l f) h k = no k
lt_chain (fin s m e) (fin t n d) nan h k = no k
lt_chain (fin s m e) (fin t n d) (inf true) h k = no k
lt_chain (fin s m e) (fin t n d) (inf false) h k = refl
lt_chain (fin s m e) (fin t n d) (fin u l f) h k =
    chain s t u (m * up e) (n * up d) (l * up f) (down e) (down d) (down f) (down_pos e) (down_pos d) (down_pos f) h k

pub le_from_lt : (x y : Float) → lt x y ≡ true → le x y ≡ true
unfolding le
le_from_lt x y h = or_left (lt x y) (eq x y) h

-- a Boolean that cannot be true
pub never_true : (b : Bool) → (b ≡ true → false ≡ true) → b ≡ false
never_true true h = no (h refl)
never_true false h = refl
