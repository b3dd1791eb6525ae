-- A quotient by 100, cut to a whole number, grows with what is divided, and a product with its factor. Assumes nothing.
use Rattle.std.proofs.Common.{◌≡◌, ℕ, zero, suc, ◌+◌, ◌-◌, ◌*◌, ◌/◌, ◌^◌, ◌<◌, ◌≤◌, min, Bool, true, false, cond, not, ◌&&◌, ◌||◌, T, eqb, ltb, pos, sym, refl, ap, ◌∙◌, subst, mul-pos, mul-one, mul_left_comm, arith}
use lib.Ieee.{Float, nan, inf, fin, Format, binary32, low, emax, prec, up, down, odd, units, round, mul, div, le, of_int, to_unsigned}
use lib.Ieee.Bits.{is_true}
use lib.Ieee.Fits.{down_pos}
use lib.Ieee.Nearest.{div_mono}
use lib.Ieee.Order.{round_mono}
use lib.Ieee.Positive.{positive, mul_mono}
use Rattle.std.proofs.lemmas.Bool.Decides.{nat_tests}
use Rattle.blocks.proofs.Arguments.{no}
use Rattle.plant.specs.Ops.{real}

pub holds : (b : Bool) → b ≡ true → T b
holds b e = subst T (sym e) tt

-- ---- numbers without a minus

abbrev pub unsigned : Float → Bool
unsigned nan = false
unsigned (inf s) = not s
unsigned (fin s m e) = not s

odd_unsigned : (d q k l : ℕ) → unsigned (odd d false q k l) ≡ true
unfolding odd
odd_unsigned d zero k l = refl
odd_unsigned d (suc q) k l = refl

either_unsigned : (b : Bool) (x y : Float) → unsigned x ≡ true → unsigned y ≡ true → unsigned (cond b x y) ≡ true
either_unsigned true x y p q = p
either_unsigned false x y p q = q

units_unsigned : (f : Format) (q k : ℕ) → unsigned (units f false q k) ≡ true
unfolding units
units_unsigned f q k = either_unsigned (ltb (q * 2 ^ k) (2 ^ (low f + suc (emax f)))) (odd (suc (prec f)) false q k (low f)) (inf false) (odd_unsigned (suc (prec f)) q k (low f)) refl

round_unsigned : (f : Format) (a c : ℕ) → unsigned (round f false a c) ≡ true
unfolding round
round_unsigned f a c = units_unsigned f _ _

pub mul_unsigned : (x y : Float) → positive x ≡ true → positive y ≡ true → unsigned (mul binary32 x y) ≡ true
unfolding mul
mul_unsigned nan y p q = no p
mul_unsigned (inf s) y p q = no p
mul_unsigned (fin true m e) y p q = no p
mul_unsigned (fin false m e) nan p q = no q
mul_unsigned (fin false m e) (inf t) p q = no q
mul_unsigned (fin false m e) (fin true n d) p q = no q
mul_unsigned (fin false m e) (fin false n d) p q = round_unsigned binary32 (m * up e * (n * up d)) (down e * down d)

-- ---- the cut to a whole number

-- the order of two fractions a / p and b / q, as `le` computes it
crossed : (a b : ℕ) → (ltb a b || (eqb a b && true)) ≡ true → a ≤ b
crossed a b h = grind (arith, nat_tests)

pub cut_grows : (a b : ℕ) → a ≤ b → (n : ℕ) → min a n ≤ min b n
cut_grows a b h n = grind arith

at_most : (n : ℕ) → n < 2 ^ 16 → n ≤ 2 ^ 16 - 1
at_most n h = omega arith

pub whole_grows : (x y : Float) → unsigned x ≡ true → unsigned y ≡ true → le x y ≡ true → to_unsigned 16 x ≤ to_unsigned 16 y
unfolding le to_unsigned
whole_grows nan y p q h = no p
whole_grows (inf true) y p q h = no p
whole_grows (inf false) nan p q h = no q
whole_grows (inf false) (inf true) p q h = no q
whole_grows (inf false) (inf false) p q h = omega arith
whole_grows (inf false) (fin t n d) p q h = no h
whole_grows (fin true m e) y p q h = no p
whole_grows (fin false m e) nan p q h = no q
whole_grows (fin false m e) (inf true) p q h = no q
whole_grows (fin false m e) (inf false) p q h = grind arith
whole_grows (fin false m e) (fin true n d) p q h = no q
whole_grows (fin false m e) (fin false n d) p q h =
    cut_grows (m * up e / down e) (n * up d / down d) (div_mono (m * up e) (down e) (n * up d) (down d) (down_pos e) (down_pos d) (crossed (m * up e * down d) (n * up d * down e) h)) (2 ^ 16 - 1)

-- ---- the quotient by 100

unsigned_le_inf : (x : Float) → unsigned x ≡ true → le x (inf false) ≡ true
unfolding le
unsigned_le_inf nan p = no p
unsigned_le_inf (inf true) p = no p
unsigned_le_inf (inf false) p = refl
unsigned_le_inf (fin s m e) p = refl

hundred : real 100 ≡ fin false 25 (pos 2)
unfolding of_int
hundred = refl

hundredfold : (a b p q : ℕ) → a * q ≤ b * p → a * 1 * (100 * q) ≤ b * 1 * (100 * p)
hundredfold a b p q h =
    let l : a * 1 * (100 * q) ≡ 100 * (a * q) = ap (λ n. n * (100 * q)) (mul-one a) ∙ mul_left_comm a 100 q in
    let r : b * 1 * (100 * p) ≡ 100 * (b * p) = ap (λ n. n * (100 * p)) (mul-one b) ∙ mul_left_comm b 100 p in omega arith

by_hundred : Float → Float
by_hundred x = div binary32 x (fin false 25 (pos 2))

div_unsigned : (x : Float) → unsigned x ≡ true → unsigned (by_hundred x) ≡ true
unfolding div by_hundred
div_unsigned nan p = no p
div_unsigned (inf true) p = no p
div_unsigned (inf false) p = refl
div_unsigned (fin true m e) p = no p
div_unsigned (fin false m e) p = round_unsigned binary32 (m * up e * 1) (100 * down e)

div_grows : (x y : Float) → unsigned x ≡ true → unsigned y ≡ true → le x y ≡ true → le (by_hundred x) (by_hundred y) ≡ true
unfolding le div by_hundred
div_grows nan y p q h = no p
div_grows (inf true) y p q h = no p
div_grows (inf false) nan p q h = no q
div_grows (inf false) (inf true) p q h = no q
div_grows (inf false) (inf false) p q h = refl
div_grows (inf false) (fin t n d) p q h = no h
div_grows (fin true m e) y p q h = no p
div_grows (fin false m e) nan p q h = no q
div_grows (fin false m e) (inf true) p q h = no q
div_grows (fin false m e) (inf false) p q h = unsigned_le_inf (round binary32 false (m * up e * 1) (100 * down e)) (round_unsigned binary32 (m * up e * 1) (100 * down e))
div_grows (fin false m e) (fin true n d) p q h = no q
div_grows (fin false m e) (fin false n d) p q h =
    is_true _ (round_mono binary32 (m * up e * 1) (100 * down e) (n * up d * 1) (100 * down d) (mul-pos (omega arith) (down_pos e)) (mul-pos (omega arith) (down_pos d))
    (hundredfold (m * up e) (n * up d) (down e) (down d) (crossed (m * up e * down d) (n * up d * down e) h)))

-- ---- the whole number of hundredths of k × p grows with p

pub product_grows : (k p q : Float) → positive k ≡ true → positive p ≡ true → positive q ≡ true → le k k ≡ true → le p q ≡ true
    → to_unsigned 16 (div binary32 (mul binary32 k p) (real 100)) ≤ to_unsigned 16 (div binary32 (mul binary32 k q) (real 100))
unfolding by_hundred
product_grows k p q K P Q R h =
    let u = mul_unsigned k p K P in let v = mul_unsigned k q K Q in
    let l : le (mul binary32 k p) (mul binary32 k q) ≡ true = is_true _ (mul_mono binary32 k k p q (holds _ K) (holds _ K) (holds _ P) (holds _ Q) (holds _ R) (holds _ h)) in
    subst (λ c. to_unsigned 16 (div binary32 (mul binary32 k p) c) ≤ to_unsigned 16 (div binary32 (mul binary32 k q) c)) (sym hundred)
    (whole_grows (by_hundred (mul binary32 k p)) (by_hundred (mul binary32 k q)) (div_unsigned _ u) (div_unsigned _ v) (div_grows _ _ u v l))
