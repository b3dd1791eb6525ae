-- Stages that are on, and their patterns. Each fact of the parameter m is one computation over its sixteen values. Assumes nothing.
use Rattle.std.proofs.Common.{◌≡◌, ℕ, ◌+◌, ◌-◌, ◌*◌, ◌^◌, ◌<◌, ◌≤◌, min, Bool, true, false, cond, [], ◌∷◌, map, get_or, pos, negsuc, ◌+ℤ◌, sym, refl, ap, ◌∙◌, subst, arith, w16, to_z}
use lib.Ieee.{Float, nan, inf, fin, binary32, up, down, mul, div, lt, le, is_nan, of_int, to_unsigned}
use lib.Ieee.Positive.{positive, first_pos}
use Rattle.std.specs.List.{range_with_len}
use Rattle.std.proofs.lemmas.List.FromFn.{get_or-map-range_with_len}
use Rattle.std.proofs.lemmas.Bool.{cond-true, cond-false, ltb-true, lt-ltb}
use Rattle.std.proofs.lemmas.Bool.Decides.{nat_tests}
use Rattle.values.specs.declared.scalar.State.{State}
use Rattle.values.specs.declared.scalar.Value.TheVariants.{Whole}
use Rattle.blocks.proofs.Arguments.{no}
use Rattle.plant.specs.declared.kinds.Kind.TheVariants.{Sequence}
use Rattle.plant.specs.Ops.{real, percent, stages, patterns, pattern}
use Rattle.plant.specs.Plant.{lawful_of}
use Rattle.plant.specs.Laws.{sequenced, PatternFormula, SequencesOn, SequencesGrow, SequenceEnds}
use Rattle.plant.proofs.RealOrder.{lt_nan, le_same, le_from_not_lt, lt_right, not_lt_from_le, le_from_lt, lt_chain, never_true}
use Rattle.plant.proofs.Stages.{cut_grows, product_grows}

-- ---- a function of the numbers from 0 to n, by its list of values

at : {X : Type 0} (f g : ℕ → X) (n : ℕ) → map f (range_with_len 0 n) ≡ map g (range_with_len 0 n) → (k : ℕ) → k < n → f k ≡ g k
at f g n e k h =
    sym (get_or-map-range_with_len f 0 n k k (f k) h (omega arith)) ∙ ap (λ l. get_or l k (f k)) e ∙ get_or-map-range_with_len g 0 n k k (f k) h (omega arith)

-- ---- patterns

table : patterns ≡ map (λ n. to_z w16 (2 ^ n - 1)) (range_with_len 0 17)
table = refl

pub pattern_formula : PatternFormula
pattern_formula n h = ap (λ l. get_or l n (negsuc 0)) table ∙ get_or-map-range_with_len (λ k. to_z w16 (2 ^ k - 1)) 0 17 n n (negsuc 0) (omega arith) (omega arith)

-- ---- the ends of the range

-- the stages of m at an input of the range
abbrev pub on : Float → ℕ → ℕ
on p m = min (to_unsigned 16 (div binary32 (mul binary32 (of_int binary32 (pos m +ℤ pos 1)) p) (real 100))) 16

none_on : (m : ℕ) → m < 17 → on (real 0) m ≡ 0
unfolding mul div of_int to_unsigned
none_on = at (on (real 0)) (λ _. 0) 17 refl

pub all_on : (m : ℕ) → m < 17 → on (real 100) m ≡ min (m + 1) 16
unfolding mul div of_int to_unsigned
all_on = at (on (real 100)) (λ m. min (m + 1) 16) 17 refl

-- ---- an input within the range

-- m + 1 as a real
abbrev steps : ℕ → Float
steps m = of_int binary32 (pos m +ℤ pos 1)

steps_positive : (m : ℕ) → m < 17 → positive (steps m) ≡ true
unfolding of_int
steps_positive = at (λ m. positive (steps m)) (λ _. true) 17 refl

steps_number : (m : ℕ) → m < 17 → is_nan (steps m) ≡ false
unfolding of_int is_nan
steps_number = at (λ m. is_nan (steps m)) (λ _. false) 17 refl

on_grows : (m : ℕ) → m < 17 → (p q : Float) → positive p ≡ true → positive q ≡ true → le p q ≡ true → on p m ≤ on q m
on_grows m h p q P Q l =
    let g = product_grows (steps m) p q (steps_positive m h) P Q (le_same (steps m) (steps_number m h)) l in cut_grows _ _ g 16

-- above 0 and not above 100
positive_within : (x : Float) → lt (real 0) x ≡ true → lt (real 100) x ≡ false → positive x ≡ true
unfolding lt of_int
positive_within nan p q = no p
positive_within (inf true) p q = no p
positive_within (inf false) p q = no (sym q)
positive_within (fin true m e) p q = no p
positive_within (fin false m e) p q =
    let a : 0 * down e < m * up e * 1 = ltb-true (0 * down e) (m * up e * 1) p in
    lt-ltb 0 m (first_pos m (up e) (first_pos (m * up e) 1 (omega arith)))

hundred_positive : positive (real 100) ≡ true
unfolding of_int
hundred_positive = refl

hundred_number : is_nan (real 100) ≡ false
unfolding of_int is_nan
hundred_number = refl

zero_below : lt (real 0) (real 100) ≡ true
unfolding lt of_int
zero_below = refl

-- ---- the input as a part of 100

percent_none : (x : Float) → lt (real 0) x ≡ false → percent x ≡ real 0
percent_none x h =
    cond-false (lt (real 100) x) _ _ (never_true (lt (real 100) x) (λ e. sym h ∙ lt_chain (real 0) (real 100) x zero_below (le_from_lt (real 100) x e)))
    ∙ cond-false (lt (real 0) x) _ _ h

percent_all : (x : Float) → lt (real 100) x ≡ true → percent x ≡ real 100
percent_all x h = cond-true (lt (real 100) x) _ _ h

percent_within : (x : Float) → lt (real 0) x ≡ true → lt (real 100) x ≡ false → percent x ≡ x
percent_within x p q = cond-false (lt (real 100) x) _ _ q ∙ cond-true (lt (real 0) x) _ _ p

-- of an input above 0
abbrev Part : Float → Type 0
Part p = (positive p ≡ true) × (le p (real 100) ≡ true)

part : (x : Float) → lt (real 0) x ≡ true → (b : Bool) → lt (real 100) x ≡ b → Part (percent x)
part x p true q = subst Part (sym (percent_all x q)) (hundred_positive, le_same (real 100) hundred_number)
part x p false q = subst Part (sym (percent_within x p q)) (positive_within x p q, le_from_not_lt (real 100) x hundred_number (lt_right (real 0) x p) q)

-- ---- stages

no_stage : (m : ℕ) → m < 17 → (x : Float) → lt (real 0) x ≡ false → stages (pos m) x ≡ 0
no_stage m h x p = ap (λ q. on q m) (percent_none x p) ∙ none_on m h

most : (m : ℕ) → m < 17 → (x : Float) (b : Bool) → lt (real 0) x ≡ b → stages (pos m) x ≤ min (m + 1) 16
most m h x true p =
    let q = part x p (lt (real 100) x) refl in
    let g : stages (pos m) x ≤ on (real 100) m = on_grows m h (percent x) (real 100) q.0 hundred_positive q.1 in
    subst (λ n. stages (pos m) x ≤ n) (all_on m h) g
most m h x false p = subst (λ n. n ≤ min (m + 1) 16) (sym (no_stage m h x p)) (omega arith)

-- by whether x is above 0, and y above 100
grow : (m : ℕ) → m < 17 → (x y : Float) → le x y ≡ true → (a b : Bool) → lt (real 0) x ≡ a → lt (real 100) y ≡ b → stages (pos m) x ≤ stages (pos m) y
grow m h x y l false b p q = subst (λ n. n ≤ stages (pos m) y) (sym (no_stage m h x p)) (omega arith)
grow m h x y l true true p q =
    let r = part x p (lt (real 100) x) refl in
    subst (λ n. stages (pos m) x ≤ on n m) (sym (percent_all y q)) (on_grows m h (percent x) (real 100) r.0 hundred_positive r.1)
grow m h x y l true false p q =
    let y-above : lt (real 0) y ≡ true = lt_chain (real 0) x y p l in
    let x-within : lt (real 100) x ≡ false = never_true (lt (real 100) x) (λ e. sym q ∙ lt_chain (real 100) x y e l) in
    subst (λ n. on n m ≤ stages (pos m) y) (sym (percent_within x p x-within))
    (subst (λ n. on x m ≤ on n m) (sym (percent_within y y-above q))
    (on_grows m h x y (positive_within x p x-within) (positive_within y y-above q) l))

pub sequences_grow : SequencesGrow
sequences_grow m l h x y e = grow m (omega arith) x y e (lt (real 0) x) (lt (real 100) y) refl refl

all_stages : (m : ℕ) → m < 17 → stages (pos m) (real 100) ≡ min (m + 1) 16
all_stages m h = ap (λ q. on q m) (percent_within (real 100) zero_below (not_lt_from_le (real 100) (real 100) (le_same (real 100) hundred_number))) ∙ all_on m h

pub sequence_ends : SequenceEnds
sequence_ends m l h x = (
  no_stage m (omega arith) x,
  λ e.
      let up_to_lem = most m (omega arith) x (lt (real 0) x) refl in
      let from = sequences_grow m l h (real 100) x e in
      let all = all_stages m (omega arith) in omega arith,
)

-- ---- the output

lawful : (m : ℕ) → 1 ≤ m → m ≤ 16 → lawful_of Sequence (Whole (pos m) ∷ []) ≡ true
lawful m l h = grind (arith, nat_tests)

shown : (m : ℕ) → 1 ≤ m → m ≤ 16 → (s : State) (x : Float) → sequenced m s x ≡ Whole (pattern (stages (pos m) x))
shown m l h s x = ap (λ b. cond b (Whole (pattern (stages (pos m) x))) (Whole (pos 0))) (lawful m l h)

pub sequences_on : SequencesOn
sequences_on m l h s x = (
  shown m l h s x ∙ ap Whole (pattern_formula (stages (pos m) x) (omega (arith, most m (omega arith) x (lt (real 0) x) refl))),
  most m (omega arith) x (lt (real 0) x) refl,
)

pub sequence_nan : (m : ℕ) → 1 ≤ m → m ≤ 16 → (s : State) → sequenced m s nan ≡ Whole (pos 0)
sequence_nan m l h s = shown m l h s nan ∙ ap (λ n. Whole (pattern n)) (no_stage m (omega arith) nan (lt_nan (real 0)))
