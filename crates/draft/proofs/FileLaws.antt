-- Each part of the packed file is read exactly where its bits stand.
use Rattle.std.proofs.Common.{◌≡◌, ℕ, zero, suc, ◌^◌, ◌<◌, ◌≤◌, true, false, cond, not, ◌&&◌, eqb, leb, List, [], ◌∷◌, length, replicate, sym, refl, ap, inl, inr, arith, pow_pos, w16, eqb-true, le-leb, leb-false}
use mir.Facts.{of_z-to_z}
use borrow.Author.Tests.{eqb-false, clash}
use Rattle.std.proofs.lemmas.Bool.{not-false, and_cases, true≢false}
use Rattle.std.specs.List.{AllByRecursion as All}
use Rattle.std.proofs.lemmas.List.{length-replicate}
use Rattle.draft.specs.declared.fault.ReadFault.TheVariants.{CutShort, Edition, Count, NoType, ZeroBit, NotFinite, NameByte}
use Rattle.values.specs.declared.scalar.ValueType.{ValueType}
use Rattle.values.specs.declared.scalar.ValueType.TheVariants.{Binary, Whole, Real}
use Rattle.draft.specs.Bits.{value_at}
use Rattle.draft.specs.Format.{times}
use Rattle.draft.specs.File.{edition, up_to, free, block_count, tag, pattern, zero_bit, zeros_format, gap, padding_format, header_format, type_from, tag_of, type_format, columns_format, source_of, source_parts, source_format, width_of, cell_from, cell_parts, cell_format, name_byte, block_head}
use Rattle.draft.specs.Refused.{Field, Shows}
use Rattle.draft.proofs.Exact.{Exact, number_exact, then_exact, times_exact, via_exact}

all_zero : (n : ℕ) (xs : List ℕ) → (times n zero_bit).fits xs → replicate n 0 ≡ xs
all_zero zero [] h = refl
all_zero zero (x ∷ xs) h = absurd (omega (arith, h.0))
all_zero (suc n) [] h = absurd (omega (arith, h.0))
all_zero (suc n) (x ∷ xs) h =
    let l : length xs ≡ n = omega (arith, h.0) in
    let e = sym (eqb-true x 0 h.1.0.1) in
    let r = all_zero n xs (l, h.1.1) in
    λ i. e i ∷ r i

zero_each : (n : ℕ) → All zero_bit.fits (replicate n 0)
zero_each zero = tt
zero_each (suc n) = ((omega arith, refl), zero_each n)

pub zeros_fit : (n : ℕ) → (zeros_format n).fits tt
zeros_fit n = ((length-replicate n 0, zero_each n), refl)

zero_bit_exact : Exact zero_bit
zero_bit_exact = number_exact 1 _ ZeroBit (omega arith) (omega arith) 0 (omega arith, refl) (λ p. refl) (λ file p f. (f.0, eqb-false _ 0 f.1))

pub zeros_exact : (n : ℕ) → Exact (zeros_format n)
zeros_exact n = via_exact _ _ (times n zero_bit) (times_exact n zero_bit zero_bit_exact) (all_zero n)

pub padding_exact : Exact padding_format
padding_exact = record {
  some = (tt, tt);
  first = λ file p e u h r.
      let t = (zeros_exact (gap p)).first file p e u h r in
      record { from = t.from; within = t.within; shows = t.shows; other = tt; fits = tt; near = t.near; stands = t.stands };
  long = λ p a. (zeros_exact (gap p)).long p a;
  sound = λ file p a u h. (tt, ((zeros_exact (gap p)).sound file p a u h).1);
  whole = λ file p a t h. (zeros_exact (gap p)).whole file p a (zeros_fit (gap p)) h;
}

-- what fails the test of a count is above its limit
pub up_to_exact : (w n : ℕ) → 0 < w → w ≤ 32 → ((file : List ℕ) (p : ℕ) → Field file p w (λ v. n < v) → Shows file (Count p)) → Exact (up_to w n)
up_to_exact w n h k shows = number_exact w _ Count h k 0 (pow_pos w, le-leb 0 n (omega arith)) (λ p. refl) (λ file p f. shows file p (f.0, leb-false _ n f.1))

-- of inputs or parameters
pub ports_exact : Exact (up_to 3 4)
ports_exact = up_to_exact 3 4 (omega arith) (omega arith) (λ file p f. inr (inl f))

-- of columns or bytes of a name
pub eight_exact : Exact (up_to 4 8)
eight_exact = up_to_exact 4 8 (omega arith) (omega arith) (λ file p f. inl f)

pub block_count_exact : Exact block_count
block_count_exact = number_exact 7 _ Count (omega arith) (omega arith) 1 (omega arith, refl) (λ p. refl) shows where
  shows : (file : List ℕ) (p : ℕ) → Field file p 7 (λ v. leb 1 v && leb v 64 ≡ false) → Shows file (Count p)
  shows file p f =
      let v = value_at file p 7 in
      inr (inr (f.0, elim (and_cases (leb 1 v) (leb v 64) f.1) [ inl h ↦ inl (omega (arith, leb-false 1 v h)) | inr h ↦ inr (leb-false v 64 h) ]))

pub free_exact : (w : ℕ) → 0 < w → w ≤ 32 → Exact (free w)
free_exact w h k = number_exact w _ CutShort h k 0 (pow_pos w, refl) (λ p. refl) (λ file p f. absurd (true≢false f.1))

pub edition_exact : Exact edition
edition_exact = number_exact 8 _ Edition (omega arith) (omega arith) 1 (omega arith, refl) (λ p. refl) (λ file p f. (f.0, eqb-false _ 1 f.1))

pub header_exact : Exact header_format
header_exact =
    via_exact _ _ _
    (then_exact edition _ edition_exact (λ _.
    then_exact (up_to 4 8) _ eight_exact (λ _.
    then_exact block_count _ block_count_exact (λ _.
    zeros_exact 5))))
    (λ a t. ap (λ e. (e, a.1)) (sym (eqb-true a.0 1 t.0.1)))

type_back : (t : ℕ) → (t < 4) × (not (eqb t 0) ≡ true) → tag_of (type_from t) ≡ t
type_back zero h = absurd (clash h.1)
type_back (suc zero) h = refl
type_back (suc (suc zero)) h = refl
type_back (suc (suc (suc zero))) h = refl
type_back (suc (suc (suc (suc t)))) h = absurd (omega (arith, h.0))

pub type_exact : Exact type_format
type_exact =
    via_exact type_from tag_of tag
    (number_exact 2 _ NoType (omega arith) (omega arith) 1 (omega arith, refl) (λ p. refl) (λ file p f. (f.0, eqb-true _ 0 (not-false _ f.1))))
    type_back

pub columns_exact : (n : ℕ) → Exact (columns_format n)
columns_exact n = via_exact _ _ _ (then_exact _ _ (times_exact n type_format type_exact) (λ _. padding_exact)) (λ a t. refl)

source_back : (f n : ℕ) → f < 2 → source_parts (source_of (f, n)) ≡ (f, n)
source_back zero n h = refl
source_back (suc zero) n h = refl
source_back (suc (suc f)) n h = absurd (omega arith)

pub source_exact : Exact source_format
source_exact =
    via_exact source_of source_parts _ (then_exact (free 1) _ (free_exact 1 (omega arith) (omega arith)) (λ _. free_exact 7 (omega arith) (omega arith)))
    (λ a t. source_back a.0 a.1 t.0.0)

binary_back : (v : ℕ) → v < 2 → cond (eqb v 1) 1 0 ≡ v
binary_back zero h = refl
binary_back (suc zero) h = refl
binary_back (suc (suc v)) h = absurd (omega arith)

param_back : (t : ValueType) (v : ℕ) → v < 2 ^ width_of t → cell_parts (cell_from (t, v)) ≡ (t, v)
param_back Binary v h = ap (λ n. (Binary, n)) (binary_back v h)
param_back Whole v h = ap (λ n. (Whole, n)) (of_z-to_z {w = w16} (omega arith))
param_back Real v h = refl

pub pattern_exact : (t : ValueType) → Exact (pattern t)
pattern_exact Binary = number_exact 1 _ NotFinite (omega arith) (omega arith) 0 (omega arith, refl) (λ p. refl) (λ file p f. absurd (true≢false f.1))
pattern_exact Whole = number_exact 16 _ NotFinite (omega arith) (omega arith) 0 (omega arith, refl) (λ p. refl) (λ file p f. absurd (true≢false f.1))
pattern_exact Real = number_exact 32 _ NotFinite (omega arith) (omega arith) 0 (omega arith, refl) (λ p. refl) (λ file p f. f)

pub cell_exact : Exact cell_format
cell_exact =
    via_exact cell_from cell_parts _ (then_exact type_format pattern type_exact pattern_exact)
    (λ a t. param_back a.0 a.1 t.1.0)

pub head_exact : Exact block_head
head_exact =
    then_exact (free 6) _ (free_exact 6 (omega arith) (omega arith)) (λ _.
    then_exact (up_to 3 4) _ ports_exact (λ _.
    then_exact (up_to 3 4) _ ports_exact (λ _.
    eight_exact)))

pub name_byte_exact : Exact name_byte
name_byte_exact = number_exact 8 _ NameByte (omega arith) (omega arith) 32 (omega arith, refl) (λ p. refl) (λ file p f. f)
