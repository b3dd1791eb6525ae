-- Parameters as values, and as their patterns.
use Rattle.std.proofs.Common.{◌≡◌, ℕ, zero, suc, ◌+◌, ◌/◌, ◌%◌, Bool, true, false, cond, not, eqb, leb, List, [], ◌∷◌, map, take, Ok, Err, Result, sym, refl, ap, ◌∙◌, arith}
use lib.Ieee.{binary32, of_bits, of_fields, odd, top}
use Rattle.std.specs.Float.{float_is_finite as is_finite}
use Rattle.values.specs.declared.packed.Cell.{Cell}
use Rattle.values.specs.declared.packed.Cell.TheVariants as Cells
use Rattle.values.specs.Packed.{value_of, cell_of}
use Rattle.values.proofs.Patterns.{usual_back, finite_canonical}
use Rattle.draft.specs.declared.fault.ReadFault.{ReadFault}
use Rattle.draft.specs.Format.{Format, bind, via, read_all, size_all}
use Rattle.draft.specs.File.{cell_format, param_format, finite}
use Rattle.draft.proofs.Exact.{Exact, via_exact}
use Rattle.draft.proofs.Binds.{bind_bind}
use Rattle.draft.proofs.FileLaws.{cell_exact}

module _ {A B : Type 0} (to : A → B) (from : B → A) (F : Format A) (same : (p : ℕ) (a : A) → F.size p (from (to a)) ≡ F.size p a) where
  pub size_all_via : (p : ℕ) (xs : List A) → size_all (via to from F) p (map to xs) ≡ size_all F p xs
  size_all_via p [] = refl
  size_all_via p (x ∷ xs) = (λ i. same p x i + size_all (via to from F) (p + same p x i) (map to xs)) ∙ ap (λ n. F.size p x + n) (size_all_via (p + F.size p x) xs)

  via_step : (n : ℕ) (file : List ℕ) (p : ℕ) (r : Result A ReadFault) → ((q : ℕ) → read_all (via to from F) n file q ≡ bind (read_all F n file q) (λ xs. Ok (map to xs))) → bind (bind r (λ a. Ok (to a))) (λ x. bind (read_all (via to from F) n file (p + F.size p (from x))) (λ xs. Ok (x ∷ xs))) ≡ bind (bind r (λ x. bind (read_all F n file (p + F.size p x)) (λ xs. Ok (x ∷ xs)))) (λ xs. Ok (map to xs))
  via_step n file p (Err e) rest = refl
  via_step n file p (Ok a) rest =
      ap (λ k. bind (read_all (via to from F) n file (p + k)) (λ xs. Ok (to a ∷ xs))) (same p a)
      ∙ ap (λ r. bind r (λ xs. Ok (to a ∷ xs))) (rest (p + F.size p a))
      ∙ bind_bind (read_all F n file (p + F.size p a)) (λ xs. Ok (map to xs)) (λ xs. Ok (to a ∷ xs))
      ∙ sym (bind_bind (read_all F n file (p + F.size p a)) (λ xs. Ok (a ∷ xs)) (λ xs. Ok (map to xs)))

  pub read_all_via : (n : ℕ) (file : List ℕ) (p : ℕ) → read_all (via to from F) n file p ≡ bind (read_all F n file p) (λ xs. Ok (map to xs))
  read_all_via zero file p = refl
  read_all_via (suc n) file p = via_step n file p (F.read file p) (read_all_via n file)

same_size : (p : ℕ) (c : Cell) → cell_format.size p (cell_of (value_of c)) ≡ cell_format.size p c
same_size p (Cells.Binary b) = refl
same_size p (Cells.Whole z) = refl
same_size p (Cells.Real v) = refl

pub values_all : (n : ℕ) (file : List ℕ) (p q : ℕ) (cs : List Cell) → read_all cell_format n file p ≡ Ok cs → q ≡ p + size_all cell_format p cs → (read_all param_format n file p ≡ Ok (map value_of cs)) × (q ≡ p + size_all param_format p (map value_of cs))
values_all n file p q cs h e = (
  read_all_via value_of cell_of cell_format same_size n file p ∙ ap (λ r. bind r (λ xs. Ok (map value_of xs))) h,
  e ∙ ap (λ k. p + k) (sym (size_all_via value_of cell_of cell_format same_size p cs)),
)

pub values_fail : (n : ℕ) (file : List ℕ) (p : ℕ) (e : ReadFault) → read_all cell_format n file p ≡ Err e → read_all param_format n file p ≡ Err e
values_fail n file p e h = read_all_via value_of cell_of cell_format same_size n file p ∙ ap (λ r. bind r (λ xs. Ok (map value_of xs))) h

-- the pattern of a finite real has an exponent that is not all ones
odd_finite : (d : ℕ) (s : Bool) (q k l : ℕ) → is_finite (odd d s q k l) ≡ true
unfolding is_finite odd
odd_finite d s zero k l = refl
odd_finite d s (suc q) k l = refl

fields_finite : (s : Bool) (x t : ℕ) → is_finite (of_fields binary32 s x t) ≡ not (eqb x 255)
unfolding is_finite of_fields
fields_finite s zero t = odd_finite 24 s t 0 149
fields_finite s (suc x) t = by (eqb (suc x) 255) (eqb t 0) where
  by : (b c : Bool) → is_finite (cond b (cond c (lib.Ieee.inf s) lib.Ieee.nan) (odd 24 s (8388608 + t) x 149)) ≡ not b
  by true true = refl
  by true false = refl
  by false c = odd_finite 24 s (8388608 + t) x 149

pub finite_bits : (v : ℕ) → is_finite (of_bits binary32 v) ≡ finite v
unfolding of_bits
finite_bits v =
    let e : v % top binary32 / 8388608 ≡ v / 8388608 % 256 = omega arith in
    fields_finite (leb (top binary32) v) (v % top binary32 / 8388608) (v % 8388608) ∙ ap (λ x. not (eqb x 255)) e

value_back : (c : Cell) → cell_format.fits c → cell_of (value_of c) ≡ c
value_back (Cells.Binary b) h = refl
value_back (Cells.Whole z) h = refl
value_back (Cells.Real v) h = ap Cells.Real (usual_back v h.0.1.0 (finite_canonical (Cells.Real v) (finite_bits v ∙ h.0.1.1)))

pub param_exact : Exact param_format
param_exact = via_exact value_of cell_of cell_format cell_exact value_back

pub take_map : {A B : Type 0} (f : A → B) (n : ℕ) (xs : List A) → take n (map f xs) ≡ map f (take n xs)
take_map f zero xs = refl
take_map f (suc n) [] = refl
take_map f (suc n) (x ∷ xs) = ap (λ l. f x ∷ l) (take_map f n xs)
