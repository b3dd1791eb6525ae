-- A format, both ways: the bits of a value, and what is read at a bit of a file.
use Rattle.std.specs.Prelude.{◌≡◌, ℕ, zero, suc, ◌+◌, ◌-◌, ◌^◌, ◌<◌, Bool, true, cond, List, [], ◌∷◌, ◌++◌, length, take, drop, replicate, Ok, Err, Result, MatchResult, nat_le}
use Rattle.std.specs.List.{AllByRecursion}
use Rattle.draft.specs.declared.fault.ReadFault.{ReadFault}
use Rattle.draft.specs.declared.fault.ReadFault.TheVariants.{CutShort}
use Rattle.draft.specs.Bits.{field, value_at}

abbrev pub bind : {A B : Type 0} → Result A ReadFault → (A → Result B ReadFault) → Result B ReadFault
bind (Ok a) k = k a
bind (Err e) k = Err e

-- `fits` says which values can be written; the others are by the bit p at which the value stands
pub record Format (A : Type 0) : Type 1 where
  pub fits : A → Type 0
  pub bits : ℕ → A → List ℕ
  pub size : ℕ → A → ℕ
  pub read : List ℕ → ℕ → Result A ReadFault

-- the bits xs stand at p
abbrev pub Stands : List ℕ → ℕ → List ℕ → Type 0
Stands file p xs = take (length xs) (drop p file) ≡ xs

-- a field of w bits
abbrev pub read_field : List ℕ → ℕ → ℕ → Result ℕ ReadFault
read_field file p w = cond (nat_le (p + w) (length file)) (Ok (value_at file p w)) (Err (CutShort p))

-- a field whose number passes a test; the fault of one that fails it
abbrev pub number : ℕ → (ℕ → Bool) → (ℕ → ReadFault) → Format ℕ
number w test fault = record {
  fits = λ v. (v < 2 ^ w) × (test v ≡ true);
  bits = λ _ v. field w v;
  size = λ _ _. w;
  read = λ file p. bind (read_field file p w) (λ v. cond (test v) (Ok v) (Err (fault p)));
}

-- one after the other; the second may depend on the value of the first
abbrev pub then : {A B : Type 0} → Format A → (A → Format B) → Format (A × B)
then F G = record {
  fits = λ x. F.fits x.0 × (G x.0).fits x.1;
  bits = λ p x. F.bits p x.0 ++ (G x.0).bits (p + F.size p x.0) x.1;
  size = λ p x. F.size p x.0 + (G x.0).size (p + F.size p x.0) x.1;
  read = λ file p. bind (F.read file p) (λ a. bind ((G a).read file (p + F.size p a)) (λ b. Ok (a, b)));
}

-- as many as n, one after the other
abbrev pub bits_all : {A : Type 0} → Format A → ℕ → List A → List ℕ
bits_all F p [] = []
bits_all F p (x ∷ xs) = F.bits p x ++ bits_all F (p + F.size p x) xs

abbrev pub size_all : {A : Type 0} → Format A → ℕ → List A → ℕ
size_all F p [] = 0
size_all F p (x ∷ xs) = F.size p x + size_all F (p + F.size p x) xs

abbrev pub read_all : {A : Type 0} → Format A → ℕ → List ℕ → ℕ → Result (List A) ReadFault
read_all F zero file p = Ok []
read_all F (suc n) file p = bind (F.read file p) (λ x. bind (read_all F n file (p + F.size p x)) (λ xs. Ok (x ∷ xs)))

abbrev pub times : {A : Type 0} → ℕ → Format A → Format (List A)
times n F = record {
  fits = λ xs. (length xs ≡ n) × AllByRecursion F.fits xs;
  bits = bits_all F;
  size = size_all F;
  read = read_all F n;
}

-- the same bits for another type of values, of those that some bits stand for
abbrev pub via : {A B : Type 0} → (A → B) → (B → A) → Format A → Format B
via to from F = record {
  fits = λ b. F.fits (from b) × (to (from b) ≡ b);
  bits = λ p b. F.bits p (from b);
  size = λ p b. F.size p (from b);
  read = λ file p. bind (F.read file p) (λ a. Ok (to a));
}

-- r is what is read at p, told by f, and q the bit after it
abbrev pub ReadsOn : {A X : Type 0} → Format A → (X → A) → List ℕ → ℕ → Result X ReadFault → ℕ → Type 0
ReadsOn F f file p r q = MatchResult r (λ x. (F.read file p ≡ Ok (f x)) × (q ≡ p + F.size p (f x))) (λ e. F.read file p ≡ Err e)

-- r is the n values at p, in an array whose other places hold d, and q the bit after them
abbrev pub ReadsArray : {A : Type 0} → Format A → ℕ → A → ℕ → List ℕ → ℕ → Result (List A) ReadFault → ℕ → Type 0
ReadsArray F cap d n file p r q =
    MatchResult r
    (λ x. (read_all F n file p ≡ Ok (take n x)) × (q ≡ p + size_all F p (take n x)) × (drop n x ≡ replicate (cap - n) d) × (length x ≡ cap))
    (λ e. read_all F n file p ≡ Err e)
