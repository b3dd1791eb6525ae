-- The steps of a loop that reads one value after another.
use Rattle.std.proofs.Common.{◌≡◌, ℕ, zero, suc, ◌+◌, ◌-◌, ◌<◌, ◌≤◌, List, [], ◌∷◌, ◌++◌, length, take, drop, set, replicate, Ok, Err, Result, sym, refl, ap, ◌∙◌, subst, append_assoc, append-nil, add_assoc, arith, length-append, length-set}
use Rattle.draft.specs.declared.fault.ReadFault.{ReadFault}
use Rattle.std.proofs.lemmas.List.{take_more_set, drop-replicate, length-replicate, take_at, drop_at, take_all}
use Rattle.draft.specs.Bits.{bits_of}
use Rattle.draft.specs.Format.{Format, bind, read_all, size_all, then, via, ReadsArray}
use Rattle.draft.specs.File.{zero_bit, zeros_format}
use Rattle.draft.proofs.Binds.{bind_bind, bind_ok_id}

-- what is read of a file, told of the same file
pub read_same : {A : Type 0} (F : Format A) (old new : List ℕ) (q : ℕ) (r : Result A ReadFault) → new ≡ old → r ≡ F.read (bits_of new) q → F.read (bits_of old) q ≡ r
read_same F old new q r e h = ap (λ file. F.read (bits_of file) q) (sym e) ∙ sym h

module _ {A : Type 0} (F : Format A) (file : List ℕ) where
  -- of the n values at p, m are left, at q, and xs are read
  abbrev pub Left : ℕ → ℕ → ℕ → ℕ → List A → Type 0
  Left n p m q xs = read_all F n file p ≡ bind (read_all F m file q) (λ ys. Ok (xs ++ ys))

  pub left_start : (n p : ℕ) → Left n p n p []
  left_start n p = sym (bind_ok_id (read_all F n file p))

  pub left_more : (n p m q i : ℕ) (xs : List A) (x : A) → suc i ≡ m → Left n p m q xs → F.read file q ≡ Ok x → Left n p i (q + F.size q x) (xs ++ x ∷ [])
  left_more n p m q i xs x e h r =
      h ∙ ap (λ k. bind (read_all F k file q) (λ ys. Ok (xs ++ ys))) (sym e)
      ∙ ap (λ t. bind (bind t (λ y. bind (read_all F i file (q + F.size q y)) (λ ys. Ok (y ∷ ys)))) (λ ys. Ok (xs ++ ys))) r
      ∙ bind_bind (read_all F i file (q + F.size q x)) (λ ys. Ok (x ∷ ys)) (λ ys. Ok (xs ++ ys))
      ∙ ap (bind (read_all F i file (q + F.size q x))) (λ j ys. Ok (sym (append_assoc xs (x ∷ []) ys) j))

  pub left_fails : (n p m q i : ℕ) (xs : List A) (e : ReadFault) → suc i ≡ m → Left n p m q xs → F.read file q ≡ Err e → read_all F n file p ≡ Err e
  left_fails n p m q i xs e s h r =
      h ∙ ap (λ k. bind (read_all F k file q) (λ ys. Ok (xs ++ ys))) (sym s)
      ∙ ap (λ t. bind (bind t (λ y. bind (read_all F i file (q + F.size q y)) (λ ys. Ok (y ∷ ys)))) (λ ys. Ok (xs ++ ys))) r

  pub left_none : (n p m q : ℕ) (xs : List A) → m ≡ 0 → Left n p m q xs → read_all F n file p ≡ Ok xs
  left_none n p m q xs e h = h ∙ ap (λ k. bind (read_all F k file q) (λ ys. Ok (xs ++ ys))) e ∙ ap Ok (append-nil xs)

-- one zero bit of m, and i after it
pub zeros_more : (file : List ℕ) (m q i x : ℕ) → suc i ≡ m → zero_bit.read file q ≡ Ok x → (zeros_format m).read file q ≡ (zeros_format i).read file (q + 1)
zeros_more file m q i x e r =
    ap (λ k. (zeros_format k).read file q) (sym e)
    ∙ ap (λ t. bind (bind t (λ y. bind (read_all zero_bit i file (q + 1)) (λ ys. Ok (y ∷ ys)))) (λ _. Ok tt)) r
    ∙ bind_bind (read_all zero_bit i file (q + 1)) (λ ys. Ok (x ∷ ys)) (λ _. Ok tt)

pub zeros_fails : (file : List ℕ) (m q i : ℕ) (f : ReadFault) → suc i ≡ m → zero_bit.read file q ≡ Err f → (zeros_format m).read file q ≡ Err f
zeros_fails file m q i f e r =
    ap (λ k. (zeros_format k).read file q) (sym e)
    ∙ ap (λ t. bind (bind t (λ y. bind (read_all zero_bit i file (q + 1)) (λ ys. Ok (y ∷ ys)))) (λ _. Ok tt)) r

pub size_all_push : {A : Type 0} (F : Format A) (p : ℕ) (xs : List A) (x : A) → size_all F p (xs ++ x ∷ []) ≡ size_all F p xs + F.size (p + size_all F p xs) x
size_all_push F p [] x = ap (λ q. F.size q x + 0) e ∙ omega arith where
  e : p ≡ p + 0
  e = omega arith
size_all_push F p (y ∷ xs) x =
    ap (λ n. F.size p y + n) (size_all_push F (p + F.size p y) xs x)
    ∙ ap (λ q. F.size p y + (size_all F (p + F.size p y) xs + F.size q x)) (add_assoc p (F.size p y) (size_all F (p + F.size p y) xs))
    ∙ sym (add_assoc (F.size p y) (size_all F (p + F.size p y) xs) (F.size (p + (F.size p y + size_all F (p + F.size p y) xs)) x))

module _ {A : Type 0} (F : Format A) (file : List ℕ) (n p : ℕ) where
  -- i of the n values at p are read, up to q, into n places
  pub record Filled (i : ℕ) (out : List A) (q : ℕ) : Type 0 where
    pub read : Left F file n p (n - i) q (take i out)
    pub long : length out ≡ n
    pub place : q ≡ p + size_all F p (take i out)

  pub filled_none : (out : List A) → length out ≡ n → Filled 0 out p
  filled_none out e =
      let all : n ≡ n - 0 = omega arith in
      record { read = subst (λ m. Left F file n p m p []) all (left_start F file n p); long = e; place = omega arith }

  pub filled_more : (i : ℕ) (out : List A) (q : ℕ) (x : A) → i < n → Filled i out q → F.read file q ≡ Ok x → Filled (i + 1) (set out i x) (q + F.size q x)
  filled_more i out q x lt h r =
      let left : suc (n - (i + 1)) ≡ n - i = omega arith in
      let within : i < length out = omega (arith, h.long) in
      let more = take_more_set out i x within in
      let from : q ≡ p + size_all F p (take i out) = h.place in
      record {
        read = subst (Left F file n p (n - (i + 1)) (q + F.size q x)) (sym more) (left_more F file n p (n - i) q (n - (i + 1)) (take i out) x left h.read r);
        long = length-set out i x ∙ h.long;
        place = (λ j. from j + F.size (from j) x) ∙ add_assoc p (size_all F p (take i out)) _ ∙ ap (λ k. p + k) (sym (size_all_push F p (take i out) x)) ∙ ap (λ xs. p + size_all F p xs) (sym more);
      }

  pub filled_fails : (i : ℕ) (out : List A) (q : ℕ) (e : ReadFault) → i < n → Filled i out q → F.read file q ≡ Err e → read_all F n file p ≡ Err e
  filled_fails i out q e lt h r =
      let left : suc (n - (i + 1)) ≡ n - i = omega arith in
      left_fails F file n p (n - i) q (n - (i + 1)) (take i out) e left h.read r

  -- with the rest of an array after them
  pub filled_all : (size : ℕ) (d : A) (i : ℕ) (out : List A) (q : ℕ) → n ≤ size → n ≤ i → Filled i out q → ReadsArray F size d n file p (Ok (out ++ drop n (replicate size d))) q
  filled_all size d i out q le e h =
      let none : n - i ≡ 0 = omega arith in
      let rest = drop-replicate n size d in
      let all : take n (out ++ drop n (replicate size d)) ≡ out = take_at out (drop n (replicate size d)) n h.long in
      let read : take i out ≡ out = take_all i out (omega (arith, h.long)) in (
        left_none F file n p (n - i) q (take i out) none h.read ∙ ap Ok (read ∙ sym all),
        h.place ∙ ap (λ xs. p + size_all F p xs) (read ∙ sym all),
        drop_at out (drop n (replicate size d)) n h.long ∙ rest,
        length-append out (drop n (replicate size d)) ∙ (λ k. h.long k + (ap length rest ∙ length-replicate (size - n) d) k) ∙ omega arith,
      )

pub size_all_zeros : (p n : ℕ) → size_all zero_bit p (replicate n 0) ≡ n
size_all_zeros p zero = refl
size_all_zeros p (suc n) = ap (λ k. 1 + k) (size_all_zeros (p + 1) n) ∙ omega arith

module _ {A B : Type 0} {file : List ℕ} {p : ℕ} where
  pub then_ok : (F : Format A) (G : A → Format B) {a : A} {b : B} → F.read file p ≡ Ok a → (G a).read file (p + F.size p a) ≡ Ok b → (then F G).read file p ≡ Ok (a, b)
  then_ok F G {a} h k =
      ap (λ r. bind r (λ y. bind ((G y).read file (p + F.size p y)) (λ z. Ok (y, z)))) h ∙ ap (λ r. bind r (λ z. Ok (a, z))) k

  pub via_ok : (to : A → B) (from : B → A) (F : Format A) {a : A} → F.read file p ≡ Ok a → (via to from F).read file p ≡ Ok (to a)
  via_ok to from F h = ap (λ r. bind r (λ a. Ok (to a))) h

  pub via_fails : (to : A → B) (from : B → A) (F : Format A) {e : ReadFault} → F.read file p ≡ Err e → (via to from F).read file p ≡ Err e
  via_fails to from F h = ap (λ r. bind r (λ a. Ok (to a))) h

  pub then_fails : (F : Format A) (G : A → Format B) {e : ReadFault} → F.read file p ≡ Err e → (then F G).read file p ≡ Err e
  then_fails F G h = ap (λ r. bind r (λ y. bind ((G y).read file (p + F.size p y)) (λ z. Ok (y, z)))) h

  pub then_after : (F : Format A) (G : A → Format B) {a : A} {e : ReadFault} → F.read file p ≡ Ok a → (G a).read file (p + F.size p a) ≡ Err e → (then F G).read file p ≡ Err e
  then_after F G {a} h k =
      ap (λ r. bind r (λ y. bind ((G y).read file (p + F.size p y)) (λ z. Ok (y, z)))) h ∙ ap (λ r. bind r (λ z. Ok (a, z))) k

-- the values read of a file, told of the same file at the same place
pub all_same : {A : Type 0} (F : Format A) (n : ℕ) (xs : List A) (old new : List ℕ) (p p' q : ℕ) → new ≡ old → p' ≡ p → (read_all F n (bits_of new) p' ≡ Ok xs) × (q ≡ p' + size_all F p' xs) → (read_all F n (bits_of old) p ≡ Ok xs) × (q ≡ p + size_all F p xs)
all_same F n xs old new p p' q e f h =
    subst (λ b. (read_all F n (bits_of b) p ≡ Ok xs) × (q ≡ p + size_all F p xs)) e
    (subst (λ k. (read_all F n (bits_of new) k ≡ Ok xs) × (q ≡ k + size_all F k xs)) f h)
