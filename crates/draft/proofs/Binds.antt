-- What an answer that is bound or tested came from.
use Rattle.std.proofs.Common.{◌≡◌, ℕ, Bool, true, false, cond, ◌⊎◌, Ok, Err, Result, refl, ap, inl, inr, arith}
use Rattle.draft.specs.declared.fault.ReadFault.{ReadFault}
use Rattle.draft.specs.Format.{bind}

pub bind_bind : {A B C : Type 0} (r : Result A ReadFault) (k : A → Result B ReadFault) (l : B → Result C ReadFault) → bind (bind r k) l ≡ bind r (λ a. bind (k a) l)
bind_bind (Ok a) k l = refl
bind_bind (Err e) k l = refl

pub bind_ok_id : {A : Type 0} (r : Result A ReadFault) → bind r Ok ≡ r
bind_ok_id (Ok a) = refl
bind_ok_id (Err e) = refl

pub bind_ok : {A B : Type 0} (r : Result A ReadFault) (k : A → Result B ReadFault) (b : B) → bind r k ≡ Ok b → (a : A) × (r ≡ Ok a) × (k a ≡ Ok b)
bind_ok (Ok a) k b h = (a, refl, h)
bind_ok (Err e) k b h = let z : ◌≡◌ {A = ℕ} 0 1 = cc in absurd (omega arith)

pub bind_err : {A B : Type 0} (r : Result A ReadFault) (k : A → Result B ReadFault) (e : ReadFault) → bind r k ≡ Err e → (r ≡ Err e) ⊎ ((a : A) × (r ≡ Ok a) × (k a ≡ Err e))
bind_err (Ok a) k e h = inr (a, refl, h)
bind_err (Err d) k e h = let same : d ≡ e = cc in inl (ap Err same)

pub tested : {A : Type 0} (t : Bool) (v a : A) (e : ReadFault) → cond t (Ok v) (Err e) ≡ Ok a → (t ≡ true) × (v ≡ a)
tested true v a e h = (refl, cc)
tested false v a e h = let z : ◌≡◌ {A = ℕ} 0 1 = cc in absurd (omega arith)

pub failed : {A : Type 0} (t : Bool) (v : A) (d e : ReadFault) → cond t (Ok v) (Err d) ≡ Err e → (t ≡ false) × (d ≡ e)
failed true v d e h = let z : ◌≡◌ {A = ℕ} 0 1 = cc in absurd (omega arith)
failed false v d e h = (refl, cc)
