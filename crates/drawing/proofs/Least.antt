-- The first place that fails a test, and an option by its two cases.
use Rattle.std.proofs.Common.{◌≡◌, ℕ, zero, suc, ◌<◌, ◌⊎◌, Some, None, Option, refl, subst, inl, inr, ⊎_elim, arith}
use Rattle.std.proofs.lemmas.Bool.{cases_lt}

-- all places below n pass, or the first that fails
pub least : (P Q : ℕ → Type 0) → ((i : ℕ) → P i ⊎ Q i) → (n : ℕ) → ((i : ℕ) → i < n → P i) ⊎ ((i : ℕ) × (i < n) × Q i × ((j : ℕ) → j < i → P j))
least P Q test zero = inl (λ i h. absurd (omega arith))
least P Q test (suc n) =
    ⊎_elim
    (λ all. ⊎_elim
    (λ p. inl (λ i h. ⊎_elim (all i) (λ ge. let e : n ≡ i = omega arith in subst P e p) (cases_lt i n)))
    (λ q. inr (n, omega arith, q, all)) (test n))
    (λ f. inr (f.0, omega (arith, f.1), f.2, f.3)) (least P Q test n)

pub some_or : {X : Type 0} (o : Option X) → (o ≡ None) ⊎ ((x : X) × (o ≡ Some x))
some_or None = inl refl
some_or (Some x) = inr (x, refl)

pub none_some : {X : Type 0} {P : Type 0} (o : Option X) (x : X) → o ≡ None → o ≡ Some x → P
none_some o x p q = let z : ◌≡◌ {A = ℕ} 0 1 = cc in absurd (omega arith)
