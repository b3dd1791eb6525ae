-- A drawing has at most one first fault.
use Rattle.std.proofs.Common.{◌≡◌, ℕ, cond, eqb, ◌⊎◌, List, [], ◌∷◌, get_or, sym, refl, ap, ◌∙◌, inl, inr, ⊎_elim}
use Rattle.std.proofs.lemmas.Bool.{cases_order}
use Rattle.drawing.specs.declared.fault.CheckFault.{CheckFault}
use Rattle.drawing.specs.declared.fault.CheckFault.TheVariants.{UnknownKind, InputCount, ParameterCount, ParameterType, Unlawful, SourceAbsent, SourceType, Loop}
use Rattle.drawing.specs.Faults.{turn, Lower, OneFirst}

lower_or : (xs ys : List ℕ) → (xs ≡ ys) ⊎ (Lower xs ys ⊎ Lower ys xs)
lower_or [] [] = inl refl
lower_or [] (y ∷ ys) = inr (inl tt)
lower_or (x ∷ xs) [] = inr (inr tt)
lower_or (x ∷ xs) (y ∷ ys) =
    ⊎_elim
    (λ e. ⊎_elim (λ r. inl (cc)) (λ o. inr (⊎_elim (λ l. inl (inr (e, l))) (λ l. inr (inr (sym e, l))) o)) (lower_or xs ys))
    (λ o. inr (⊎_elim (λ l. inl (inl l)) (λ l. inr (inl l)) o))
    (cases_order x y)

-- the fault of a turn
abbrev fault : List ℕ → CheckFault
fault t =
    let b = get_or t 1 0 in
    let c = get_or t 2 0 in
    cond (eqb (get_or t 0 0) 1) (cond (eqb c 1) (UnknownKind b) (cond (eqb c 2) (InputCount b)
    (cond (eqb c 3) (ParameterCount b) (cond (eqb c 4) (ParameterType b (get_or t 3 0)) (Unlawful b)))))
    (cond (eqb (get_or t 0 0) 2) (cond (eqb (get_or t 3 0) 1) (SourceAbsent b c) (SourceType b c)) (Loop b))

fault_turn : (e : CheckFault) → fault (turn e) ≡ e
fault_turn (UnknownKind b) = refl
fault_turn (InputCount b) = refl
fault_turn (ParameterCount b) = refl
fault_turn (ParameterType b p) = refl
fault_turn (Unlawful b) = refl
fault_turn (SourceAbsent b i) = refl
fault_turn (SourceType b i) = refl
fault_turn (Loop b) = refl

pub one_first : OneFirst
one_first f cs bs d e h k =
    ⊎_elim (λ s. sym (fault_turn d) ∙ ap fault s ∙ fault_turn e) (λ o. absurd
    (⊎_elim (λ l. k.earliest d l h.wrong) (λ l. h.earliest e l k.wrong) o)) (lower_or (turn d) (turn e))
