-- An on_delay is on when its input has been on for more than the delay. Assumes nothing.
use Rattle.std.proofs.Common.{◌≡◌, ℕ, zero, suc, ◌-◌, ◌≤◌, Bool, true, false, cond, ◌&&◌, eqb, ltb, List, [], ◌∷◌, refl, ap, ◌∙◌, arith}
use Rattle.std.proofs.lemmas.Bool.Decides.{nat_tests}
use Rattle.values.specs.declared.scalar.State.{State}
use Rattle.values.specs.declared.scalar.Value.TheVariants.{Binary}
use Rattle.values.specs.Values.{idle, binary_of}
use Rattle.plant.specs.declared.kinds.Kind.TheVariants.{OnDelay}
use Rattle.plant.specs.Ops.{timer}
use Rattle.plant.specs.Laws.{OnDelayLaw, streak, delay, after}
use Rattle.plant.specs.Plant.{plant, lawful_of}

-- ---- the on_delay

lawful : (d : ℕ) → 1 ≤ d → d ≤ 32767 → lawful_of OnDelay (delay d) ≡ true
lawful d l h = grind (arith, nat_tests)

abbrev kept : Bool → ℕ → State
kept b n = record { value = Binary b; count = n }

step : (d : ℕ) → lawful_of OnDelay (delay d) ≡ true → (s : State) (i : Bool)
    → plant.next 15 (delay d) s (Binary i ∷ []) ≡ kept i (timer (binary_of s.value) i s.count d)
step d e s i = ap (λ c. cond c (kept i (timer (binary_of s.value) i s.count d)) idle) e

shown : (d : ℕ) → lawful_of OnDelay (delay d) ≡ true → (s : State) (i : Bool)
    → plant.out 15 (delay d) s (Binary i ∷ []) ≡ Binary (i && eqb (timer (binary_of s.value) i s.count d) 0)
shown d e s i = ap (λ c. cond c (Binary (i && eqb (timer (binary_of s.value) i s.count d) 0)) (Binary false)) e

-- what is left of the delay after n cycles on end
abbrev left : ℕ → ℕ → ℕ
left d zero = 0
left d (suc n) = d - n

abbrev any : ℕ → Bool
any zero = false
any (suc n) = true

ticks : (d n : ℕ) → timer (any n) true (left d n) d ≡ left d (suc n)
ticks d zero = omega arith
ticks d (suc n) = omega arith

stops : (b : Bool) (n d : ℕ) → timer b false n d ≡ 0
stops true n d = refl
stops false n d = refl

after_is : (d : ℕ) → lawful_of OnDelay (delay d) ≡ true → (is : List Bool) → after d is ≡ kept (any (streak is)) (left d (streak is))
after_is d e [] = ap (λ c. cond c idle idle) e
after_is d e (true ∷ is) =
    step d e (after d is) true ∙ ap (λ (s : State). kept true (timer (binary_of s.value) true s.count d)) (after_is d e is) ∙ ap (kept true) (ticks d (streak is))
after_is d e (false ∷ is) = step d e (after d is) false ∙ ap (kept false) (stops (binary_of (after d is).value) (after d is).count d)

ended : (d n : ℕ) → eqb (left d (suc n)) 0 ≡ ltb d (suc n)
ended d n = grind (arith, nat_tests)

out_is : (d : ℕ) → lawful_of OnDelay (delay d) ≡ true → (i : Bool) (is : List Bool) → plant.out 15 (delay d) (after d is) (Binary i ∷ []) ≡ Binary (ltb d (streak (i ∷ is)))
out_is d e true is =
    shown d e (after d is) true ∙ ap (λ (s : State). Binary (eqb (timer (binary_of s.value) true s.count d) 0)) (after_is d e is)
    ∙ ap (λ n. Binary (eqb n 0)) (ticks d (streak is)) ∙ ap Binary (ended d (streak is))
out_is d e false is = shown d e (after d is) false ∙ ap Binary (let never : false ≡ ltb d 0 = grind (arith, nat_tests) in never)

pub on_delay : OnDelayLaw
on_delay d l h = out_is d (lawful d l h)
