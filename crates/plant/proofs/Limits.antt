-- A limit holds its input within low and high. Assumes nothing.
use Rattle.std.proofs.Common.{◌≡◌, Bool, true, false, cond, sym, refl, ap, ◌∙◌}
use lib.Ieee.{Float, is_nan, lt, le}
use Rattle.std.proofs.lemmas.Bool.{cond-true, cond-false}
use Rattle.values.specs.declared.scalar.State.{State}
use Rattle.values.specs.declared.scalar.Value.TheVariants.{Real}
use Rattle.values.specs.declared.scalar.ValueType.TheVariants as T
use Rattle.values.specs.Values.{zero_of}
use Rattle.plant.specs.Ops.{limit}
use Rattle.plant.specs.Laws.{limited, Limits, LimitCases}
use Rattle.plant.proofs.RealOrder.{le_left, le_right, le_same, le_from_not_lt, not_lt_from_le, le_from_lt, lt_chain, never_true}

pub lawful_limit : (low high x : Float) (s : State) → le low high ≡ true → limited low high s x ≡ Real (limit low high x)
lawful_limit low high x s h = ap (λ b. cond b (Real (limit low high x)) (zero_of T.Real)) h

-- low ≤ y and y ≤ high
abbrev Within : Float → Float → Float → Type 0
Within low high y = (le low y ≡ true) × (le y high ≡ true)

within : (low high x : Float) → le low high ≡ true → is_nan x ≡ false → (b c : Bool) → lt x low ≡ b → lt high x ≡ c → Within low high (cond b low (cond c high x))
within low high x h n true c p q = (le_same low (le_left low high h), h)
within low high x h n false true p q = (h, le_same high (le_right low high h))
within low high x h n false false p q = (le_from_not_lt x low n (le_left low high h) p, le_from_not_lt high x (le_right low high h) n q)

pub limits : Limits
limits low high x s h n = (limit low high x, lawful_limit low high x s h, (within low high x h n (lt x low) (lt high x) refl refl).0, (within low high x h n (lt x low) (lt high x) refl refl).1)

-- the input where it is neither below low nor above high
pub limit_through : (low high x : Float) → lt x low ≡ false → lt high x ≡ false → limit low high x ≡ x
limit_through low high x p q = cond-false (lt x low) _ _ p ∙ cond-false (lt high x) _ _ q

limit_above : (low high x : Float) → lt x low ≡ false → lt high x ≡ true → limit low high x ≡ high
limit_above low high x p q = cond-false (lt x low) _ _ p ∙ cond-true (lt high x) _ _ q

-- what is above high is not below low
not_below : (low high x : Float) → le low high ≡ true → lt high x ≡ true → lt x low ≡ false
not_below low high x h q = never_true (lt x low) (λ e. sym (not_lt_from_le x high (le_from_lt x high (lt_chain x low high e h))) ∙ q)

pub limit_cases : LimitCases
limit_cases low high x s h = (
  λ p q. lawful_limit low high x s h ∙ ap Real (limit_through low high x (not_lt_from_le low x p) (not_lt_from_le x high q)),
  λ p. lawful_limit low high x s h ∙ ap Real (cond-true (lt x low) _ _ p),
  λ q. lawful_limit low high x s h ∙ ap Real (limit_above low high x (not_below low high x h q) q),
)
