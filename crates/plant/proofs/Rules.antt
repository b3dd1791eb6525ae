-- The laws that hold case by case: gates, sums, kept states. Assumes nothing.
use Rattle.std.proofs.Common.{◌≡◌, ℕ, Bool, true, false, cond, List, ℤ, pos, negsuc, ◌+ℤ◌, ◌≤ℤ◌, ◌<ℤ◌, Some, None, Option, sym, refl, ap, arith}
use Rattle.std.specs.Int.{saturate_to_bits}
use Rattle.std.proofs.lemmas.Int.{ints}
use Rattle.std.proofs.lemmas.Bool.Decides.{nat_tests}
use Rattle.values.specs.declared.scalar.State.{State}
use Rattle.values.specs.declared.scalar.Value.{Value}
use Rattle.values.specs.declared.scalar.Value.TheVariants.{Whole}
use Rattle.values.specs.Values.{idle}
use Rattle.blocks.specs.Library.{delays}
use Rattle.blocks.proofs.Arguments.{no}
use Rattle.plant.specs.declared.kinds.Kind.{Kind}
use Rattle.plant.specs.declared.kinds.Kind.TheVariants.{Delay, And, Or, Xor, Not, Limit, Add, Sequence, Scale, OnDelay}
use Rattle.plant.specs.Laws.{Gates, SumsHeld, StatesKept}
use Rattle.plant.specs.Plant.{kind_of, signature_by, lawful_of, first_by, next_by}

pub gates : Gates
gates s = (refl, refl, refl, refl, refl)

-- ---- sums

in_range : (z : ℤ) → negsuc 32767 ≤ℤ z → z ≤ℤ pos 32767 → saturate_to_bits 15 z ≡ z
in_range z l h = grind (arith, ints)

above : (z : ℤ) → pos 32767 <ℤ z → saturate_to_bits 15 z ≡ pos 32767
above z h = grind (arith, ints)

below : (z : ℤ) → z <ℤ negsuc 32767 → saturate_to_bits 15 z ≡ negsuc 32767
below z h = grind (arith, ints)

pub sums_held : SumsHeld
sums_held s a b = (λ l h. ap Whole (in_range (a +ℤ b) l h), λ h. ap Whole (above (a +ℤ b) h), λ h. ap Whole (below (a +ℤ b) h))

-- ---- states

either : (b : Bool) → cond b idle idle ≡ idle
either true = refl
either false = refl

only_fifteen : (k : ℕ) → kind_of k ≡ Some OnDelay → k ≡ 15
only_fifteen k e = grind (arith, nat_tests)

abbrev Idle : Option Kind → List Value → Type 0
Idle o ps = (first_by o ps ≡ idle) × ((s : State) (is : List Value) → next_by o ps s is ≡ idle)

keeps_none : (o : Option Kind) (ps : List Value) → delays (signature_by o) ≡ false → (o ≡ Some OnDelay → ⊥) → Idle o ps
keeps_none None ps d t = (refl, λ s is. refl)
keeps_none (Some (Delay v)) ps d t = no (sym d)
keeps_none (Some And) ps d t = (refl, λ s is. refl)
keeps_none (Some Or) ps d t = (refl, λ s is. refl)
keeps_none (Some Xor) ps d t = (refl, λ s is. refl)
keeps_none (Some Not) ps d t = (refl, λ s is. refl)
keeps_none (Some Limit) ps d t = (either (lawful_of Limit ps), λ s is. either (lawful_of Limit ps))
keeps_none (Some Add) ps d t = (refl, λ s is. refl)
keeps_none (Some Sequence) ps d t = (either (lawful_of Sequence ps), λ s is. either (lawful_of Sequence ps))
keeps_none (Some Scale) ps d t = (either (lawful_of Scale ps), λ s is. either (lawful_of Scale ps))
keeps_none (Some OnDelay) ps d t = elim (t refl) [ ]

abbrev NoCount : Option Kind → List Value → Type 0
NoCount o ps = ((first_by o ps).count ≡ 0) × ((s : State) (is : List Value) → (next_by o ps s is).count ≡ 0)

counts_none : (o : Option Kind) (ps : List Value) → delays (signature_by o) ≡ true → NoCount o ps
counts_none None ps d = no d
counts_none (Some (Delay v)) ps d = (refl, λ s is. refl)
counts_none (Some And) ps d = no d
counts_none (Some Or) ps d = no d
counts_none (Some Xor) ps d = no d
counts_none (Some Not) ps d = no d
counts_none (Some Limit) ps d = no d
counts_none (Some Add) ps d = no d
counts_none (Some Sequence) ps d = no d
counts_none (Some Scale) ps d = no d
counts_none (Some OnDelay) ps d = no d

pub states_kept : StatesKept
states_kept k ps = (λ d t. keeps_none (kind_of k) ps d (λ e. t (only_fifteen k e)), λ d. counts_none (kind_of k) ps d)
