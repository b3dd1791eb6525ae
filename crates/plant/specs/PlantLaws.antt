-- The plant library keeps the laws of a library. Assumes nothing.
use Rattle.std.specs.Prelude.{◌≡◌, ℕ, ◌≤◌, Bool, true, false, cond, List, [], ◌∷◌, Some, None, Option, slice_index_or, refl}
use Rattle.std.proofs.Common.{ap, ◌∙◌, arith}
use Rattle.std.proofs.lemmas.Bool.Decides.{nat_tests}
use Rattle.values.specs.declared.scalar.State.{State}
use Rattle.values.specs.declared.scalar.Value.{Value}
use Rattle.values.specs.declared.scalar.ValueType.{ValueType}
use Rattle.values.specs.declared.scalar.ValueType.TheVariants as V
use Rattle.values.specs.Values.{type_of, zero_of, coerce, conform, absent, argument, idle}
use Rattle.values.proofs.Arguments.{coerce_type, zero_type, coerce_twice, conform_at}
use Rattle.blocks.proofs.Arguments.{bin, num, flo, no}
use Rattle.plant.specs.declared.kinds.Kind.{Kind}
use Rattle.plant.specs.declared.kinds.Kind.TheVariants.{Delay, And, Or, Xor, Not, Limit, Add, Sequence, Scale, OnDelay}
use Rattle.blocks.specs.Library.{Sound, SoundAt, listed, inputs_of, params_of, output_of, delays}
use Rattle.plant.specs.Plant.{kind_of, signature_of, lawful_of, first_of, out_of, next_of, signature_by, lawful_by, first_by, out_by, next_by, plant}

-- ---- kinds

unknown_above : (k : ℕ) → 64 ≤ k → kind_of k ≡ None
unknown_above k h = grind (arith, nat_tests)

-- ---- types

cond_type : (b : Bool) (x y : Value) (t : ValueType) → type_of x ≡ t → type_of y ≡ t → type_of (cond b x y) ≡ t
cond_type true x y t p q = p
cond_type false x y t p q = q

kind_typed : (q : Kind) (ps : List Value) (s : State) (is : List Value) → type_of (out_of q ps s is) ≡ (signature_of q).output
kind_typed (Delay t) ps s is = coerce_type t s.value
kind_typed And ps s is = refl
kind_typed Or ps s is = refl
kind_typed Xor ps s is = refl
kind_typed Not ps s is = refl
kind_typed Limit ps s is = refl
kind_typed Add ps s is = refl
kind_typed Sequence ps s is = refl
kind_typed Scale ps s is = refl
kind_typed OnDelay ps s is = refl

typed : (o : Option Kind) (ps : List Value) (s : State) (is : List Value) → type_of (out_by o ps s is) ≡ output_of (signature_by o)
typed None ps s is = refl
typed (Some q) ps s is = cond_type (lawful_of q ps) _ _ (signature_of q).output (kind_typed q ps s is) (zero_type (signature_of q).output)

delayed : (o : Option Kind) (ps : List Value) (s : State) (is js : List Value) → delays (signature_by o) ≡ true → out_by o ps s is ≡ out_by o ps s js
delayed None ps s is js e = refl
delayed (Some (Delay t)) ps s is js e = refl
delayed (Some And) ps s is js e = no e
delayed (Some Or) ps s is js e = no e
delayed (Some Xor) ps s is js e = no e
delayed (Some Not) ps s is js e = no e
delayed (Some Limit) ps s is js e = no e
delayed (Some Add) ps s is js e = no e
delayed (Some Sequence) ps s is js e = no e
delayed (Some Scale) ps s is js e = no e
delayed (Some OnDelay) ps s is js e = no e

-- ---- arguments

only : (t : ValueType) (vs : List Value) → argument t (conform (t ∷ []) vs) 0 ≡ argument t vs 0
only t vs = ap (coerce t) (conform_at (t ∷ []) vs 0 (omega arith)) ∙ coerce_twice t (slice_index_or vs 0 absent)

lawful_same : (q : Kind) (ps : List Value) → lawful_of q (conform (listed (signature_of q).params) ps) ≡ lawful_of q ps
lawful_same (Delay t) ps = refl
lawful_same And ps = refl
lawful_same Or ps = refl
lawful_same Xor ps = refl
lawful_same Not ps = refl
lawful_same Limit ps = let a = flo (V.Real ∷ (V.Real ∷ [])) ps 0 (omega arith) refl in let b = flo (V.Real ∷ (V.Real ∷ [])) ps 1 (omega arith) refl in cc
lawful_same Add ps = refl
lawful_same Sequence ps = let a = num (V.Whole ∷ []) ps 0 (omega arith) refl in cc
lawful_same Scale ps = let a = flo (V.Real ∷ (V.Real ∷ (V.Real ∷ (V.Real ∷ [])))) ps 0 (omega arith) refl in let b = flo (V.Real ∷ (V.Real ∷ (V.Real ∷ (V.Real ∷ [])))) ps 1 (omega arith) refl in cc
lawful_same OnDelay ps = let a = num (V.Whole ∷ []) ps 0 (omega arith) refl in cc

first_same : (q : Kind) (ps : List Value) → first_of q (conform (listed (signature_of q).params) ps) ≡ first_of q ps
first_same (Delay t) ps = let a = only t ps in cc
first_same And ps = refl
first_same Or ps = refl
first_same Xor ps = refl
first_same Not ps = refl
first_same Limit ps = refl
first_same Add ps = refl
first_same Sequence ps = refl
first_same Scale ps = refl
first_same OnDelay ps = refl

-- the right arguments of a kind
abbrev right_params : Kind → List Value → List Value
right_params q ps = conform (listed (signature_of q).params) ps

abbrev right_inputs : Kind → List Value → List Value
right_inputs q is = conform (listed (signature_of q).inputs) is

out_same : (q : Kind) (ps : List Value) (s : State) (is : List Value) → out_of q (right_params q ps) s (right_inputs q is) ≡ out_of q ps s is
out_same (Delay t) ps s is = refl
out_same And ps s is = let a = bin (V.Binary ∷ (V.Binary ∷ [])) is 0 (omega arith) refl in let b = bin (V.Binary ∷ (V.Binary ∷ [])) is 1 (omega arith) refl in cc
out_same Or ps s is = let a = bin (V.Binary ∷ (V.Binary ∷ [])) is 0 (omega arith) refl in let b = bin (V.Binary ∷ (V.Binary ∷ [])) is 1 (omega arith) refl in cc
out_same Xor ps s is = let a = bin (V.Binary ∷ (V.Binary ∷ [])) is 0 (omega arith) refl in let b = bin (V.Binary ∷ (V.Binary ∷ [])) is 1 (omega arith) refl in cc
out_same Not ps s is = let a = bin (V.Binary ∷ []) is 0 (omega arith) refl in cc
out_same Limit ps s is =
    let ts : List ValueType = V.Real ∷ (V.Real ∷ []) in
    let a = flo ts ps 0 (omega arith) refl in let b = flo ts ps 1 (omega arith) refl in let x = flo (V.Real ∷ []) is 0 (omega arith) refl in cc
out_same Add ps s is = let a = num (V.Whole ∷ (V.Whole ∷ [])) is 0 (omega arith) refl in let b = num (V.Whole ∷ (V.Whole ∷ [])) is 1 (omega arith) refl in cc
out_same Sequence ps s is = let a = num (V.Whole ∷ []) ps 0 (omega arith) refl in let x = flo (V.Real ∷ []) is 0 (omega arith) refl in cc
out_same Scale ps s is =
    let ts : List ValueType = V.Real ∷ (V.Real ∷ (V.Real ∷ (V.Real ∷ []))) in
    let a = flo ts ps 0 (omega arith) refl in let b = flo ts ps 1 (omega arith) refl in
    let c = flo ts ps 2 (omega arith) refl in let d = flo ts ps 3 (omega arith) refl in
    let x = flo (V.Real ∷ []) is 0 (omega arith) refl in cc
out_same OnDelay ps s is = let a = num (V.Whole ∷ []) ps 0 (omega arith) refl in let x = bin (V.Binary ∷ []) is 0 (omega arith) refl in cc

next_same : (q : Kind) (ps : List Value) (s : State) (is : List Value) → next_of q (right_params q ps) s (right_inputs q is) ≡ next_of q ps s is
next_same (Delay t) ps s is = let a = only t is in cc
next_same And ps s is = refl
next_same Or ps s is = refl
next_same Xor ps s is = refl
next_same Not ps s is = refl
next_same Limit ps s is = refl
next_same Add ps s is = refl
next_same Sequence ps s is = refl
next_same Scale ps s is = refl
next_same OnDelay ps s is = let a = num (V.Whole ∷ []) ps 0 (omega arith) refl in let x = bin (V.Binary ∷ []) is 0 (omega arith) refl in cc

lawful_args : (o : Option Kind) (ps : List Value) → lawful_by o (conform (params_of (signature_by o)) ps) ≡ lawful_by o ps
lawful_args None ps = refl
lawful_args (Some q) ps = lawful_same q ps

first_args : (o : Option Kind) (ps : List Value) → first_by o (conform (params_of (signature_by o)) ps) ≡ first_by o ps
first_args None ps = refl
first_args (Some q) ps = let a = lawful_same q ps in let b = first_same q ps in cc

out_args : (o : Option Kind) (ps : List Value) (s : State) (is : List Value)
    → out_by o (conform (params_of (signature_by o)) ps) s (conform (inputs_of (signature_by o)) is) ≡ out_by o ps s is
out_args None ps s is = refl
out_args (Some q) ps s is = let a = lawful_same q ps in let b = out_same q ps s is in cc

next_args : (o : Option Kind) (ps : List Value) (s : State) (is : List Value)
    → next_by o (conform (params_of (signature_by o)) ps) s (conform (inputs_of (signature_by o)) is) ≡ next_by o ps s is
next_args None ps s is = refl
next_args (Some q) ps s is = let a = lawful_same q ps in let b = next_same q ps s is in cc

-- ---- unlawful uses

by_false : {A : Type 0} (b : Bool) (x y : A) → b ≡ false → cond b x y ≡ y
by_false b x y e = ap (λ v. cond v x y) e

unlawful_out : (o : Option Kind) (ps : List Value) (s : State) (is : List Value) → lawful_by o ps ≡ false → out_by o ps s is ≡ zero_of (output_of (signature_by o))
unlawful_out None ps s is e = refl
unlawful_out (Some q) ps s is e = by_false (lawful_of q ps) _ _ e

unlawful_first : (o : Option Kind) (ps : List Value) → lawful_by o ps ≡ false → first_by o ps ≡ idle
unlawful_first None ps e = refl
unlawful_first (Some q) ps e = by_false (lawful_of q ps) _ _ e

unlawful_next : (o : Option Kind) (ps : List Value) (s : State) (is : List Value) → lawful_by o ps ≡ false → next_by o ps s is ≡ idle
unlawful_next None ps s is e = refl
unlawful_next (Some q) ps s is e = by_false (lawful_of q ps) _ _ e

unknown : (o : Option Kind) (ps : List Value) → signature_by o ≡ None → lawful_by o ps ≡ false
unknown None ps e = refl
unknown (Some q) ps e = let z : ◌≡◌ {A = ℕ} 0 1 = cc in let never : ⊥ = omega arith in elim never [ ]

each : (o : Option Kind) → SoundAt (signature_by o) (lawful_by o) (first_by o) (out_by o) (next_by o)
each o = record {
  unknown = unknown o;
  typed = typed o;
  delayed = delayed o;
  lawful_args = lawful_args o;
  first_args = first_args o;
  out_args = out_args o;
  next_args = next_args o;
  unlawful_out = unlawful_out o;
  unlawful_first = unlawful_first o;
  unlawful_next = unlawful_next o;
}

pub plant_sound : Sound plant
plant_sound = record { bounded = λ k h. ap signature_by (unknown_above k h); each = λ k. each (kind_of k) }
