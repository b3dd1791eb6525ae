-- The truth-table library keeps the laws of a library. Assumes nothing.
use Rattle.std.specs.Prelude.{◌≡◌, ℕ, zero, suc, ◌≤◌, Bool, true, false, cond, ◌&&◌, List, [], ◌∷◌, is_some, Some, None, Option, refl}
use Rattle.std.proofs.Common.{sym, ap, ◌∙◌, arith}
use Rattle.std.proofs.lemmas.Bool.Decides.{nat_tests}
use Rattle.values.specs.declared.scalar.State.{State}
use Rattle.values.specs.declared.scalar.Value.{Value}
use Rattle.values.specs.declared.scalar.Value.TheVariants.{Binary}
use Rattle.values.specs.declared.scalar.ValueType.{ValueType}
use Rattle.values.specs.declared.scalar.ValueType.TheVariants as V
use Rattle.values.specs.Values.{conform, idle, zero_of}
use Rattle.blocks.specs.declared.library.Types.{Types}
use Rattle.truth_tables.specs.declared.entries.Entry.{Entry}
use Rattle.blocks.specs.Library.{Sound, inputs_of, output_of, delays}
use Rattle.truth_tables.specs.Tables.{binaries, index, looked, blank, late, entry_of, ports_by, known, shown, later, tables}
use Rattle.blocks.proofs.Arguments.{bin, no}

blank_above : (es : List Entry) (k : ℕ) → 64 ≤ k → entry_of es k ≡ blank
blank_above es k h = grind (arith, nat_tests)

unknown : (o : Option Types) (d : Bool) → ports_by o d ≡ None → is_some o ≡ false
unknown None d e = refl
unknown (Some is) d e = let z : ◌≡◌ {A = ℕ} 0 1 = cc in let never : ⊥ = omega arith in elim never [ ]

binary : (o : Option Types) (d : Bool) → V.Binary ≡ output_of (ports_by o d)
binary None d = refl
binary (Some is) d = refl

delayed : (o : Option Types) (d : Bool) (e : Entry) (s : State) (is js : List Value) → delays (ports_by o d) ≡ true → (is_some o && shown e d s is) ≡ (is_some o && shown e d s js)
delayed None d e s is js h = refl
delayed (Some t) true e s is js h = refl
delayed (Some t) false e s is js h = no h

-- the inputs of a table, made right
abbrev right : ℕ → Bool → List Value → List Value
right n d is = conform (inputs_of (ports_by (binaries n) d)) is

unknown_above : (m : ℕ) → known (suc (suc (suc (suc (suc m))))) ≡ false
unknown_above m = grind (arith, nat_tests)

index_same : (n : ℕ) (d : Bool) (is : List Value) → known n ≡ true → index n (right n d is) ≡ index n is
index_same zero d is h = no h
index_same (suc zero) d is h = let a = bin (V.Binary ∷ []) is 0 (omega arith) refl in cc
index_same (suc (suc zero)) d is h =
    let ts : List ValueType = V.Binary ∷ (V.Binary ∷ []) in
    let a = bin ts is 0 (omega arith) refl in let b = bin ts is 1 (omega arith) refl in cc
index_same (suc (suc (suc zero))) d is h =
    let ts : List ValueType = V.Binary ∷ (V.Binary ∷ (V.Binary ∷ [])) in
    let a = bin ts is 0 (omega arith) refl in let b = bin ts is 1 (omega arith) refl in let c = bin ts is 2 (omega arith) refl in cc
index_same (suc (suc (suc (suc zero)))) d is h =
    let ts : List ValueType = V.Binary ∷ (V.Binary ∷ (V.Binary ∷ (V.Binary ∷ []))) in
    let a = bin ts is 0 (omega arith) refl in let b = bin ts is 1 (omega arith) refl in
    let c = bin ts is 2 (omega arith) refl in let f = bin ts is 3 (omega arith) refl in cc
index_same (suc (suc (suc (suc (suc m))))) d is h = no (sym (unknown_above m) ∙ h)

looked_same : (e : Entry) (d : Bool) (is : List Value) → known e.inputs ≡ true → looked e (right e.inputs d is) ≡ looked e is
looked_same e d is h = let a = index_same e.inputs d is h in cc

and_same : (b x y : Bool) → (b ≡ true → x ≡ y) → (b && x) ≡ (b && y)
and_same true x y h = h refl
and_same false x y h = refl

cond_same : {A : Type 0} (b : Bool) (x y z : A) → (b ≡ true → x ≡ y) → cond b x z ≡ cond b y z
cond_same true x y z h = h refl
cond_same false x y z h = refl

by_false : {A : Type 0} (b : Bool) (x y : A) → b ≡ false → cond b x y ≡ y
by_false b x y e = ap (λ v. cond v x y) e

out_same : (e : Entry) (d : Bool) (s : State) (is : List Value) → (known e.inputs && shown e d s (right e.inputs d is)) ≡ (known e.inputs && shown e d s is)
out_same e d s is = and_same (known e.inputs) _ _ (λ h. let a = looked_same e d is h in cc)

next_same : (e : Entry) (d : Bool) (is : List Value) → cond (known e.inputs) (later e d (right e.inputs d is)) idle ≡ cond (known e.inputs) (later e d is) idle
next_same e d is = cond_same (known e.inputs) _ _ idle (λ h. let a = looked_same e d is h in cc)

zero_out : (o : Option Types) (d b : Bool) → is_some o ≡ false → Binary (is_some o && b) ≡ zero_of (output_of (ports_by o d))
zero_out None d b h = refl
zero_out (Some t) d b h = no (sym h)

pub tables_sound : (es : List Entry) → Sound (tables es)
tables_sound es = record {
  bounded = λ k h. ap (λ (e : Entry). ports_by (binaries e.inputs) (late k)) (blank_above es k h);
  each = λ k. record {
    unknown = λ ps. unknown (binaries (entry_of es k).inputs) (late k);
    typed = λ ps s is. binary (binaries (entry_of es k).inputs) (late k);
    delayed = λ ps s is js h. ap Binary (delayed (binaries (entry_of es k).inputs) (late k) (entry_of es k) s is js h);
    lawful_args = λ ps. refl;
    first_args = λ ps. refl;
    out_args = λ ps s is. ap Binary (out_same (entry_of es k) (late k) s is);
    next_args = λ ps s is. next_same (entry_of es k) (late k) is;
    unlawful_out = λ ps s is. zero_out (binaries (entry_of es k).inputs) (late k) (shown (entry_of es k) (late k) s is);
    unlawful_first = λ ps e. refl;
    unlawful_next = λ ps s is. by_false (known (entry_of es k).inputs) _ idle;
  };
}
