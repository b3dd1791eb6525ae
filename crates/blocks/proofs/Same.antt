-- Signatures that `==` finds the same are the same. Assumes nothing.
use Rattle.std.proofs.Common.{rules, ◌≡◌, true, arith, ℕ, Bool, false, ◌&&◌, refl, ◌∙◌, ap}
use Rattle.blocks.specs.contracts.library.TypesPartialEq.TheImpl as types
use Rattle.blocks.specs.contracts.library.SignaturePartialEq.TheImpl as signatures
use Rattle.values.specs.contracts.scalar.ValueTypePartialEq.TheImpl as kinds
use Rattle.values.specs.declared.scalar.ValueType.{ValueType}
use Rattle.std.specs.contracts.prelude.BoolPartialEq.TheImpl as bools
use Rattle.blocks.specs.declared.library.Types.{Types}
use Rattle.blocks.specs.declared.library.Types.TheVariants.{Empty, One, Two, Three, Four}
use Rattle.blocks.specs.declared.library.Signature.{Signature}

both : (s t : Bool) → (s && t) ≡ true → (s ≡ true) × (t ≡ true)
both true t q = (refl, q)
both false t q = let z : ◌≡◌ {A = ℕ} 0 1 = cc in absurd (omega arith)

kind_true : (a b : ValueType) → kinds.ghosts.eq a b ≡ true → a ≡ b
kind_true a b q = search rules

bool_true : (a b : Bool) → bools.ghosts.eq a b ≡ true → a ≡ b
bool_true true true q = refl
bool_true true false q = search rules
bool_true false true q = search rules
bool_true false false q = refl

types_true : (a b : Types) → types.ghosts.eq a b ≡ true → a ≡ b
types_true Empty Empty q = refl
types_true Empty (One e) q = search rules
types_true Empty (Two e f) q = search rules
types_true Empty (Three e f g) q = search rules
types_true Empty (Four e f g h) q = search rules
types_true (One a) Empty q = search rules
types_true (One a) (One e) q = search rules
types_true (One a) (Two e f) q = search rules
types_true (One a) (Three e f g) q = search rules
types_true (One a) (Four e f g h) q = search rules
types_true (Two a b) Empty q = search rules
types_true (Two a b) (One e) q = search rules
types_true (Two a b) (Two e f) q = search rules
types_true (Two a b) (Three e f g) q = search rules
types_true (Two a b) (Four e f g h) q = search rules
types_true (Three a b c) Empty q = search rules
types_true (Three a b c) (One e) q = search rules
types_true (Three a b c) (Two e f) q = search rules
types_true (Three a b c) (Three e f g) q = search rules
types_true (Three a b c) (Four e f g h) q = search rules
types_true (Four a b c d) Empty q = search rules
types_true (Four a b c d) (One e) q = search rules
types_true (Four a b c d) (Two e f) q = search rules
types_true (Four a b c d) (Three e f g) q = search rules
types_true (Four a b c d) (Four e f g h) q =
    let all : (kinds.ghosts.eq a e && (kinds.ghosts.eq b f && (kinds.ghosts.eq c g && kinds.ghosts.eq d h))) ≡ true = q in
    let w = both _ _ all in let x = both _ _ w.1 in let y = both _ _ x.1 in
    let i = kind_true a e w.0 in let j = kind_true b f x.0 in let k = kind_true c g y.0 in let l = kind_true d h y.1 in cc

abbrev made : Types → Types → ValueType → Bool → Signature
made i p o d = record { inputs = i; params = p; output = o; delaying = d }

joined : (a b : Signature) → a.inputs ≡ b.inputs → a.params ≡ b.params → a.output ≡ b.output → a.delaying ≡ b.delaying → a ≡ b
joined a b i p o d =
    ap (λ x. made x a.params a.output a.delaying) i ∙ ap (λ x. made b.inputs x a.output a.delaying) p
    ∙ ap (λ x. made b.inputs b.params x a.delaying) o ∙ ap (made b.inputs b.params b.output) d

pub same_true : (a b : Signature) → signatures.ghosts.eq a b ≡ true → a ≡ b
same_true a b q =
    let all : (types.ghosts.eq a.inputs b.inputs && (types.ghosts.eq a.params b.params && (kinds.ghosts.eq a.output b.output && bools.ghosts.eq a.delaying b.delaying))) ≡ true = q in
    let w = both _ _ all in let x = both _ _ w.1 in let y = both _ _ x.1 in
    joined a b (types_true a.inputs b.inputs w.0) (types_true a.params b.params x.0) (kind_true a.output b.output y.0) (bool_true a.delaying b.delaying y.1)
