-- Types of values, and lists of them, compared. Assumes nothing.
use Rattle.std.proofs.Common.{◌≡◌, Bool, true, List, Decides, sym, refl, ap, ◌∙◌, rules}
use Rattle.std.proofs.lemmas.Bool.{false≢true}
use Rattle.std.proofs.lemmas.Slice.Eq.{slice_eq-Decides}
use Rattle.std.specs.Cmp.Lexicographic.{pointwise}
use Rattle.values.specs.contracts.scalar.ValueTypePartialEq.TheImpl as kinds
use Rattle.values.specs.declared.scalar.ValueType.{ValueType}
use Rattle.values.specs.declared.scalar.ValueType.TheVariants.{Binary, Whole, Real}
use Rattle.sheet.specs.Cells.{same_type}

same_self : (t : ValueType) → same_type t t ≡ true
same_self Binary = refl
same_self Whole = refl
same_self Real = refl

pub type_is : (a b : ValueType) → same_type a b ≡ true → a ≡ b
type_is Binary Binary e = refl
type_is Binary Whole e = absurd (false≢true e)
type_is Binary Real e = absurd (false≢true e)
type_is Whole Binary e = absurd (false≢true e)
type_is Whole Whole e = refl
type_is Whole Real e = absurd (false≢true e)
type_is Real Binary e = absurd (false≢true e)
type_is Real Whole e = absurd (false≢true e)
type_is Real Real e = refl

pub type_same : (a b : ValueType) → a ≡ b → same_type a b ≡ true
type_same a b e = ap (same_type a) (sym e) ∙ same_self a

kind_is : (a b : ValueType) → Decides (kinds.ghosts.eq a b) (a ≡ b)
kind_is a b = search rules

-- equality of lists, by that of their types
pub types_are : (b : Bool) (ts us : List ValueType) → b ≡ pointwise kinds.ghosts.eq ts us → Decides b (ts ≡ us)
types_are b ts us e = slice_eq-Decides kind_is _ _ _ e
