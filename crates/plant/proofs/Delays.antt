-- A delay shows its parameter, and then its inputs one cycle late. Assumes nothing.
use Rattle.std.proofs.Common.{◌≡◌, List, [], ◌∷◌, map, length, take, refl, ap, ◌∙◌}
use Rattle.values.specs.declared.scalar.State.{State}
use Rattle.values.specs.declared.scalar.Value.{Value}
use Rattle.values.specs.declared.scalar.ValueType.{ValueType}
use Rattle.values.specs.declared.scalar.ValueType.TheVariants as T
use Rattle.values.specs.Values.{coerce}
use Rattle.blocks.specs.Response.{response_from}
use Rattle.plant.specs.Laws.{delay_of, singly, Delays}
use Rattle.plant.specs.Plant.{plant}

abbrev kept : Value → State
kept v = record { value = v; count = 0 }

-- the state that holds a value of the type shows it, and takes the input
shows : (t : ValueType) (p v i : Value) → plant.out (delay_of t) (p ∷ []) (kept (coerce t v)) (i ∷ []) ≡ coerce t v
shows T.Binary p v i = refl
shows T.Whole p v i = refl
shows T.Real p v i = refl

takes : (t : ValueType) (p : Value) (s : State) (i : Value) → plant.next (delay_of t) (p ∷ []) s (i ∷ []) ≡ kept (coerce t i)
takes T.Binary p s i = refl
takes T.Whole p s i = refl
takes T.Real p s i = refl

starts : (t : ValueType) (p : Value) → plant.first (delay_of t) (p ∷ []) ≡ kept (coerce t p)
starts T.Binary p = refl
starts T.Whole p = refl
starts T.Real p = refl

from : (t : ValueType) (p v : Value) (is : List Value)
    → response_from plant (delay_of t) (p ∷ []) (kept (coerce t v)) (singly is) ≡ take (length is) (map (coerce t) (v ∷ is))
from t p v [] = refl
from t p v (i ∷ is) =
    let a = shows t p v i in let b = takes t p (kept (coerce t v)) i in let c = from t p i is in cc

pub delays_late : Delays
delays_late t p is = ap (λ s. response_from plant (delay_of t) (p ∷ []) s (singly is)) (starts t p) ∙ from t p p is
