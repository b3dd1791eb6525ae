-- A NOT that is fed by itself, and one that is fed by itself through a DELB.
use Rattle.std.specs.Prelude.{◌≡◌, ℕ, false, List, [], ◌∷◌, vec_items}
use Rattle.values.specs.declared.scalar.Value.{Value}
use Rattle.values.specs.declared.scalar.Value.TheVariants as Values
use Rattle.values.specs.declared.scalar.ValueType.TheVariants.{Binary}
use Rattle.plant.specs.Plant.{plant, signature_of}
use Rattle.plant.specs.declared.kinds.Kind.TheVariants.{Delay, Not}
use Rattle.draft.specs.declared.source.Source.{Source}
use Rattle.draft.specs.declared.source.Source.TheVariants.{Block as Output}
use Rattle.draft.specs.declared.draft.Block.{Block}
use Rattle.drawing.specs.declared.fault.CheckFault.TheVariants.{Loop}
use Rattle.drawing.specs.Faults.{First, check_report}
use Rattle.drawing.specs.Net.{Placing}
use Rattle.drawing.specs.Suits.{Suits}
use Rattle.drawing.specs.Wiring.{net}

-- a block by its kind, parameters and sources
pub record Is (b : Block) (kind : ℕ) (params : List Value) (sources : List Source) : Type 0 where
  pub kind_is : b.kind ≡ kind
  pub params_are : vec_items b.params ≡ params
  pub sources_are : vec_items b.sources ≡ sources

-- the first fault is a closed chain without a delay, and its report is 17, layer 2, at 0, 0
abbrev pub OnItself : Type 0
OnItself =
    (inverter : Block) → Is inverter 7 [] (Output 0 ∷ [])
    → First plant [] (inverter ∷ []) (Loop 0) × (check_report (Loop 0) ≡ record { number = 17; layer = 2; place = (0, 0) })

-- nothing is wrong; the delay is placed first
abbrev pub ThroughDelay : Type 0
ThroughDelay =
    (inverter delay : Block) → Is inverter 7 [] (Output 1 ∷ []) → Is delay 1 (Values.Binary false ∷ []) (Output 0 ∷ [])
    → Suits plant [] (inverter ∷ delay ∷ [])
    × Placing (net (inverter ∷ delay ∷ []) (signature_of Not ∷ signature_of (Delay Binary) ∷ [])) (1 ∷ 0 ∷ [])
