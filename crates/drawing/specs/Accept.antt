-- When a draft is accepted, and as what; and what a refusal says.
use Rattle.std.specs.Prelude.{◌≡◌, List, vec_items}
use Rattle.values.specs.declared.scalar.ValueType.{ValueType}
use Rattle.blocks.specs.Library.{Library}
use Rattle.draft.specs.declared.draft.Block.{Block}
use Rattle.draft.specs.declared.draft.Draft.{Draft}
use Rattle.drawing.specs.declared.drawing.Drawing.{Drawing}
use Rattle.drawing.specs.declared.drawing.Rejected.{Rejected}
use Rattle.drawing.specs.declared.fault.CheckFault.{CheckFault}
use Rattle.faults.specs.declared.failure.Failure.{Failure}
use Rattle.faults.specs.declared.failure.Failure.TheVariants.{Fault, NoMemory}
use Rattle.drawing.specs.Net.{Placing}
use Rattle.drawing.specs.Wiring.{net}
use Rattle.drawing.specs.Sound.{Sound}
use Rattle.drawing.specs.Suits.{Suits, AllFit}
use Rattle.drawing.specs.Faults.{Wrong, Refuses}

-- The draft suits the library, and nothing is wrong with it. The drawing is the draft, with the library's signatures
-- and the order of all blocks that placing the lowest one first gives.
pub record Accepts (L : Library) (d : Draft) (r : Drawing) : Type 0 where
  pub draft : r.draft ≡ d
  pub suits : Suits L (vec_items d.columns) (vec_items d.blocks)
  pub sound : (e : CheckFault) → Wrong L (vec_items d.columns) (vec_items d.blocks) e → ⊥
  pub signatures : AllFit L (vec_items d.blocks) (vec_items r.signatures)
  pub order : Placing (net (vec_items d.blocks) (vec_items r.signatures)) (vec_items r.order)
  pub keeps : Sound (vec_items d.columns) (vec_items d.blocks) (vec_items r.signatures) (vec_items r.order)

-- a draft with a fault does not suit the library; memory may be wanting at any draft
abbrev pub Unsuited : Library → List ValueType → List Block → Failure CheckFault → Type 0
Unsuited L cs bs (Fault e) = Suits L cs bs → ⊥
Unsuited L cs bs NoMemory = Unit {0}

-- The draft comes back: it does not suit the library, and the error is the fault that is found first; or memory is
-- wanting.
pub record Rejects (L : Library) (d : Draft) (r : Rejected) : Type 0 where
  pub draft : r.draft ≡ d
  pub unsuited : Unsuited L (vec_items d.columns) (vec_items d.blocks) r.error
  pub error : Refuses L (vec_items d.columns) (vec_items d.blocks) r.error
