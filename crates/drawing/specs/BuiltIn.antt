-- The drawing that is built in.
use Rattle.std.specs.Prelude.{◌≡◌, true, [], ◌∷◌, vec_items}
use Rattle.values.specs.declared.scalar.ValueType.TheVariants.{Binary}
use Rattle.blocks.specs.declared.library.Types.TheVariants.{One}
use Rattle.blocks.specs.declared.library.Signature.{Signature}
use Rattle.draft.specs.Drafts.{means, built_in}
use Rattle.drawing.specs.declared.drawing.Drawing.{Drawing}

-- the signature of a delay of binary values
abbrev pub binary_delay : Signature
binary_delay = record { inputs = One Binary; params = One Binary; output = Binary; delaying = true }

-- the built-in draft, its one block a delay of binary values
pub record BuiltIn (d : Drawing) : Type 0 where
  pub draft : means d.draft ≡ built_in
  pub signatures : vec_items d.signatures ≡ binary_delay ∷ []
  pub order : vec_items d.order ≡ 0 ∷ []
