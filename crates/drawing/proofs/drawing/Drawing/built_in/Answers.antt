use Rattle.drawing.proofs.BuiltIn.{built_in_sound}
use Rattle.drawing.proofs.drawing.Drawing.built_in.Goals as goal

pub invariant_of-result : goal.invariant_of-result
invariant_of-result c = record {
  sound = ∣ built_in_sound c.in_ok-draft.draft _ _ c.in_ok-draft.ensures
      c.in_ok-signatures.ensures.items c.in_ok-order.ensures.items ∣₁;
}
