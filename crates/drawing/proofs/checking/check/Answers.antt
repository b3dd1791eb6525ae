use Rattle.std.proofs.Common.{vec_items, refl, subst₂}
use Rattle.drawing.specs.Sound.{Sound}
use Rattle.drawing.proofs.Accepting.{accepts, rejects}
use Rattle.drawing.proofs.checking.check.Goals as goal

pub invariant_of-result : goal.invariant_of-result
invariant_of-result g c = record {
  sound = ∣ subst₂ (λ cs bs. Sound cs bs (vec_items c.in-Ok.plan.signatures) (vec_items c.in-Ok.plan.order))
      c.columns.ensures c.blocks-2.ensures c.in-Ok.ensures.keeps ∣₁;
}

pub returns-in-Ok : goal.returns-in-Ok
returns-in-Ok g c = accepts (g.L.BlockLibrary.meaning c.args.library.now) _ _ _ c.columns.ensures c.blocks-2.ensures _ refl c.in-Ok.ensures

pub returns-in-Err : goal.returns-in-Err
returns-in-Err g c = rejects (g.L.BlockLibrary.meaning c.args.library.now) _ _ _ c.columns.ensures c.blocks-2.ensures _ refl c.in-Err.ensures
