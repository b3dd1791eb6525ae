use Rattle.std.proofs.Common.{refl}
use Rattle.drawing.proofs.Loops.{seen_arranged, seen_looped}
use Rattle.drawing.proofs.order.Signed.arrange.Goals as goal

pub returns-in-Some : goal.returns-in-Some
returns-in-Some c =
    let found = c.in-Some.ensures in (
      _,
      refl,
      seen_looped _ _ _ c.deref.ensures.value c.in_ok-order.ensures.0 c.requires
          c.in_ok-order.ensures.1 _ found.0 found.1 found.2,
    )

pub returns-in-None : goal.returns-in-None
returns-in-None c = seen_arranged _ _ _ c.deref.ensures.value c.in_ok-order.ensures.0 c.in-None.ensures
