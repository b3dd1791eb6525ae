use Rattle.std.proofs.Common.{rules}
use Rattle.std.proofs.lemmas.Iterator.{cases_from_all, YieldsList-from_slice}
use borrow.Author.Tests.{tests}
use Rattle.drawing.proofs.Wiring.{Placed, Missing, all_sources}
use Rattle.drawing.proofs.order.all_placed.Goals as goal

pub returns : goal.returns
returns c =
    all_sources c.args.order.now _ _ (cases_from_all _ _ c.all.result (Placed c.args.order.now) (Missing c.args.order.now) c.all.ensures.ran
    (YieldsList-from_slice c.args.sources.now cc) (λ x q k. search (rules, tests)) (λ x q k. search (rules, tests)))
