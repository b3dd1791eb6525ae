use Rattle.std.proofs.Common.{rules}
use Rattle.std.proofs.lemmas.Iterator.{IsFirst-from_position, YieldsList-from_slice}
use Rattle.std.proofs.lemmas.Iterator.Consumers.{YieldsList-from_enumerate}
use borrow.Author.Tests.{tests}
use Rattle.blocks.specs.Library.{listed}
use Rattle.drawing.proofs.Types.{Agrees, first_misfit}
use Rattle.drawing.proofs.checking.misfit.Goals as goal

pub returns : goal.returns
returns c =
    let ps = c.args.params.now in
    let ts = listed c.args.types.now in
    first_misfit ps ts _ c.requires (IsFirst-from_position _ _ c.position.result (λ p. Agrees ps ts p → ⊥) (Agrees ps ts) c.position.ensures.ran
    (YieldsList-from_enumerate (YieldsList-from_slice ps cc) c.enumerate.ensures.count) (λ x q k. search (rules, tests)) (λ x q k. search (rules, tests)))
