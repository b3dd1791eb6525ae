use Rattle.std.proofs.Common.{rules, ◌≡◌, false}
use Rattle.std.proofs.lemmas.Iterator.{first_from_Range}
use borrow.Author.Tests.{tests}
use Rattle.drawing.specs.Members.{among, In}
use Rattle.drawing.proofs.order.unplaced.Goals as goal

pub returns : goal.returns
returns c =
    let found = first_from_Range _ _ _ c.find.result (λ v. among v c.args.order.now ≡ false) (λ v. In v c.args.order.now) c.find.ensures.ran
    (λ v q k. search (rules, tests)) (λ v q k. search (rules, tests)) in
    search rules
