use Rattle.std.proofs.Common.{rules}
use Rattle.std.proofs.lemmas.Iterator.{first_from_Range}
use borrow.Author.Tests.{tests}
use Rattle.drawing.specs.Net.{Ready}
use Rattle.drawing.specs.Wiring.{net}
use Rattle.drawing.proofs.order.Signed.next.Goals as goal

pub returns : goal.returns
returns c =
    let g = net c.args.self.now.blocks.now c.args.self.now.signatures.now in
    let found = first_from_Range _ _ _ c.find.result (λ v. Ready g c.args.order.now v) (λ v. Ready g c.args.order.now v → ⊥) c.find.ensures.ran
    (λ v q k. search (rules, tests)) (λ v q k. search (rules, tests)) in
    search rules
