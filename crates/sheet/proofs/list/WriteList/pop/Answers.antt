use Rattle.std.proofs.Common.{◌≡◌, ◌+◌, ◌-◌, List, length, set, Some, sym, ap, ◌∙◌, subst, arith}
use Rattle.std.specs.List.{slice_get}
use Rattle.std.proofs.lemmas.List.{length-set, length-map, length-take-le}
use Rattle.sheet.specs.declared.write.Standing.{Standing}
use Rattle.sheet.specs.Chains.{Chained}
use Rattle.sheet.proofs.Chaining.{chained_pop}
use Rattle.sheet.proofs.list.WriteList.pop.Goals as goal

pub invariant_of-self : goal.invariant_of-self
invariant_of-self c =
    let s = c.args.self.now in
    let items = s.standing.items in
    let last = c.unwrap-previous.result in
    let n = length items - 1 in
    let more : length items ≡ n + 1 = omega (arith, c.requires, length-map items (λ (t : Standing). t.write)) in
    let there : slice_get items n ≡ Some last = sym c.pop.ensures.value ∙ c.unwrap-previous.ensures in
    let latest = set s.latest last.write.cycle last.previous in
    let P : List Standing → Type 0 = λ xs. Chained xs latest in
    record {
      heads = length-set s.latest last.write.cycle last.previous ∙ s.heads;
      few = omega (arith, ap length c.pop.ensures.rest, length-take-le n items (omega arith));
      chained = subst P (sym c.pop.ensures.rest) (chained_pop items s.latest n last more there s.chained);
    }
