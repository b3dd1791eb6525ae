use Rattle.std.proofs.Common.{◌≡◌, List, length, get_or, set, Some, None, sym, refl, ◌∙◌, subst, arith}
use Rattle.std.proofs.lemmas.List.{length-set, length-map}
use Rattle.sheet.specs.declared.write.Standing.{Standing}
use Rattle.sheet.specs.Chains.{Chained}
use Rattle.sheet.proofs.Chaining.{chained_push}
use Rattle.sheet.proofs.list.WriteList.push.Goals as goal

pub invariant_of-self : goal.invariant_of-self
invariant_of-self c =
    let s = c.args.self.now in
    let w = c.args.write in
    let standing : Standing = record { write = w; previous = get_or s.latest w.cycle None } in
    let long = length-map s.standing.items (λ (t : Standing). t.write) in
    let place : c.len-place.result ≡ length s.standing.items = c.len-place.ensures ∙ long in
    let latest = set s.latest w.cycle (Some c.len-place.result) in
    let P : List Standing → Type 0 = λ xs. Chained xs latest in
    record {
      heads = length-set s.latest w.cycle (Some c.len-place.result) ∙ s.heads;
      few = omega (arith, c.push.ensures.len, c.requires.room, long);
      chained = subst P (sym c.push.ensures.items) (chained_push s.standing.items s.latest standing s.chained c.len-place.result place (omega arith) refl);
    }
