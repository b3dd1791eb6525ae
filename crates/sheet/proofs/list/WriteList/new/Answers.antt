use Rattle.std.proofs.Common.{List, [], replicate, None, sym, refl, ap, subst, arith}
use Rattle.std.proofs.lemmas.List.{get_or-replicate}
use Rattle.sheet.specs.declared.write.Standing.{Standing}
use Rattle.sheet.specs.Chains.{through, Chained}
use Rattle.sheet.proofs.list.WriteList.new.Goals as goal

none : Chained [] (replicate 4096 None)
none = record {
  within = λ i l. absurd (omega arith);
  linked = λ i l. absurd (omega arith);
  headed = λ cycle l. ap through (get_or-replicate 4096 cycle None None l);
}

pub invariant_of-result : goal.invariant_of-result
invariant_of-result c =
    let P : List Standing → Type 0 = λ xs. Chained xs (replicate 4096 None) in
    record { heads = refl; few = rw c.new.ensures (omega arith); chained = subst P (sym c.new.ensures) none }
