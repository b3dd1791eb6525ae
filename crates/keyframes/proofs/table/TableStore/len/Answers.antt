use Rattle.std.proofs.Common.{◌≡◌, true, length, ltb, ap, subst}
use Rattle.ordered.specs.Entries.{ascending}
use Rattle.keyframes.specs.Tables.{count}
use Rattle.keyframes.proofs.Counting.{counted}
use Rattle.keyframes.proofs.table.TableStore.len.Goals as goal

pub returns : goal.returns
returns c =
    let n = length c.entries.result.now in
    let e : n ≡ count c.args.self.now = ap length c.entries.ensures.value in
    let a = subst (λ es. ascending ltb es ≡ true) c.entries.ensures.value c.entries.ensures.order in
    record { value = e; rows = counted c.args.self.now n e a }
