use Rattle.std.proofs.Common.{subst, rules}
use Rattle.std.specs.Ordering.{is_le}
use Rattle.std.proofs.lemmas.List.Sorted.{IsPartitionPoint-from_clause}
use Rattle.ordered.specs.Search.{Parts}
use Rattle.ordered.proofs.Placing.{parted, parts}
use Rattle.ordered.proofs.table.OrderedTable.rank.Goals as goal

pub returns : goal.returns
returns g c =
    let before = g.K.Key.before in
    let cmp = g.K.Ord.cmp in
    let q = c.args.key.now in
    let es = c.entries.result.now in
    let n = c.partition_point.result in
    let ends = c.partition_point.ensures in
    let orders = g.met.K.Key.orders in
    subst (λ es. Parts before es q n) c.entries.ensures.value
    (parts before cmp orders es c.entries.ensures.order q n ends.bound
    (IsPartitionPoint-from_clause (λ e. is_le (cmp e.key q)) es n ends.partitioned
    (parted before cmp orders es c.entries.ensures.order q) (λ a r f' called. search rules)))
