use Rattle.std.proofs.Common.{subst, rules}
use Rattle.std.proofs.lemmas.Fn.{always_returns_same}
use Rattle.ordered.specs.Search.{Place}
use Rattle.ordered.proofs.Placing.{found}
use Rattle.ordered.proofs.table.OrderedTable.place.Goals as goal

pub returns : goal.returns
returns g c =
    let before = g.K.Key.before in
    let q = c.args.key.now in
    let search_ends = c.binary_search_by.ensures in
    let by_key = search_ends.position (λ e. g.K.Ord.cmp e.key q) (always_returns_same _ _ _ (λ a r f' called. search rules)) in
    subst (λ es. Place before es q c.binary_search_by.result) c.entries.ensures.value
    (found before g.K.Ord.cmp g.met.K.Key.orders c.entries.result.now c.entries.ensures.order q g.met.K.Ord.total
    c.binary_search_by.result search_ends.bound by_key)
