use Rattle.std.proofs.Common.{◌≡◌, ℕ, Some, get_or, sym, subst, arith}
use Rattle.ordered.specs.Entries.{at}
use Rattle.ordered.specs.Table.{items}
use Rattle.ordered.proofs.Tables.{value_at}
use Rattle.ordered.proofs.table.OrderedTable.get.Goals as goal

pub returns-in_err-i : goal.returns-in_err-i
returns-in_err-i g c =
    rw c.from_residual.ensures
    (sym (rw (← c.in_err-i.ensures.value) at (value_at g.met.K.Key.orders.total c.args.self.now c.args.key.now c.place.result c.place.ensures)))

pub returns : goal.returns
returns g c =
    let es = items c.args.self.now in
    let e = c.index-entries-i.result in
    let found = rw (← c.in_ok-i.ensures.value) at (value_at g.met.K.Key.orders.total c.args.self.now c.args.key.now c.place.result c.place.ensures) in
    let P : ℕ → Type 0 = λ k. Some (get_or es k e).value ≡ at g.K.Key.before es c.args.key.now in
    rw c.entries.ensures.value (subst P (omega arith) (sym (found e)))
