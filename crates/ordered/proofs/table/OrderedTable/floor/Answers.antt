use Rattle.std.proofs.Common.{ℕ, ◌-◌, length, take, subst, arith}
use Rattle.std.specs.List.{slice_get}
use Rattle.ordered.specs.Entries.{Floor}
use Rattle.ordered.specs.Table.{items}
use Rattle.ordered.proofs.Tables.{floor_at, length_used, no_longer}
use Rattle.ordered.proofs.table.OrderedTable.floor.Goals as goal

pub returns : goal.returns
returns g c =
    let es = items c.args.self.now in
    let P : ℕ → Type 0 = λ n. Floor g.K.Key.before es c.args.key.now (slice_get (take n es) (length (take n es) - 1)) in
    let used = length_used g.met.K.Key.orders.total c.args.self.now c.args.key.now in
    let within = no_longer g.met.K.Key.orders.total c.args.self.now c.args.key.now c.rank.result c.rank.ensures in
    rw (c.last.ensures.value, c.entries.ensures.value)
    (subst P (omega (arith, used, within)) (floor_at g.met.K.Key.orders.total c.args.self.now c.args.key.now c.rank.result c.rank.ensures))
