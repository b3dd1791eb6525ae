use Rattle.std.proofs.Common.{◌≡◌, ℕ, true, take, subst, arith}
use Rattle.ordered.specs.Entries.{ascending, Cut}
use Rattle.ordered.specs.Table.{items}
use Rattle.ordered.proofs.Tables.{cut_to, no_longer}
use Rattle.ordered.proofs.table.OrderedTable.cut.Goals as goal

pub invariant_of-self : goal.invariant_of-self
invariant_of-self g c =
    let few = c.args.self.now.few in
    let P : ℕ → Type 0 = λ n. ascending g.K.Key.before (take n c.args.self.now.entries.now) ≡ true in
    record {
      few = omega (arith, no_longer g.met.K.Key.orders.total c.args.self.now c.args.key.now c.rank-self.result c.rank-self.ensures);
      sorted = subst P (omega arith) (cut_to g.met.K.Key.orders.total c.args.self.now c.args.key.now c.rank-self.result c.rank-self.ensures).sorted;
    }

pub returns-clause-cut : goal.returns-clause-cut
returns-clause-cut g c =
    let P : ℕ → Type 0 = λ n. Cut g.K.Key.before (items c.args.self.now) (take n c.args.self.now.entries.now) c.args.key.now in
    subst P (omega arith) (cut_to g.met.K.Key.orders.total c.args.self.now c.args.key.now c.rank-self.result c.rank-self.ensures)
