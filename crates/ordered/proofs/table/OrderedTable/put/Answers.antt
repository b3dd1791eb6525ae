use Rattle.std.proofs.Common.{arith, length-set}
use Rattle.ordered.proofs.Tables.{overwritten, inserted, refused}
use Rattle.ordered.proofs.table.OrderedTable.put.Goals as goal

pub invariant_of-self : goal.invariant_of-self
invariant_of-self g c =
    let few = c.args.self.now.few in
    record {
      few = omega (arith, length-set c.args.self.now.entries.now c.in-Ok.i);
      sorted = (overwritten g.met.K.Key.orders.total c.args.self.now c.args.key c.args.value c.in-Ok.i c.in-Ok.ensures).sorted;
    }

pub returns-in-Ok-clause-placed : goal.returns-in-Ok-clause-placed
returns-in-Ok-clause-placed g c = overwritten g.met.K.Key.orders.total c.args.self.now c.args.key c.args.value c.in-Ok.i c.in-Ok.ensures

pub invariant_of-self-in-Err : goal.invariant_of-self-in-Err
invariant_of-self-in-Err g c =
    let few = c.args.self.now.few in
    let same = c.insert_at.auto.items in
    record {
      few = omega arith;
      sorted = (inserted g.met.K.Key.orders.total c.args.self.now c.args.key c.args.value c.in-Err.i c.in-Err.ensures (omega arith) _ c.insert_at.ensures).sorted;
    }

pub returns-else-self-clause-placed : goal.returns-else-self-clause-placed
returns-else-self-clause-placed g c =
    let few = c.args.self.now.few in
    inserted g.met.K.Key.orders.total c.args.self.now c.args.key c.args.value c.in-Err.i c.in-Err.ensures (omega arith) _ c.insert_at.ensures

pub returns-then-self-clause-placed : goal.returns-then-self-clause-placed
returns-then-self-clause-placed g c = refused g.met.K.Key.orders.total c.args.self.now c.args.key c.args.value c.in-Err.i c.in-Err.ensures c.if-self.true
