use Rattle.std.proofs.Common.{rules}
use Rattle.marks.proofs.Naming.{outcome}
use Rattle.marks.proofs.table.MarkTable.put.Goals as goal

pub returns : goal.returns
returns c =
    outcome c.args.self.now _ c.args.name c.args.cycle c.put.ensures.capacity c.put.result c.map_err.result c.put.ensures.placed c.put.ensures.refused (search rules)
