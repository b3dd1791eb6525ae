use Rattle.std.proofs.Common.{sym, subst, ◌≡◌, rules}
use Rattle.marks.specs.Marks.{mark}
use Rattle.marks.specs.Puts.{Latest}
use Rattle.marks.proofs.Latest.{latest}
use Rattle.marks.proofs.table.MarkTable.get.Goals as goal

pub returns-clause-latest : goal.returns-clause-latest
returns-clause-latest c t puts blank runs =
    let value : c.copied.result ≡ mark c.args.self.now c.args.name = search rules in
    subst (Latest puts c.args.name) (sym value) (latest t puts c.args.self.now blank runs c.args.name)
