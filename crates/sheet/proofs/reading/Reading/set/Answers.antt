use Rattle.std.proofs.Common.{◌<◌, ◌≤◌, length, take, arith}
use Rattle.std.proofs.Math.Seq.{take-set-lt}
use Rattle.std.proofs.lemmas.List.{length-take}
use Rattle.sheet.proofs.reading.Reading.set.Goals as goal

pub returns : goal.returns
returns c =
    let s = c.args.self.now in
    take-set-lt s.len s.cells c.args.column c.args.cell (omega (arith, c.requires, length-take s.len s.cells))
