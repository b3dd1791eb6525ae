use Rattle.std.proofs.Common.{suc, ◌≤◌, length, arith, rules}
use Rattle.draft.specs.Bits.{bits_of}
use Rattle.draft.proofs.BitLaws.{length_bits_of}
use Rattle.draft.proofs.reader.Reader.next.Goals as goal

pub returns-then-self : goal.returns-then-self
returns-then-self c =
    let more : suc c.args.self.now.cursor.at ≤ length (bits_of c.args.self.now.cursor.file.now) = omega (arith, length_bits_of c.args.self.now.cursor.file.now) in
    search rules

pub returns-else-self : goal.returns-else-self
returns-else-self c =
    let none : length (bits_of c.args.self.now.cursor.file.now) ≤ c.args.self.now.cursor.at = omega (arith, length_bits_of c.args.self.now.cursor.file.now) in
    search rules
