use Rattle.std.proofs.Common.{length, sym, ap, ◌∙◌, arith}
use Rattle.packed.proofs.Appending.{length_written}
use Rattle.packed.proofs.bitfield.BitWriter.len.Goals as goal

pub returns-clause-value : goal.returns-clause-value
returns-clause-value c = sym (length_written c.self.inside.len c.self.inside.bytes (omega arith)) ∙ ap length c.self.view_is
