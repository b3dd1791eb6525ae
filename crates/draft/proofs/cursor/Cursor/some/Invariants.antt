use Rattle.std.proofs.Common.{◌≡◌, ◌+◌, ◌*◌, ◌≤◌}
use Rattle.draft.specs.Bits.{bits_of}
use Rattle.draft.proofs.Loops.{Filled}
use Rattle.draft.proofs.cursor.Cursor.some.Given as goal

abbrev pub invariant-loop-field : goal.invariant-loop-field
invariant-loop-field g l = record {
  same : l.self.file.now ≡ l.fn.self.file.now;
  filled : Filled g.T.Field.format (bits_of l.fn.self.file.now) l.count l.fn.self.at l.field-index l.meant l.self.at;
  near : l.self.at ≤ l.fn.self.at + 34 * l.field-index;
}
