use Rattle.std.proofs.Common.{◌≡◌, ◌+◌}
use Rattle.draft.specs.Bits.{bits_of, value_at}
use Rattle.draft.proofs.cursor.Cursor.field.Given as goal

abbrev pub invariant-loop-i : goal.invariant-loop-i
invariant-loop-i l = l.value ≡ value_at (bits_of l.self.file.now) (l.self.at + l.offset) l.i
