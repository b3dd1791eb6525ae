use Rattle.std.proofs.Common.{◌≡◌, ◌+◌, ◌-◌}
use Rattle.draft.specs.Bits.{bits_of}
use Rattle.draft.specs.File.{zeros_format}
use Rattle.draft.proofs.cursor.Cursor.zeros.Given as goal

abbrev pub invariant-loop : goal.invariant-loop
invariant-loop l = record {
  same : l.self.file.now ≡ l.fn.self.file.now;
  left : (zeros_format l.count).read (bits_of l.fn.self.file.now) l.fn.self.at ≡ (zeros_format (l.count - l.counter)).read (bits_of l.fn.self.file.now) l.self.at;
  place : l.self.at ≡ l.fn.self.at + l.counter;
}
