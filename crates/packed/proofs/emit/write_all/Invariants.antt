use Rattle.std.proofs.Common.{◌≡◌, ◌+◌, ◌*◌, ◌≤◌, ◌++◌, length, take}
use Rattle.packed.specs.Appends.{bits_each}
use Rattle.packed.proofs.emit.write_all.Given as goal

abbrev pub invariant-loop-value : goal.invariant-loop-value
invariant-loop-value g l = record {
  written : l.file ≡ l.initial.file ++ bits_each g.T.Field.bits (length l.initial.file) (take l.value-index l.values);
  near : length l.file ≤ length l.initial.file + g.T.Field.most * l.value-index;
}
