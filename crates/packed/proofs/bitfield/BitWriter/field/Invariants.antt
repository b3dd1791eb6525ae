use Rattle.std.proofs.Common.{◌≡◌, ◌-◌, ◌/◌, ◌^◌, ◌≤◌, ◌++◌}
use Rattle.draft.specs.Bits.{field}
use Rattle.packed.proofs.bitfield.BitWriter.field.Given as goal

abbrev pub invariant-loop-left : goal.invariant-loop-left
invariant-loop-left l = record {
  written : l.self ≡ l.initial.self ++ field (l.width - l.left) (l.value / 2 ^ l.left);
  few : l.left ≤ l.width;
}

abbrev pub decreases-loop-left : goal.decreases-loop-left
decreases-loop-left l = l.left
