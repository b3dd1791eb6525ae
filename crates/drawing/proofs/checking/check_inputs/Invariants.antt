use Rattle.std.proofs.Common.{◌≡◌, drop}
use Rattle.drawing.specs.Tests.{JoinedBefore}
use Rattle.drawing.proofs.checking.check_inputs.Given as goal

abbrev pub invariant-loop-b : goal.invariant-loop-b
invariant-loop-b l = record {
  blocks_left : l.b-iterator.iter.a.rest.now ≡ drop l.b-iterator.count l.signed.blocks.now;
  signatures_left : l.b-iterator.iter.b.rest.now ≡ drop l.b-iterator.count l.signed.signatures.now;
  joined : JoinedBefore l.columns l.signed.blocks.now l.signed.signatures.now l.b-iterator.count;
}
