use Rattle.blocks.specs.Library.{listed}
use Rattle.drawing.specs.Tests.{JoinedUpTo}
use Rattle.drawing.proofs.checking.check_sources.Given as goal

abbrev pub invariant-loop-i : goal.invariant-loop-i
invariant-loop-i l = JoinedUpTo l.columns l.signatures l.sources (listed l.inputs) l.i
