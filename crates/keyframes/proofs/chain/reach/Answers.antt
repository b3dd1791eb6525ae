use Rattle.std.proofs.Common.{rules}
use Rattle.keyframes.proofs.Staying.{visited}
use Rattle.keyframes.proofs.chain.reach.Goals as goal

pub returns-then-is_due-clause-visits : goal.returns-then-is_due-clause-visits
returns-then-is_due-clause-visits g c = visited (search rules)

pub returns-else-is_due-clause-visits : goal.returns-else-is_due-clause-visits
returns-else-is_due-clause-visits g c = visited (search rules)
