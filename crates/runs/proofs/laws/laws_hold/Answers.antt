use Rattle.runs.proofs.Same.{same_values}
use Rattle.runs.proofs.laws.laws_hold.Goals as goal

pub returns-clause-same_values : goal.returns-clause-same_values
returns-clause-same_values c = same_values
