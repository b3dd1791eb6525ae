use Rattle.drawing.proofs.Solution.{cycle_law}
use Rattle.drawing.proofs.laws.cycle_stands.Goals as goal

pub returns : goal.returns
returns c = cycle_law
