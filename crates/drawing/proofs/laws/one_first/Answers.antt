use Rattle.drawing.proofs.Unique.{one_first}
use Rattle.drawing.proofs.laws.one_first.Goals as goal

pub returns : goal.returns
returns c = one_first
