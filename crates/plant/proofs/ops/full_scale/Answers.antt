use Rattle.plant.proofs.Literals.{hundred_is}
use Rattle.plant.proofs.ops.full_scale.Goals as goal

pub returns : goal.returns
returns c = hundred_is
