use Rattle.drawing_examples.proofs.Accepting.{built_in_accepted}
use Rattle.drawing_examples.proofs.examples.built_in_is_accepted.Goals as goal

pub returns : goal.returns
returns c = built_in_accepted
