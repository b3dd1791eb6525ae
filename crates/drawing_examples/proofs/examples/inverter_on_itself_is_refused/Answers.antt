use Rattle.drawing_examples.proofs.Inverting.{on_itself}
use Rattle.drawing_examples.proofs.examples.inverter_on_itself_is_refused.Goals as goal

pub returns : goal.returns
returns c = on_itself
