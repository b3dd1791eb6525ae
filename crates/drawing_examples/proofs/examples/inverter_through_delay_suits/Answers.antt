use Rattle.drawing_examples.proofs.Inverting.{through_delay}
use Rattle.drawing_examples.proofs.examples.inverter_through_delay_suits.Goals as goal

pub returns : goal.returns
returns c = through_delay
