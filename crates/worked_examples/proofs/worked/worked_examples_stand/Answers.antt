use Rattle.plant.proofs.Worked.{sums, sequences, scales, on_delays}
use Rattle.packed.proofs.Example.{counter_stands}
use Rattle.drawing_examples.proofs.Inverting.{on_itself, through_delay}
use Rattle.worked_examples.proofs.Demonstrating.{demonstrates, one_demonstrates}
use Rattle.worked_examples.proofs.worked.worked_examples_stand.Goals as goal

pub returns : goal.returns
returns g c = record {
  file = counter_stands;
  run = demonstrates g.L.BlockLibrary g.S.KeyframeStore g.L.BlockLibrary.meaning g.S.KeyframeStore.means;
  one_run = one_demonstrates;
  sums = sums;
  sequences = sequences;
  scales = scales;
  on_delays = on_delays;
  inverter_on_itself = on_itself;
  inverter_through_delay = through_delay;
}
