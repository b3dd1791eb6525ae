use Rattle.packed.proofs.Example.{counter_stands, built_in_stands}
use Rattle.packed.proofs.laws.demonstration_file_stands.Goals as goal

pub returns : goal.returns
returns c = record { demonstration = counter_stands; built_in = built_in_stands }
