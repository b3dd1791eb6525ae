use Rattle.truth_tables.proofs.Shown.{shows_bit, shows_late, known_tables}
use Rattle.truth_tables.proofs.theorems.laws_hold.Goals as goal

pub returns : goal.returns
returns c = record { shows_bit = shows_bit; shows_late = shows_late; known_tables = known_tables }
