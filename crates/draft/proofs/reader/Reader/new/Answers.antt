use Rattle.std.proofs.Common.{refl}
use Rattle.draft.proofs.Steps.{runs_read, tells_again}
use Rattle.draft.proofs.reader.Reader.new.Goals as goal

pub returns : goal.returns
returns c = record { start = (refl, refl, refl); runs = runs_read; again = tells_again }
