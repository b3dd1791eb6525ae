use Rattle.drawing.proofs.Deciding.{suits_or_first}
use Rattle.drawing.proofs.Suiting.{suited_is_right}
use Rattle.drawing.proofs.laws.suits_or_first.Goals as goal

pub returns : goal.returns
returns c = record { right = suited_is_right; either = suits_or_first }
