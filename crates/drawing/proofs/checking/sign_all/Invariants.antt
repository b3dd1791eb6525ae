use Rattle.std.proofs.Common.{vec_items}
use Rattle.drawing.proofs.Rounds.{FitUpTo}
use Rattle.drawing.proofs.checking.sign_all.Given as goal

abbrev pub invariant-loop-b : goal.invariant-loop-b
invariant-loop-b g l = FitUpTo (g.L.BlockLibrary.meaning l.library) l.blocks (vec_items l.signatures) l.b
