use Rattle.sheet.specs.Page.{page}
use Rattle.sheet.specs.Rows.{rows_of}
use Rattle.player.specs.Play.{Plays}
use Rattle.player.specs.Moves.{Stays}
use Rattle.player.proofs.player.Player.play.Given as goal

abbrev pub invariant-loop-c : goal.invariant-loop-c
invariant-loop-c g l =
    Plays (g.L.BlockLibrary.meaning l.initial.self.library) l.initial.self.drawing (rows_of (page l.sheet)) l.start l.initial.self.states.all (g.S.KeyframeStore.means l.initial.self.store) l.c l.self.states.all (g.S.KeyframeStore.means l.self.store)
    × Stays l.initial.self l.self
