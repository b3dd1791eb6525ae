use Rattle.std.proofs.Common.{◌≡◌, ◌<◌, true, is_some, sym, ap, subst, subst₂, arith}
use Rattle.std.proofs.lemmas.Bool.{both_ways}
use Rattle.walk.specs.Cycle.{Begins}
use Rattle.walk.specs.Opening.{blocks_of}
use Rattle.player.specs.Moves.{Starts, NoneBetween, playhead, keyframe, beginning}
use Rattle.player.specs.Play.{head_of}
use Rattle.player.proofs.player.Player.rewind.Goals as goal
use Rattle.player.proofs.player.Player.rewind.Goals.{then-not-current-via-then-not-current, then-not-current-via-else-not-current+then-self-c, in-Some+then-not-current+in_default-fetch, in-Some+else-not-current+else-self-c, in_default}

pub returns-in-Some-fetch-clause-starts : goal.returns-in-Some-fetch-clause-starts
returns-in-Some-fetch-clause-starts g c =
    let p = c.args.self.now in
    let found = c.in-Some.ensures in
    let above : c.args.current ≡ true → p.at < c.in-Some.c = λ e.
    elim c.then-not-current.branch [
      | then-not-current-via-then-not-current w ↦ absurd (both_ways c.args.current w.if-not-current.true e)
      | then-not-current-via-else-not-current+then-self-c w ↦ w.if-self-c.true
    ] in
    subst (Starts _ _ (head_of g.S.KeyframeStore.means p) c.args.current c.args.end c.in-Some.c) (sym c.from-self.ensures)
    (keyframe _ c.in-Some-fetch.row (sym c.in-Some-fetch.ensures) found.0 found.2 above)

-- a found cycle is held, so a fetch there gives its row
pub returns-then-current-clause-starts : goal.returns-then-current-clause-starts
returns-then-current-clause-starts g c =
    let p = c.args.self.now in
    let top : NoneBetween (g.S.KeyframeStore.means p.store) p.at c.args.end = λ d low high.
    elim c.match-find.branch [
      | in-Some+then-not-current+in_default-fetch w ↦ absurd (both_ways _ (ap is_some (sym w.in_default-fetch.ensures)) w.in-Some.ensures.1)
      | in-Some+else-not-current+else-self-c w ↦ w.in-Some.ensures.2 d (omega (arith, w.if-self-c.false)) high
      | in_default w ↦ w.in_default.ensures d high
    ] in
    playhead c.if-current.true top

pub returns-clause-starts : goal.returns-clause-starts
returns-clause-starts g c =
    beginning _ c.if-current.false (λ d low.
    elim c.match-find.branch [
      | in-Some+then-not-current+in_default-fetch w ↦ absurd (both_ways _ (ap is_some (sym w.in_default-fetch.ensures)) w.in-Some.ensures.1)
      | in-Some+else-not-current+else-self-c w ↦ absurd (both_ways c.args.current c.if-current.false w.if-not-current.false)
      | in_default w ↦ w.in_default.ensures d low
    ]) (subst₂ (λ l d. Begins (g.L.BlockLibrary.meaning l) (blocks_of d) c.begin-self.result.all) c.machine.ensures.library c.machine.ensures.drawing c.begin-self.ensures)
