-- Laws of playing.
use Rattle.std.proofs.Common.{◌≡◌, ℕ, suc, ◌+◌, List, sym, refl, ◌∙◌, subst, add-one}
use Rattle.values.specs.declared.scalar.State.{State}
use Rattle.values.specs.declared.scalar.Value.{Value}
use Rattle.blocks.specs.Library.{Library}
use Rattle.drawing.specs.declared.drawing.Drawing.{Drawing}
use Rattle.keyframes.specs.Frames.{Frames}
use Rattle.blocks.specs.declared.library.BlockLibrary as BlockLibrary
use Rattle.keyframes.specs.declared.store.KeyframeStore as KeyframeStore
use Rattle.player.specs.declared.player.Player.{Player}
use Rattle.player.specs.Play.{Works, Reaches, Plays, on}
use Rattle.player.specs.Moves.{Stays}

pub stays_refl : {L S : Type 0} {l : BlockLibrary.Ghosts L} {s : KeyframeStore.Ghosts S} (p : Player L S l s) → Stays p p
stays_refl p = record { library = refl; drawing = refl; rows = refl }

pub stays_trans : {L S : Type 0} {l : BlockLibrary.Ghosts L} {s : KeyframeStore.Ghosts S} {p q r : Player L S l s} → Stays p q → Stays q r → Stays p r
stays_trans a b = record { library = b.library ∙ a.library; drawing = b.drawing ∙ a.drawing; rows = b.rows ∙ a.rows }

-- one cycle more, by a player that has the same library and drawing
pub plays_on : {L L' : Library} {D D' : Drawing} (rows : ℕ → List Value) {a c : ℕ} {s st st' : List State} {f k k' : Frames}
    → L' ≡ L → D' ≡ D → Plays L D rows a s f c st k → Works L' D' rows c st st' → Reaches k (c + 1) st' k' → Plays L D rows a s f (c + 1) st' k'
plays_on {L} {L'} {D} {D'} rows {a} {c} {s} {st} {st'} {f} {k} {k'} same-L same-D before works reaches =
    let w : Works L D rows c st st' = subst (λ M. Works M D rows c st st') same-L (subst (λ E. Works L' E rows c st st') same-D works) in
    let kept : Reaches k (suc c) st' k' = subst (λ n. Reaches k n st' k') (add-one c) reaches in
    subst (λ n. Plays L D rows a s f n st' k') (sym (add-one c)) (on before w kept)
