-- Moves: cycles worked one after the other, with keyframes put on the way. Assumes nothing.
use Rattle.std.specs.Prelude.{◌≡◌, ℕ, suc, true, List, map, replicate, vec_items}
use Rattle.values.specs.declared.scalar.State.{State}
use Rattle.values.specs.declared.scalar.Value.{Value}
use Rattle.values.specs.declared.working.Row.{Row}
use Rattle.values.specs.Values.{absent}
use Rattle.values.specs.Packed.{state_of}
use Rattle.blocks.specs.Library.{Library}
use Rattle.drawing.specs.declared.drawing.Drawing.{Drawing}
use Rattle.walk.specs.Cycle.{Passes, worked}
use Rattle.walk.specs.Opening.{blocks_of}
use Rattle.keyframes.specs.Frames.{Frames}
use Rattle.keyframes.specs.Chain.{due, Keeps}
pub use Rattle.keyframes.specs.Chain.{packed}
use Rattle.blocks.specs.declared.library.BlockLibrary as BlockLibrary
use Rattle.keyframes.specs.declared.store.KeyframeStore as KeyframeStore
use Rattle.player.specs.declared.player.Player.{Player}

-- states as a store keeps them are `packed`, and back
abbrev pub unpacked : Row → List State
unpacked row = map state_of row.states

-- each out taken in turn by the drawing's order
abbrev pub values_of : Library → Drawing → List State → List Value → List Value
values_of L D states row = worked L (blocks_of D) states row (vec_items D.order) (replicate 64 absent)

-- one cycle worked: from the states at c to those at the next cycle
abbrev pub Works : Library → Drawing → (ℕ → List Value) → ℕ → List State → List State → Type 0
Works L D rows c before after = Passes L (blocks_of D) before (rows c) (values_of L D before (rows c)) after

-- reaching a cycle: its states are put where they are due, and then the row gives them back
pub record Reaches (f : Frames) (c : ℕ) (states : List State) (f' : Frames) : Type 0 where
  pub keeps : Keeps f c (packed states) f'
  pub back : due f c ≡ true → unpacked (packed states) ≡ states

-- from the states and the store at one cycle to those at a later one
pub data Plays (L : Library) (D : Drawing) (rows : ℕ → List Value) (from : ℕ) (first : List State) (f : Frames) : ℕ → List State → Frames → Type 0 where
  here : Plays L D rows from first f from first f
  on : {c : ℕ} {states after : List State} {g g' : Frames} → Plays L D rows from first f c states g → Works L D rows c states after → Reaches g (suc c) after g' → Plays L D rows from first f (suc c) after g'

-- a player by its playhead, states, shown values and keyframes, and the number of rows that it was opened with
pub record Head : Type 0 where
  pub at : ℕ
  pub states : List State
  pub shown : List Value
  pub frames : Frames
  pub rows : ℕ

abbrev pub head_of : {L S : Type 0} {l : BlockLibrary.Ghosts L} {s : KeyframeStore.Ghosts S} → (S → Frames) → Player L S l s → Head
head_of means p = record { at = p.at; states = p.states.all; shown = p.shown.all; frames = means p.store; rows = p.rows }
