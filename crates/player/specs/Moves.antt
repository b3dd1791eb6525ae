-- A move of the playhead: where it starts, the cycles worked, and what is shown then. Assumes nothing.
use Rattle.std.specs.Prelude.{◌≡◌, ℕ, ◌+◌, ◌<◌, ◌≤◌, Bool, true, false, List, None}
use Rattle.values.specs.declared.scalar.State.{State}
use Rattle.values.specs.declared.scalar.Value.{Value}
use Rattle.values.specs.declared.working.Row.{Row}
use Rattle.blocks.specs.Library.{Library}
use Rattle.drawing.specs.declared.drawing.Drawing.{Drawing}
use Rattle.walk.specs.Cycle.{Begins}
use Rattle.walk.specs.Opening.{blocks_of}
use Rattle.keyframes.specs.Frames.{Frames, Holds}
use Rattle.blocks.specs.declared.library.BlockLibrary as BlockLibrary
use Rattle.keyframes.specs.declared.store.KeyframeStore as KeyframeStore
use Rattle.player.specs.declared.player.Player.{Player}
use Rattle.player.specs.Play.{Head, Plays, values_of, unpacked}

-- no keyframe above c and up to t
abbrev pub NoneBetween : Frames → ℕ → ℕ → Type 0
NoneBetween f c t = (d : ℕ) → c < d → d ≤ t → f.held d ≡ None

-- The cycle and the states that a move to t starts from: the highest of 0, the playhead where its states may be used, and the
-- highest keyframe at or below t.
pub data Starts (L : Library) (D : Drawing) (h : Head) (current : Bool) (t : ℕ) : ℕ → List State → Type 0 where
  playhead : current ≡ true → NoneBetween h.frames h.at t → Starts L D h current t h.at h.states
  keyframe : (c : ℕ) (row : Row) → Holds h.frames c row → c ≤ t → NoneBetween h.frames c t → (current ≡ true → h.at < c) → Starts L D h current t c (unpacked row)
  beginning : (first : List State) → current ≡ false → ((d : ℕ) → d ≤ t → h.frames.held d ≡ None) → Begins L (blocks_of D) first → Starts L D h current t 0 first

pub record Moves (L : Library) (D : Drawing) (rows : ℕ → List Value) (h : Head) (current : Bool) (t report : ℕ) (h' : Head) : Type 0 where
  pub start : ℕ
  pub first : List State
  pub starts : Starts L D h current t start first
  pub plays : Plays L D rows start first h.frames t h'.states h'.frames
  pub arrived : h'.at ≡ t
  pub shows : h'.shown ≡ values_of L D h'.states (rows t)
  pub reported : report + start ≡ t
  pub same_rows : h'.rows ≡ h.rows

-- what no call but open changes
pub record Stays {L S : Type 0} {l : BlockLibrary.Ghosts L} {s : KeyframeStore.Ghosts S} (p p' : Player L S l s) : Type 0 where
  pub library : p'.library ≡ p.library
  pub drawing : p'.drawing ≡ p.drawing
  pub rows : p'.rows ≡ p.rows
