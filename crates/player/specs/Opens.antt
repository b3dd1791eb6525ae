-- How a player is made, and what open does. Assumes nothing.
use Rattle.std.specs.Prelude.{◌≡◌}
use Rattle.blocks.specs.Library.{Library}
use Rattle.drawing.specs.declared.drawing.Drawing.{Drawing}
use Rattle.drawing.specs.BuiltIn.{BuiltIn}
use Rattle.sheet.specs.Page.{Page}
use Rattle.sheet.specs.Rows.{rows_of}
use Rattle.keyframes.specs.Frames.{Frames, Emptied}
use Rattle.walk.specs.Cycle.{Begins}
use Rattle.walk.specs.Opening.{blocks_of, Openable}
use Rattle.blocks.specs.declared.library.BlockLibrary as BlockLibrary
use Rattle.keyframes.specs.declared.store.KeyframeStore as KeyframeStore
use Rattle.player.specs.declared.player.Player.{Player}
use Rattle.player.specs.Play.{values_of}

-- the drawing fits, the store is empty, and the playhead is at cycle 0 with first states and shows that cycle
pub record Opens {L S : Type 0} {l : BlockLibrary.Ghosts L} {s : KeyframeStore.Ghosts S} (library : L → Library) (store : S → Frames) (q : Player L S l s) (d : Drawing) (p : Page) (q' : Player L S l s) : Type 0 where
  pub openable : Openable (library q.library) d p
  pub same_library : q'.library ≡ q.library
  pub drawing : q'.drawing ≡ d
  pub rows : q'.rows ≡ p.rows
  pub at : q'.at ≡ 0
  pub states : Begins (library q.library) (blocks_of d) q'.states.all
  pub shown : q'.shown.all ≡ values_of (library q.library) d q'.states.all (rows_of p 0)
  pub emptied : Emptied (store q'.store)

-- not opened, with the library and the store that it was given and the built-in drawing
pub record New {L S : Type 0} {l : BlockLibrary.Ghosts L} {s : KeyframeStore.Ghosts S} (library : L) (store : S) (q : Player L S l s) : Type 0 where
  pub same_library : q.library ≡ library
  pub same_store : q.store ≡ store
  pub drawing : BuiltIn q.drawing
  pub rows : q.rows ≡ 0
  pub at : q.at ≡ 0
