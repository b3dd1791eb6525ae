-- A hand that began empty. Assumes nothing.
use Rattle.std.specs.Prelude.{◌≡◌, ℕ, ◌⊎◌, List, [], ◌∷◌, Some, Option}
use Rattle.blocks.specs.declared.library.BlockLibrary as BlockLibrary
use Rattle.blocks.specs.Library.{Library}
use Rattle.drawing.specs.declared.drawing.Drawing.{Drawing}
use Rattle.keyframes.specs.declared.store.KeyframeStore as KeyframeStore
use Rattle.keyframes.specs.Frames.{Frames}
use Rattle.sheet.specs.declared.slip.Slip.{Slip}
use Rattle.sheet.specs.Page.{Page, closed}
use Rattle.marks.specs.declared.table.MarkTable.{MarkTable}
use Rattle.player.specs.declared.player.Player.{Player}
use Rattle.player.specs.declared.answer.Answer.{Answer}
use Rattle.player.specs.Walker.{slip_of}
use Rattle.runs.specs.declared.call.Call.{Call}
use Rattle.runs.specs.Chain.{Desk, desk}
use Rattle.runs.specs.Run.{Replays}

-- no slip, or that of the open trial alone
abbrev pub Own : List Slip → Option ℕ → Type 0
Own hand trial = (hand ≡ []) ⊎ ((n : ℕ) × ((hand ≡ slip_of n ∷ []) × (trial ≡ Some n)))

-- a trial whose slip is in the hand ends, and keeps its writes
abbrev pub Settled : List Slip → Page → Page → Type 0
Settled [] p p' = p' ≡ p
Settled (slip ∷ more) p p' = p' ≡ closed p

-- a replay with a hand of its own
pub record Rehearses {L S : Type 0} {l : BlockLibrary.Ghosts L} {s : KeyframeStore.Ghosts S} (library : L → Library) (store : S → Frames) (marks : MarkTable) (D : Drawing) (q : Player L S l s) (p : Page) (calls : List Call) (before now : List Answer) (q' : Player L S l s) (p' : Page) : Type 0 where
  pub end : Desk L S l s
  pub replays : Replays library store marks D (desk q p []) calls before now end
  pub player : q' ≡ end.player
  pub settled : Settled end.hand end.page p'
