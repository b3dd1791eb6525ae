-- The law over calls: a player and its sheet against the walker. Assumes nothing.
use Rattle.std.specs.Prelude.{◌≡◌, ℕ, ◌<◌, List, length, Some, None, Option, slice_index_or}
use Rattle.faults.specs.declared.fault.Fault.{Fault}
use Rattle.values.specs.declared.scalar.Value.{Value}
use Rattle.values.specs.declared.working.Row.{Row}
use Rattle.values.specs.Values.{absent}
use Rattle.blocks.specs.Library.{Library}
use Rattle.drawing.specs.declared.drawing.Drawing.{Drawing}
use Rattle.sheet.specs.Page.{Page}
use Rattle.sheet.specs.Rows.{rows_of}
use Rattle.sheet.specs.Calls.{tally_of}
use Rattle.keyframes.specs.Frames.{Frames, Holds}
use Rattle.walk.specs.Cycle.{Solves}
use Rattle.walk.specs.Opening.{blocks_of, columns_of, fits}
use Rattle.walk.specs.Walk.{Walks, Finds}
use Rattle.blocks.specs.declared.library.BlockLibrary as BlockLibrary
use Rattle.keyframes.specs.declared.store.KeyframeStore as KeyframeStore
use Rattle.player.specs.declared.answer.Answer.{Answer}
use Rattle.player.specs.declared.answer.Answer.TheVariants as answer
use Rattle.player.specs.declared.player.Player.{Player}
use Rattle.player.specs.Feed.{Feed}
use Rattle.player.specs.Feed as feed
use Rattle.player.specs.Play.{Head, head_of, unpacked}
use Rattle.player.specs.Walker.{Walker, walked, judge, stepped}

-- every keyframe holds the states of its cycle
abbrev pub TrueFrames : Library → Drawing → (ℕ → List Value) → Frames → Type 0
TrueFrames L D rows f = (c : ℕ) (row : Row) → Holds f c row → Walks L (blocks_of D) rows c (unpacked row)

-- the player stands where the walker does, over the walker's rows, and what it holds and shows is what the walk from cycle 0 gives
pub record Agrees (L : Library) (D : Drawing) (h : Head) (p : Page) (w : Walker) : Type 0 where
  pub rows : h.rows ≡ p.rows
  pub columns : p.columns ≡ columns_of D
  pub fitting : fits L D
  pub inside : h.at < p.rows
  pub page : p ≡ walked p w
  pub at : h.at ≡ w.cycle
  pub states : Walks L (blocks_of D) (rows_of p) h.at h.states
  pub shown : Solves L (blocks_of D) h.states (rows_of p h.at) h.shown
  pub frames : TrueFrames L D (rows_of p) h.frames

-- the values that a walk finds at a cycle, and no others
abbrev pub FindsOnly : Library → Drawing → (ℕ → List Value) → ℕ → List Value → Type 0
FindsOnly L D rows c values = Finds L (blocks_of D) rows c values × ((others : List Value) → Finds L (blocks_of D) rows c others → others ≡ values)

-- what an accepted call answers
abbrev pub Accepted : Library → Drawing → Page → Walker → Feed → Answer → Type 0
Accepted L D p w feed.Step a = (n : ℕ) × (a ≡ answer.Worked n)
Accepted L D p w (feed.Jump t) a = (n : ℕ) × (a ≡ answer.Worked n)
Accepted L D p w (feed.Goto t) a = (n : ℕ) × (a ≡ answer.Worked n)
Accepted L D p w (feed.Write c i v) a = (n : ℕ) × (a ≡ answer.Worked n)
Accepted L D p w feed.TakeBack a = (n : ℕ) × (a ≡ answer.Worked n)
Accepted L D p w feed.Begin a = a ≡ answer.Slip (length w.writes)
Accepted L D p w (feed.Confirm k) a = a ≡ answer.Worked 0
Accepted L D p w (feed.Drop k) a = (n : ℕ) × (a ≡ answer.Worked n)
Accepted L D p w (feed.Show b) a = (values : List Value) × (FindsOnly L D (rows_of (walked p w)) w.cycle values × (a ≡ answer.Value (slice_index_or values b absent)))
Accepted L D p w (feed.Tally i) a = a ≡ answer.Count (tally_of (walked p w) i)

-- refused exactly where the walker refuses, with the walker's fault
abbrev pub Answered : Library → Drawing → Page → Walker → Feed → Option Fault → Answer → Type 0
Answered L D p w c (Some f) a = a ≡ answer.Refused f
Answered L D p w c None a = Accepted L D p w c a

-- where player and sheet agree with the walker before a call, they agree after it with the walker fed that call, and the answer is the walker's
abbrev pub Lawful : Library → Drawing → Head → Page → Feed → Answer → Head → Page → Type 0
Lawful L D h p c a h' p' = (w : Walker) → Agrees L D h p w
    → Agrees L D h' p' (stepped p (length (blocks_of D)) w c) × Answered L D p w c (judge p (length (blocks_of D)) w c) a

-- the same of a player, by what its library and its store mean
abbrev pub Obeys : {L S : Type 0} {l : BlockLibrary.Ghosts L} {s : KeyframeStore.Ghosts S} → (L → Library) → (S → Frames) → Player L S l s → Page → Feed → Answer → Player L S l s → Page → Type 0
Obeys library store q p c a q' p' = Lawful (library q.library) q.drawing (head_of store q) p c a (head_of store q') p'
