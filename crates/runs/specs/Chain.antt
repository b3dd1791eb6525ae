-- The calls of a run, each with its outcome. Assumes nothing.
use Rattle.std.specs.Prelude.{◌≡◌, ℕ, ◌+◌, ◌≤◌, List, [], ◌∷◌, ◌++◌, length, Some, None, Ok, Err, vec_len, vec_capacity, Option, Result, Vec}
use Rattle.std.specs.List.{insert}
use Rattle.std.specs.declared.alloc.Global.{Global}
use Rattle.faults.specs.declared.fault.Fault.{Fault}
use Rattle.blocks.specs.declared.library.BlockLibrary as BlockLibrary
use Rattle.blocks.specs.Library.{Library}
use Rattle.keyframes.specs.declared.store.KeyframeStore as KeyframeStore
use Rattle.keyframes.specs.Frames.{Frames}
use Rattle.sheet.specs.declared.slip.Slip.{Slip}
use Rattle.sheet.specs.declared.slip.Returned.{Returned}
use Rattle.sheet.specs.Page.{Page}
use Rattle.marks.specs.declared.table.MarkTable.{MarkTable}
use Rattle.walk.specs.Opening.{blocks_of, columns_of}
use Rattle.player.specs.declared.player.Player.{Player}
use Rattle.player.specs.declared.answer.Answer.{Answer}
use Rattle.player.specs.declared.answer.Answer.TheVariants as answer
use Rattle.player.specs.Feed.{Feed}
use Rattle.player.specs.Play.{head_of}
use Rattle.player.specs.Moves.{Stays}
use Rattle.player.specs.Calls.{Does, fault_of}
use Rattle.runs.specs.declared.call.Call.{Call}
use Rattle.runs.specs.Session.{fed, hand_after}

-- a player, its sheet and the slips in the hand
pub record Desk (L S : Type 0) (l : BlockLibrary.Ghosts L) (s : KeyframeStore.Ghosts S) : Type 0 where
  pub player : Player L S l s
  pub page : Page
  pub hand : List Slip

abbrev pub desk : {L S : Type 0} {l : BlockLibrary.Ghosts L} {s : KeyframeStore.Ghosts S} → Player L S l s → Page → List Slip → Desk L S l s
desk q p hand = record { player = q; page = p; hand = hand }

-- at most one slip more in the same memory
pub record Roomy (hand hand' : Vec Slip Global) : Type 0 where
  pub capacity : vec_capacity hand' ≡ vec_capacity hand
  pub len : vec_len hand' ≤ vec_len hand + 1

-- a fault is answered as a refusal
abbrev pub answer_or : Result Answer Fault → Answer
answer_or (Ok a) = a
answer_or (Err f) = answer.Refused f

-- what the end of a trial tells, with its slip taken out of the hand at place i: a refused end puts the slip back there
abbrev pub Ended : Result ℕ Returned → ℕ → List Slip → Result ℕ Fault → List Slip → Type 0
Ended (Ok n) i left r now = (r ≡ Ok n) × (now ≡ left)
Ended (Err b) i left r now = (r ≡ Err b.fault) × (now ≡ insert left i b.slip)

module _ {L S : Type 0} {l : BlockLibrary.Ghosts L} {s : KeyframeStore.Ghosts S} (library : L → Library) (store : S → Frames) where
  -- the fault that a player and a page find in a call
  abbrev pub fault : Player L S l s → Page → Feed → Option Fault
  fault q p f = fault_of (head_of store q) (columns_of q.drawing) (length (blocks_of q.drawing)) p f

  -- the outcome of a call that feeds the walker so; nothing is called without a slip
  abbrev pub MadeOf : Option Feed → Call → Desk L S l s → Answer → Desk L S l s → Type 0
  MadeOf None c d a d' = (a ≡ answer.NoSlip) × (d' ≡ d)
  MadeOf (Some f) c d a d' =
      Does library store d.player d.page f a d'.player d'.page
      × (d'.hand ≡ hand_after (fault d.player d.page f) c (length d.page.writes) d.hand)
      × Stays d.player d'.player

  abbrev pub Made : MarkTable → Call → Desk L S l s → Answer → Desk L S l s → Type 0
  Made marks c d a d' = MadeOf (fed marks d.hand c) c d a d'

  -- each call's outcome holds between neighbours
  pub data Chain (marks : MarkTable) : Desk L S l s → List Call → List Answer → Desk L S l s → Type 0 where
    done : {d : Desk L S l s} → Chain marks d [] [] d
    call : {d e d' : Desk L S l s} {c : Call} {cs : List Call} {a : Answer} {rs : List Answer} → Made marks c d a e → Chain marks e cs rs d' → Chain marks d (c ∷ cs) (a ∷ rs) d'

  -- the answers of a chain, told after others
  pub record Tells (marks : MarkTable) (d : Desk L S l s) (calls : List Call) (before now : List Answer) (d' : Desk L S l s) : Type 0 where
    pub told : List Answer
    pub answers : now ≡ before ++ told
    pub chain : Chain marks d calls told d'
