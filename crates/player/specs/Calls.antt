-- What each call answers, and what it does to the player and the sheet. Assumes nothing.
use Rattle.std.specs.Prelude.{◌≡◌, ℕ, ◌+◌, ◌<◌, Bool, true, false, cond, ◌&&◌, List, [], ◌∷◌, length, Some, None, Ok, Err, Option, Result, ◌==◌, nat_le, nat_lt, slice_index_or}
use Rattle.faults.specs.declared.fault.Fault.{Fault}
use Rattle.faults.specs.declared.fault.Fault.TheVariants.{NotOpened, NoSuchMark, NoSuchBlock}
use Rattle.values.specs.declared.scalar.Value.{Value}
use Rattle.values.specs.declared.scalar.ValueType.{ValueType}
use Rattle.values.specs.Values.{absent}
use Rattle.blocks.specs.Library.{Library}
use Rattle.drawing.specs.declared.drawing.Drawing.{Drawing}
use Rattle.sheet.specs.declared.slip.Slip.{Slip}
use Rattle.sheet.specs.declared.slip.Returned.{Returned}
use Rattle.sheet.specs.Cells.{same_type}
use Rattle.sheet.specs.Page.{Page, write_of, appended, latest_write, struck_latest, opened, closed, since, struck_since}
use Rattle.sheet.specs.Rows.{rows_of}
use Rattle.sheet.specs.Calls.{first_of, append_refusal, strike_refusal, open_refusal, slip_refusal, tally_refusal, tally_of, lowest}
use Rattle.keyframes.specs.Frames.{Frames, Cut}
use Rattle.walk.specs.Opening.{blocks_of, columns_of}
use Rattle.blocks.specs.declared.library.BlockLibrary as BlockLibrary
use Rattle.keyframes.specs.declared.store.KeyframeStore as KeyframeStore
use Rattle.player.specs.declared.answer.Answer.{Answer}
use Rattle.player.specs.declared.answer.Answer.TheVariants as answer
use Rattle.player.specs.declared.player.Player.{Player}
use Rattle.player.specs.Feed.{Feed}
use Rattle.player.specs.Feed as feed
use Rattle.player.specs.Play.{Head, head_of, values_of}
use Rattle.player.specs.Moves.{Moves}
use Rattle.player.specs.Walker.{slip_of, beyond}

-- ---- faults

abbrev pub alike : List ValueType → List ValueType → Bool
alike [] [] = true
alike [] (u ∷ us) = false
alike (t ∷ ts) [] = false
alike (t ∷ ts) (u ∷ us) = same_type t u && alike ts us

-- opened, and with as many rows and such columns as the page has
abbrev pub serves : ℕ → List ValueType → Page → Bool
serves rows columns p = nat_lt 0 rows && (rows == p.rows && alike p.columns columns)

abbrev pub ready : ℕ → List ValueType → Page → Option Fault → Option Fault
ready rows columns p own = cond (serves rows columns p) own (Some NotOpened)

-- the fault of a call, by the player's rows and playhead, the drawing's columns and number of blocks, and the page
abbrev pub fault_of : Head → List ValueType → ℕ → Page → Feed → Option Fault
fault_of h columns m p feed.Step = ready h.rows columns p (beyond p.rows (h.at + 1))
fault_of h columns m p (feed.Jump t) = ready h.rows columns p (beyond p.rows t)
fault_of h columns m p (feed.Goto None) = Some NoSuchMark
fault_of h columns m p (feed.Goto (Some t)) = ready h.rows columns p (beyond p.rows t)
fault_of h columns m p (feed.Write c i v) = ready h.rows columns p (append_refusal p c i v)
fault_of h columns m p feed.TakeBack = ready h.rows columns p (strike_refusal p)
fault_of h columns m p feed.Begin = ready h.rows columns p (open_refusal p)
fault_of h columns m p (feed.Confirm k) = ready h.rows columns p (slip_refusal p (slip_of k))
fault_of h columns m p (feed.Drop k) = ready h.rows columns p (slip_refusal p (slip_of k))
fault_of h columns m p (feed.Show b) = cond (nat_lt 0 h.rows) (first_of ((nat_le m b, NoSuchBlock) ∷ [])) (Some NotOpened)
fault_of h columns m p (feed.Tally i) = tally_refusal p i

-- ---- outcomes

abbrev pub with_frames : Head → Frames → Head
with_frames h f = record { at = h.at; states = h.states; shown = h.shown; frames = f; rows = h.rows }

-- after a change of the rows whose lowest cycle is k: the store is cut above k; a playhead beyond k is worked again; one at k is shown anew
pub record Renews {S : Type 0} (store : S → Frames) (L : Library) (D : Drawing) (rows : ℕ → List Value) (h : Head) (k report : ℕ) (h' : Head) : Type 0 where
  pub cut : S
  pub is_cut : Cut h.frames k (store cut)
  pub again : k < h.at → Moves L D rows (with_frames h (store cut)) false h.at report h'
  pub renewed : k ≡ h.at → (report ≡ 0) × (h' ≡ record { at = h.at; states = h.states; shown = values_of L D h.states (rows h.at); frames = store cut; rows = h.rows })
  pub left : h.at < k → (report ≡ 0) × (h' ≡ with_frames h (store cut))

-- a change that struck no write changes nothing else
abbrev pub RenewsFrom : {S : Type 0} → (S → Frames) → Library → Drawing → (ℕ → List Value) → Head → Option ℕ → ℕ → Head → Type 0
RenewsFrom store L D rows h None report h' = (report ≡ 0) × (h' ≡ h)
RenewsFrom store L D rows h (Some k) report h' = Renews store L D rows h k report h'

-- a jump to t that reports a
abbrev pub Jumps : Library → Drawing → Head → Page → ℕ → Answer → Head → Page → Type 0
Jumps L D h p t a h' p' = (p' ≡ p) × ((n : ℕ) × (a ≡ answer.Worked n) × Moves L D (rows_of p) h (nat_le h.at t) t n h')

-- what an accepted call answers and does
abbrev pub Done : {S : Type 0} → (S → Frames) → Library → Drawing → Head → Page → Feed → Answer → Head → Page → Type 0
Done store L D h p feed.Step a h' p' = Jumps L D h p (h.at + 1) a h' p'
Done store L D h p (feed.Jump t) a h' p' = Jumps L D h p t a h' p'
Done store L D h p (feed.Goto None) a h' p' = ⊥
Done store L D h p (feed.Goto (Some t)) a h' p' = Jumps L D h p t a h' p'
Done store L D h p (feed.Write c i v) a h' p' = (p' ≡ appended p (write_of c i v)) × ((n : ℕ) × (a ≡ answer.Worked n) × Renews store L D (rows_of p') h c n h')
Done store L D h p feed.TakeBack a h' p' = (p' ≡ struck_latest p) × ((n : ℕ) × (a ≡ answer.Worked n) × Renews store L D (rows_of p') h (latest_write p).cycle n h')
Done store L D h p feed.Begin a h' p' = (h' ≡ h) × (p' ≡ opened p) × (a ≡ answer.Slip (length p.writes))
Done store L D h p (feed.Confirm k) a h' p' = (h' ≡ h) × (p' ≡ closed p) × (a ≡ answer.Worked 0)
Done store L D h p (feed.Drop k) a h' p' = (p' ≡ struck_since p k) × ((n : ℕ) × (a ≡ answer.Worked n) × RenewsFrom store L D (rows_of p') h (lowest (since p k)) n h')
Done store L D h p (feed.Show b) a h' p' = (h' ≡ h) × (p' ≡ p) × (a ≡ answer.Value (slice_index_or h.shown b absent))
Done store L D h p (feed.Tally i) a h' p' = (h' ≡ h) × (p' ≡ p) × (a ≡ answer.Count (tally_of p i))

-- refused with the fault and nothing changed, or done
abbrev pub Outcome : Option Fault → Answer → Type 0 → Type 0 → Type 0
Outcome (Some f) a same done = (a ≡ answer.Refused f) × same
Outcome None a same done = done

-- the outcome of a call: its answer, and the player and the page after it
abbrev pub Does : {L S : Type 0} {l : BlockLibrary.Ghosts L} {s : KeyframeStore.Ghosts S} → (L → Library) → (S → Frames) → Player L S l s → Page → Feed → Answer → Player L S l s → Page → Type 0
Does library store q p c a q' p' =
    Outcome (fault_of (head_of store q) (columns_of q.drawing) (length (blocks_of q.drawing)) p c) a ((q' ≡ q) × (p' ≡ p))
    (Done store (library q.library) q.drawing (head_of store q) p c a (head_of store q') p')

-- ---- answers

abbrev pub worked_or : Result ℕ Fault → Answer
worked_or (Ok n) = answer.Worked n
worked_or (Err f) = answer.Refused f

abbrev pub value_or : Result Value Fault → Answer
value_or (Ok v) = answer.Value v
value_or (Err f) = answer.Refused f

abbrev pub slip_or : Result Slip Fault → Answer
slip_or (Ok s) = answer.Slip s.standing
slip_or (Err f) = answer.Refused f

abbrev pub spent_or : Result ℕ Returned → Answer
spent_or (Ok n) = answer.Worked n
spent_or (Err r) = answer.Refused r.fault

-- a refused call hands the slip back
abbrev pub HandsBack : Slip → Result ℕ Returned → Type 0
HandsBack slip (Ok n) = Unit {0}
HandsBack slip (Err r) = r.slip ≡ slip
