-- The sheet of a run holds the writes that stand.
use Rattle.std.proofs.Common.{◌≡◌, ℕ, ◌-◌, ◌<◌, ◌≤◌, Bool, true, false, cond, ltb, List, [], ◌∷◌, length, get_or, take, Some, None, Option, unwrap_or, sym, refl, ap, subst, ⊎_elim, arith}
use Rattle.std.proofs.lemmas.List.{length_push, length-take-le}
use Rattle.std.proofs.lemmas.Bool.{cases_lt}
use Rattle.std.proofs.lemmas.Bool.Decides.{nat_tests}
use Rattle.faults.specs.declared.fault.Fault.{Fault}
use Rattle.faults.specs.declared.fault.Fault.TheVariants.{NotOpened}
use Rattle.blocks.specs.declared.library.BlockLibrary as BlockLibrary
use Rattle.blocks.specs.Library.{Library}
use Rattle.drawing.specs.declared.drawing.Drawing.{Drawing}
use Rattle.keyframes.specs.declared.store.KeyframeStore as KeyframeStore
use Rattle.keyframes.specs.Frames.{Frames}
use Rattle.sheet.specs.declared.write.Write.{Write}
use Rattle.sheet.specs.Cells.{no_write}
use Rattle.sheet.specs.Page.{Page, write_of, base, appended, struck_latest, opened, closed, struck_since}
use Rattle.sheet.specs.Calls.{strike_refusal, slip_refusal}
use Rattle.sheet.proofs.Placing.{strike_accepted}
use Rattle.marks.specs.declared.table.MarkTable.{MarkTable}
use Rattle.marks.specs.Marks.{mark}
use Rattle.player.specs.declared.answer.Answer.{Answer}
use Rattle.player.specs.declared.answer.Answer.TheVariants as answer
use Rattle.player.specs.Feed.{Feed}
use Rattle.player.specs.Feed as feed
use Rattle.player.specs.Play.{Head, head_of}
use Rattle.player.specs.Walker.{slip_of}
use Rattle.player.specs.Calls.{Outcome, Done}
use Rattle.runs.specs.declared.call.Call.{Call}
use Rattle.runs.specs.declared.call.Call.TheVariants as calls
use Rattle.runs.specs.Session.{ground, held}
use Rattle.runs.specs.Chain.{Desk, fault, MadeOf, Made, Chain, done, call}
use Rattle.runs.specs.Standing.{Event, wrote, took_back, began, dropped, nothing, event_of, history, begun, StandingAt}
use Rattle.runs.proofs.Standing.{stands_below, begun_below, standing_none, placed, placed_old, placed_new, standing_push, standing_pop, standing_drop}

-- the writes below an open trial's number were made before its begin, and no others
pub record Kept (es : List Event) (p : Page) : Type 0 where
  pub place : ℕ → ℕ
  pub standing : StandingAt place es p.writes
  pub trial : (m : ℕ) → p.trial ≡ Some m → (m ≤ length p.writes) × ((k : ℕ) → k < length p.writes → (k < m → place k < begun es) × (place k < begun es → k < m))

no_trial : {m : ℕ} {T : Type 0} → ◌≡◌ {A = Option ℕ} None (Some m) → T
no_trial e = let z : ◌≡◌ {A = ℕ} 0 1 = cc in absurd (omega arith)

pub kept_new : (p : Page) → p ≡ ground p → Kept [] p
kept_new p new = subst (Kept []) (sym new) (record { place = λ k. 0; standing = standing_none; trial = λ m e. no_trial e })

module _ (past : List Event) (p : Page) (kept : Kept past p) where
  abbrev s : StandingAt kept.place past p.writes
  s = kept.standing

  kept_same : (p' : Page) → p' ≡ p → Kept (nothing ∷ past) p'
  kept_same p' same = subst (Kept (nothing ∷ past)) (sym same) (record { place = kept.place; standing = record { rising = s.rising; each = s.each; all = s.all }; trial = kept.trial })

  kept_closed : Kept (nothing ∷ past) (closed p)
  kept_closed = record { place = kept.place; standing = record { rising = s.rising; each = s.each; all = s.all }; trial = λ m e. no_trial e }

  kept_wrote : (u : Write) → Kept (wrote u ∷ past) (appended p u)
  kept_wrote u =
      let ws = p.writes in
      record {
        place = placed past ws u kept.place s;
        standing = standing_push past ws u kept.place s;
        trial = λ m e.
            let t = kept.trial m e in (
              omega (arith, length_push ws u, t.0),
              λ k inside.
                  ⊎_elim
                  (λ (low : k < length ws). (λ less. omega (arith, placed_old past ws u kept.place s k low, (t.1 k low).0 less), λ less. (t.1 k low).1 (omega (arith, placed_old past ws u kept.place s k low))))
                  (λ (last : length ws ≤ k). let end : k ≡ length ws = omega (arith, length_push ws u) in (λ less. absurd (omega (arith, t.0)), λ less. absurd (omega (arith, placed_new past ws u kept.place s k end, begun_below past))))
                  (cases_lt k (length ws)),
            );
      }

  kept_took : base p < length p.writes → Kept (took_back ∷ past) (struck_latest p)
  kept_took some =
      let ws = p.writes in
      let size : length (take (length ws - 1) ws) ≡ length ws - 1 = length-take-le (length ws - 1) ws (omega arith) in
      record {
        place = kept.place;
        standing = standing_pop past ws kept.place s (omega (arith, some));
        trial = λ m e.
            let t = kept.trial m e in
            let low : m ≡ base p = sym (ap (λ (o : Option ℕ). unwrap_or o 0) e) in
            (omega (arith, size, low, some), λ k inside. t.1 k (omega (arith, size)));
      }

  kept_began : Kept (began ∷ past) (opened p)
  kept_began = record {
    place = kept.place;
    standing = record { rising = s.rising; each = s.each; all = s.all };
    trial = λ m e.
        let n : length p.writes ≡ m = cc in
        (omega (arith, n), λ k inside. (λ less. stands_below past (kept.place k) (get_or p.writes k no_write) (s.each k inside), λ less. omega (arith, n)));
  }

  kept_dropped : (m : ℕ) → p.trial ≡ Some m → Kept (dropped ∷ past) (struck_since p m)
  kept_dropped m e = record { place = kept.place; standing = standing_drop past p.writes kept.place s m (kept.trial m e).0 (kept.trial m e).1; trial = λ n f. no_trial f }

-- an accepted call found no fault of its own
pub own_none : (b : Bool) (own : Option Fault) → cond b own (Some NotOpened) ≡ None → own ≡ None
own_none true own e = e
own_none false own e = let z : ◌≡◌ {A = ℕ} 0 1 = cc in absurd (omega arith)

is_trial_lem : (p : Page) (k : ℕ) → slip_refusal p (slip_of k) ≡ None → p.trial ≡ Some k
is_trial_lem p k e = grind (arith, nat_tests)

pub went : {S : Type 0} (store : S → Frames) (L : Library) (D : Drawing) (h h' : Head) (p p' : Page) (a : Answer) (t : Option ℕ) → Done store L D h p (feed.Goto t) a h' p' → (p' ≡ p) × ((n : ℕ) × (a ≡ answer.Worked n))
went store L D h h' p p' a None d = absurd d
went store L D h h' p p' a (Some t) d = (d.0, (d.1.0, d.1.1))

module _ {L S : Type 0} {l : BlockLibrary.Ghosts L} {s : KeyframeStore.Ghosts S} (library : L → Library) (store : S → Frames) (past : List Event) (d e : Desk L S l s) (a : Answer) (kept : Kept past d.page) where
  -- a refused call leaves the sheet
  either : (c : Call) (f : Feed) → MadeOf library store (Some f) c d a e
      → (fault library store d.player d.page f ≡ None → Done store (library d.player.library) d.player.drawing (head_of store d.player) d.page f a (head_of store e.player) e.page → Kept (event_of c a ∷ past) e.page)
      → Kept (event_of c a ∷ past) e.page
  either c f (does, hand, stays) accepted = go (fault library store d.player d.page f) refl does
    where
      go : (o : Option Fault) → fault library store d.player d.page f ≡ o → Outcome o a ((e.player ≡ d.player) × (e.page ≡ d.page)) (Done store (library d.player.library) d.player.drawing (head_of store d.player) d.page f a (head_of store e.player) e.page) → Kept (event_of c a ∷ past) e.page
      go (Some x) is (told, same) = subst (λ r. Kept (event_of c r ∷ past) e.page) (sym told) (kept_same past d.page kept e.page same.1)
      go None is did = accepted is did

  by_answer : (c : Call) (b : Answer) (p : Page) → a ≡ b → e.page ≡ p → Kept (event_of c b ∷ past) p → Kept (event_of c a ∷ past) e.page
  by_answer c b p is same k = subst (λ r. Kept (event_of c r ∷ past) e.page) (sym is) (subst (Kept (event_of c b ∷ past)) (sym same) k)

  unchanged : Kept (nothing ∷ past) d.page
  unchanged = kept_same past d.page kept d.page refl

  no_slip : (c : Call) → MadeOf library store None c d a e → Kept (event_of c a ∷ past) e.page
  no_slip c (is, same) = by_answer c answer.NoSlip d.page is (ap (λ (x : Desk L S l s). x.page) same) unchanged

  pub made_kept : (marks : MarkTable) (c : Call) → Made library store marks c d a e → Kept (event_of c a ∷ past) e.page
  made_kept marks calls.Step made = either calls.Step feed.Step made (λ none did. by_answer calls.Step (answer.Worked did.1.0) d.page did.1.1 did.0 unchanged)
  made_kept marks (calls.Jump t) made = either (calls.Jump t) (feed.Jump t) made (λ none did. by_answer (calls.Jump t) (answer.Worked did.1.0) d.page did.1.1 did.0 unchanged)
  made_kept marks (calls.Goto name) made = either (calls.Goto name) (feed.Goto (mark marks name)) made (λ none did. let w = went store (library d.player.library) d.player.drawing (head_of store d.player) (head_of store e.player) d.page e.page a (mark marks name) did in by_answer (calls.Goto name) (answer.Worked w.1.0) d.page w.1.1 w.0 unchanged)
  made_kept marks (calls.Write c i v) made = either (calls.Write c i v) (feed.Write c i v) made (λ none did. by_answer (calls.Write c i v) (answer.Worked did.1.0) (appended d.page (write_of c i v)) did.1.1 did.0 (kept_wrote past d.page kept (write_of c i v)))
  made_kept marks calls.TakeBack made = either calls.TakeBack feed.TakeBack made (λ none did. by_answer calls.TakeBack (answer.Worked did.1.0) (struck_latest d.page) did.1.1 did.0 (kept_took past d.page kept (strike_accepted d.page (own_none _ (strike_refusal d.page) none))))
  made_kept marks calls.Begin made = either calls.Begin feed.Begin made (λ none did. by_answer calls.Begin (answer.Slip (length d.page.writes)) (opened d.page) did.2 did.1 (kept_began past d.page kept))
  made_kept marks (calls.Confirm i) made = go (ltb i (length d.hand)) made
    where
      go : (b : Bool) → MadeOf library store (cond b (Some (feed.Confirm (held d.hand i))) None) (calls.Confirm i) d a e → Kept (event_of (calls.Confirm i) a ∷ past) e.page
      go true m = either (calls.Confirm i) (feed.Confirm (held d.hand i)) m (λ none did. by_answer (calls.Confirm i) (answer.Worked 0) (closed d.page) did.2 did.1 (kept_closed past d.page kept))
      go false m = no_slip (calls.Confirm i) m
  made_kept marks (calls.Drop i) made = go (ltb i (length d.hand)) made
    where
      go : (b : Bool) → MadeOf library store (cond b (Some (feed.Drop (held d.hand i))) None) (calls.Drop i) d a e → Kept (event_of (calls.Drop i) a ∷ past) e.page
      go true m = either (calls.Drop i) (feed.Drop (held d.hand i)) m (λ none did. by_answer (calls.Drop i) (answer.Worked did.1.0) (struck_since d.page (held d.hand i)) did.1.1 did.0 (kept_dropped past d.page kept (held d.hand i) (is_trial_lem d.page (held d.hand i) (own_none _ (slip_refusal d.page (slip_of (held d.hand i))) none))))
      go false m = no_slip (calls.Drop i) m
  made_kept marks (calls.Show b) made = either (calls.Show b) (feed.Show b) made (λ none did. by_answer (calls.Show b) _ d.page did.2 did.1 unchanged)
  made_kept marks (calls.Tally i) made = either (calls.Tally i) (feed.Tally i) made (λ none did. by_answer (calls.Tally i) _ d.page did.2 did.1 unchanged)

pub chain_kept : {L S : Type 0} {l : BlockLibrary.Ghosts L} {s : KeyframeStore.Ghosts S} (library : L → Library) (store : S → Frames) {marks : MarkTable} {d d' : Desk L S l s} {cs : List Call} {rs : List Answer} (past : List Event) → Kept past d.page → Chain library store marks d cs rs d' → Kept (history past cs rs) d'.page
chain_kept library store past kept done = kept
chain_kept library store {marks} past kept (call {d = d} {e = e} {c = c} {a = a} made rest) = chain_kept library store (event_of c a ∷ past) (made_kept library store past d e a kept marks c made) rest
