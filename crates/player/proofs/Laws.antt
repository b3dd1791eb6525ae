-- Each call keeps the player and the sheet in agreement with the walker, whatever its outcome.
use Rattle.std.proofs.Common.{◌≡◌, ℕ, ◌+◌, ◌<◌, Bool, length, Some, None, Option, sym, refl, ap, ◌∙◌, subst, arith}
use Rattle.faults.specs.declared.fault.Fault.{Fault}
use Rattle.values.specs.Packed.{value_of}
use Rattle.blocks.specs.Library.{Library, Sound}
use Rattle.drawing.specs.declared.drawing.Drawing.{Drawing}
use Rattle.sheet.specs.Page.{Page, write_of, appended, latest_write, struck_latest, opened, closed, since, struck_since}
use Rattle.sheet.specs.Rows.{rows_of, first_rows}
use Rattle.sheet.specs.Calls.{strike_refusal, lowest, tally_of}
use Rattle.sheet.specs.Laws.{SameBelow}
use Rattle.sheet.proofs.Overlays.{append_puts, strike_rows, cut_below}
use Rattle.sheet.proofs.Placing.{strike_accepted}
use Rattle.walk.specs.Cycle.{Solves}
use Rattle.keyframes.specs.Frames.{Frames}
use Rattle.walk.specs.Opening.{blocks_of, columns_of}
use Rattle.walk.specs.Walk.{Finds}
use Rattle.walk.proofs.Steps.{only_found}
use Rattle.walk.proofs.Uniqueness.{causal}
use Rattle.player.specs.declared.answer.Answer.{Answer}
use Rattle.player.specs.declared.answer.Answer.TheVariants as answer
use Rattle.player.specs.Feed.{Feed}
use Rattle.player.specs.Feed as feed
use Rattle.player.specs.Play.{Head, unpacked}
use Rattle.player.specs.Moves.{Moves}
use Rattle.player.specs.Walker.{Walker, walked, judge, accepted, unless, beyond}
use Rattle.player.specs.Law.{Agrees, Accepted, Answered, Lawful}
use Rattle.player.specs.Calls.{Renews, RenewsFrom, Jumps, Done, Outcome, fault_of}
use Rattle.player.proofs.Agreeing.{judged, within}
use Rattle.player.proofs.Walking.{moves_true, renews_true, TrueHead}

module _ {S : Type 0} (store : S → Frames) (L : Library) (sound : Sound L) (D : Drawing) (h : Head) (p : Page) (w : Walker) (a : Agrees L D h p w) where
  -- after a move to t
  moved : (h' : Head) (current : Bool) (t n : ℕ) → t < p.rows → Moves L D (rows_of p) h current t n h' → Agrees L D h' p (record { writes = w.writes; trial = w.trial; cycle = t })
  moved h' current t n inside m =
      let now = moves_true L sound D a.fitting (rows_of p) (λ _. a.states) a.frames m in
      record {
        rows = m.same_rows ∙ a.rows;
        columns = a.columns;
        fitting = a.fitting;
        inside = subst (λ c. c < p.rows) (sym m.arrived) inside;
        page = a.page;
        at = m.arrived;
        states = now.states;
        shown = now.shown;
        frames = now.frames;
      }

  -- after a change of the writes from cycle k on
  changed : (h' : Head) (p' : Page) (w' : Walker) (k n : ℕ) → p'.rows ≡ p.rows → p'.columns ≡ p.columns → p' ≡ walked p' w' → w'.cycle ≡ w.cycle
      → ((i : ℕ) → i < k → rows_of p i ≡ rows_of p' i) → Renews store L D (rows_of p') h k n h' → Agrees L D h' p' w'
  changed h' p' w' k n rows columns page cycle below renews =
      let before : TrueHead L sound D a.fitting (rows_of p) h = record { states = a.states; shown = a.shown; frames = a.frames } in
      let after = renews_true L sound D a.fitting store (rows_of p) (rows_of p') below before renews in
      record {
        rows = after.2 ∙ a.rows ∙ sym rows;
        columns = columns ∙ a.columns;
        fitting = a.fitting;
        inside = omega (arith, after.1, a.inside, rows);
        page = page;
        at = after.1 ∙ a.at ∙ sym cycle;
        states = after.0.states;
        shown = after.0.shown;
        frames = after.0.frames;
      }

  -- after a change that leaves the rows
  kept : (p' : Page) (w' : Walker) → p'.rows ≡ p.rows → p'.columns ≡ p.columns → p' ≡ walked p' w' → w'.cycle ≡ w.cycle → ((i : ℕ) → rows_of p i ≡ rows_of p' i) → Agrees L D h p' w'
  kept p' w' rows columns page cycle same = record {
    rows = a.rows ∙ sym rows;
    columns = columns ∙ a.columns;
    fitting = a.fitting;
    inside = omega (arith, a.inside, rows);
    page = page;
    at = a.at ∙ sym cycle;
    states = causal L (blocks_of D) (rows_of p) (rows_of p') h.at (λ i _. same i) h.states a.states;
    shown = subst (λ row. Solves L (blocks_of D) h.states row h.shown) (same h.at) a.shown;
    frames = λ c row held. causal L (blocks_of D) (rows_of p) (rows_of p') c (λ i _. same i) (unpacked row) (a.frames c row held);
  }

  struck : (h' : Head) (k n : ℕ) (low : Option ℕ) → SameBelow low (rows_of p) (rows_of (struck_since p k)) → RenewsFrom store L D (rows_of (struck_since p k)) h low n h' → Agrees L D h' (struck_since p k) (accepted w (feed.Drop k))
  struck h' k n None same (r, e) =
      subst (λ g. Agrees L D g (struck_since p k) (accepted w (feed.Drop k))) (sym e)
      (kept (struck_since p k) (accepted w (feed.Drop k)) refl refl (ap (λ q. struck_since q k) a.page) refl (λ i. sym (same i)))
  struck h' k n (Some low) same renews = changed h' (struck_since p k) (accepted w (feed.Drop k)) low n refl refl (ap (λ q. struck_since q k) a.page) refl (λ i lt. sym (same i lt)) renews

  jumped : (h' : Head) (p' : Page) (t : ℕ) (r : Answer) → beyond p.rows t ≡ None → Jumps L D h p t r h' p' → Agrees L D h' p' (record { writes = w.writes; trial = w.trial; cycle = t }) × ((n : ℕ) × (r ≡ answer.Worked n))
  jumped h' p' t r none (same, (n, is, m)) =
      (subst (λ q. Agrees L D h' q (record { writes = w.writes; trial = w.trial; cycle = t })) (sym same) (moved h' _ t n (within p.rows t none) m), (n, is))

  -- an accepted call
  done_lawful : (h' : Head) (p' : Page) (c : Feed) (r : Answer) → judge p (length (blocks_of D)) w c ≡ None → Done store L D h p c r h' p' → Agrees L D h' p' (accepted w c) × Accepted L D p w c r
  done_lawful h' p' feed.Step r none d =
      let next : h.at + 1 ≡ w.cycle + 1 = ap (λ n. n + 1) a.at in
      let j = jumped h' p' (h.at + 1) r (ap (beyond p.rows) next ∙ none) d in
      (subst (λ t. Agrees L D h' p' (record { writes = w.writes; trial = w.trial; cycle = t })) next j.0, j.1)
  done_lawful h' p' (feed.Jump t) r none d = jumped h' p' t r none d
  done_lawful h' p' (feed.Goto None) r none d = absurd d
  done_lawful h' p' (feed.Goto (Some t)) r none d = jumped h' p' t r none d
  done_lawful h' p' (feed.Write c i v) r none (same, (n, is, renews)) =
      let u = write_of c i v in
      let puts = append_puts p u (value_of u.cell) refl in
      let renews' : Renews store L D (rows_of (appended p u)) h c n h' = subst (λ q. Renews store L D (rows_of q) h c n h') same renews in (
        subst (λ q. Agrees L D h' q (accepted w (feed.Write c i v))) (sym same)
            (changed h' (appended p u) (accepted w (feed.Write c i v)) c n refl refl (ap (λ q. appended q u) a.page) refl (λ k lt. sym (puts.0 k (λ e. omega arith))) renews'),
        (n, is),
      )
  done_lawful h' p' feed.TakeBack r none (same, (n, is, renews)) =
      let k = (latest_write p).cycle in
      let some = strike_accepted p (ap strike_refusal a.page ∙ none) in
      let others = strike_rows p (omega (arith, some)) in
      let renews' : Renews store L D (rows_of (struck_latest p)) h k n h' = subst (λ q. Renews store L D (rows_of q) h k n h') same renews in (
        subst (λ q. Agrees L D h' q (accepted w feed.TakeBack)) (sym same)
            (changed h' (struck_latest p) (accepted w feed.TakeBack) k n refl refl (ap struck_latest a.page) refl (λ i lt. sym (others i (λ e. omega arith))) renews'),
        (n, is),
      )
  done_lawful h' p' feed.Begin r none (stays, same, is) = (
    subst (λ g. Agrees L D g p' (accepted w feed.Begin)) (sym stays) (subst (λ q. Agrees L D h q (accepted w feed.Begin)) (sym same)
        (kept (opened p) (accepted w feed.Begin) refl refl (ap opened a.page) refl (λ i. refl))),
    is ∙ ap (λ q. answer.Slip (length q.writes)) a.page,
  )
  done_lawful h' p' (feed.Confirm k) r none (stays, same, is) = (
    subst (λ g. Agrees L D g p' (accepted w (feed.Confirm k))) (sym stays) (subst (λ q. Agrees L D h q (accepted w (feed.Confirm k))) (sym same)
        (kept (closed p) (accepted w (feed.Confirm k)) refl refl (ap closed a.page) refl (λ i. refl))),
    is,
  )
  done_lawful h' p' (feed.Drop k) r none (same, (n, is, renews)) =
      let below = cut_below (first_rows (length p.columns) p.first) p.writes k (lowest (since p k)) refl in (
        subst (λ q. Agrees L D h' q (accepted w (feed.Drop k))) (sym same)
            (struck h' k n (lowest (since p k)) below (subst (λ q. RenewsFrom store L D (rows_of q) h (lowest (since p k)) n h') same renews)),
        (n, is),
      )
  done_lawful h' p' (feed.Show b) r none (stays, same, is) =
      let mine : Finds L (blocks_of D) (rows_of p) h.at h.shown = record { states = h.states; walked = a.states; solved = a.shown } in
      let found : Finds L (blocks_of D) (rows_of (walked p w)) w.cycle h.shown = subst (λ q. Finds L (blocks_of D) (rows_of q) w.cycle h.shown) a.page (subst (λ c. Finds L (blocks_of D) (rows_of p) c h.shown) a.at mine) in (
        subst (λ g. Agrees L D g p' w) (sym stays) (subst (λ q. Agrees L D h q w) (sym same) a),
        (h.shown, ((found, λ others finds. only_found L sound D a.fitting (rows_of (walked p w)) w.cycle h.shown others found finds), is)),
      )
  done_lawful h' p' (feed.Tally i) r none (stays, same, is) =
      (subst (λ g. Agrees L D g p' w) (sym stays) (subst (λ q. Agrees L D h q w) (sym same) a), is ∙ ap (λ q. answer.Count (tally_of q i)) a.page)

-- a call with its outcome obeys the law
pub lawful : {S : Type 0} (store : S → Frames) (L : Library) → Sound L → (D : Drawing) (h : Head) (p : Page) (c : Feed) (r : Answer) (h' : Head) (p' : Page) (same : Type 0) → (same → (h' ≡ h) × (p' ≡ p))
    → Outcome (fault_of h (columns_of D) (length (blocks_of D)) p c) r same (Done store L D h p c r h' p') → Lawful L D h p c r h' p'
lawful store L sound D h p c r h' p' same stays o w a = go (judge p (length (blocks_of D)) w c) refl (subst (λ j. Outcome j r same (Done store L D h p c r h' p')) (judged a c) o)
  where
    go : (j : Option Fault) → judge p (length (blocks_of D)) w c ≡ j → Outcome j r same (Done store L D h p c r h' p') → Agrees L D h' p' (unless j w (accepted w c)) × Answered L D p w c j r
    go (Some f) e (is, s) = (subst (λ g. Agrees L D g p' w) (sym (stays s).0) (subst (λ q. Agrees L D h q w) (sym (stays s).1) a), is)
    go None e d = done_lawful store L sound D h p w a h' p' c r e d
