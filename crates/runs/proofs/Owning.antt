-- A hand that began empty holds the slip of the open trial alone, or none.
use Rattle.std.proofs.Common.{◌≡◌, ℕ, ◌<◌, Bool, true, false, cond, ltb, List, [], ◌∷◌, ◌++◌, length, Some, None, vec_items, Option, sym, refl, ap, ◌∙◌, subst, inl, inr, ⊎_elim, arith}
use Rattle.std.proofs.lemmas.List.{nil_from_length}
use Rattle.std.proofs.lemmas.Bool.{ltb-true}
use Rattle.std.proofs.lemmas.Bool.Decides.{nat_tests}
use Rattle.std.specs.List.{remove}
use Rattle.faults.specs.declared.fault.Fault.{Fault}
use Rattle.blocks.specs.declared.library.BlockLibrary as BlockLibrary
use Rattle.blocks.specs.Library.{Library}
use Rattle.drawing.specs.declared.drawing.Drawing.{Drawing}
use Rattle.keyframes.specs.declared.store.KeyframeStore as KeyframeStore
use Rattle.keyframes.specs.Frames.{Frames}
use Rattle.sheet.specs.declared.slip.Slip.{Slip}
use Rattle.sheet.specs.Page.{Page}
use Rattle.sheet.specs.Calls.{open_refusal}
use Rattle.marks.specs.declared.table.MarkTable.{MarkTable}
use Rattle.marks.specs.Marks.{mark}
use Rattle.player.specs.declared.player.Player.{Player}
use Rattle.player.specs.declared.answer.Answer.{Answer}
use Rattle.player.specs.Feed.{Feed}
use Rattle.player.specs.Feed as feed
use Rattle.player.specs.Play.{head_of}
use Rattle.player.specs.Walker.{slip_of}
use Rattle.player.specs.Calls.{Outcome, Done}
use Rattle.runs.specs.declared.call.Call.{Call}
use Rattle.runs.specs.declared.hand.EmptyHand.{EmptyHand}
use Rattle.runs.specs.declared.call.Call.TheVariants as calls
use Rattle.runs.specs.Session.{held, handed, hand_after}
use Rattle.runs.specs.Chain.{Desk, desk, fault, MadeOf, Made, Chain, done, call}
use Rattle.runs.specs.Run.{Replays}
use Rattle.runs.specs.Own.{Own, Settled, Rehearses}
use Rattle.runs.proofs.Striking.{own_none, went}

-- begin is accepted where no trial is open
no_trial : (p : Page) → open_refusal p ≡ None → p.trial ≡ None
no_trial p e = grind (arith, nat_tests)

begun : (hand hand' : List Slip) (trial trial' : Option ℕ) (n : ℕ) → Own hand trial → trial ≡ None → hand' ≡ hand ++ slip_of n ∷ [] → trial' ≡ Some n → Own hand' trial'
begun hand hand' trial trial' n own none now opened =
    ⊎_elim
    (λ empty. inr (n, (now ∙ ap (λ l. l ++ slip_of n ∷ []) empty, opened)))
    (λ one. let z : ◌≡◌ {A = ℕ} 0 1 = (let t = one.1.1 in cc) in absurd (omega arith))
    own

spent_one : (slip : Slip) (i : ℕ) → i < 1 → remove (slip ∷ []) i ≡ []
spent_one slip i inside = let first : 0 ≡ i = omega arith in subst (λ k. remove (slip ∷ []) k ≡ []) first refl

spent : (hand hand' : List Slip) (trial trial' : Option ℕ) (i : ℕ) → Own hand trial → i < length hand → hand' ≡ remove hand i → Own hand' trial'
spent hand hand' trial trial' i own inside now =
    ⊎_elim
    (λ empty. absurd (omega (arith, ap length empty)))
    (λ one. let single : length hand ≡ 1 = ap length one.1.0 in inl (now ∙ ap (λ l. remove l i) one.1.0 ∙ spent_one (slip_of one.0) i (omega arith)))
    own

kept : (hand hand' : List Slip) (trial trial' : Option ℕ) → Own hand trial → hand' ≡ hand → trial' ≡ trial → Own hand' trial'
kept hand hand' trial trial' own same-hand same_trial = subst (λ h. Own h trial') (sym same-hand) (subst (Own hand) (sym same_trial) own)

module _ {L S : Type 0} {l : BlockLibrary.Ghosts L} {s : KeyframeStore.Ghosts S} (library : L → Library) (store : S → Frames) (d e : Desk L S l s) (a : Answer) (own : Own d.hand d.page.trial) where
  -- a refused call keeps hand and trial
  either : (c : Call) (f : Feed) → MadeOf library store (Some f) c d a e
      → (fault library store d.player d.page f ≡ None → Done store (library d.player.library) d.player.drawing (head_of store d.player) d.page f a (head_of store e.player) e.page → e.hand ≡ handed c (length d.page.writes) d.hand → Own e.hand e.page.trial)
      → Own e.hand e.page.trial
  either c f (does, hand, stays) accepted = go (fault library store d.player d.page f) refl does hand
    where
      go : (o : Option Fault) → fault library store d.player d.page f ≡ o → Outcome o a ((e.player ≡ d.player) × (e.page ≡ d.page)) (Done store (library d.player.library) d.player.drawing (head_of store d.player) d.page f a (head_of store e.player) e.page) → e.hand ≡ hand_after o c (length d.page.writes) d.hand → Own e.hand e.page.trial
      go (Some x) is (told, same) now = kept d.hand e.hand d.page.trial e.page.trial own now (ap (λ (p : Page). p.trial) same.1)
      go None is did now = accepted is did now

  same_trial : (p : Page) → e.page ≡ p → p.trial ≡ d.page.trial → e.hand ≡ d.hand → Own e.hand e.page.trial
  same_trial p page trial hand = kept d.hand e.hand d.page.trial e.page.trial own hand (ap (λ (p : Page). p.trial) page ∙ trial)

  no_slip : (c : Call) → MadeOf library store None c d a e → Own e.hand e.page.trial
  no_slip c (is, same) = subst (λ (x : Desk L S l s). Own x.hand x.page.trial) (sym same) own

  own_made : (marks : MarkTable) (c : Call) → Made library store marks c d a e → Own e.hand e.page.trial
  own_made marks calls.Step made = either calls.Step feed.Step made (λ none did now. same_trial _ did.0 refl now)
  own_made marks (calls.Jump t) made = either (calls.Jump t) (feed.Jump t) made (λ none did now. same_trial _ did.0 refl now)
  own_made marks (calls.Goto name) made = either (calls.Goto name) (feed.Goto (mark marks name)) made (λ none did now. same_trial d.page (went store (library d.player.library) d.player.drawing (head_of store d.player) (head_of store e.player) d.page e.page a (mark marks name) did).0 refl now)
  own_made marks (calls.Write c i v) made = either (calls.Write c i v) (feed.Write c i v) made (λ none did now. same_trial _ did.0 refl now)
  own_made marks calls.TakeBack made = either calls.TakeBack feed.TakeBack made (λ none did now. same_trial _ did.0 refl now)
  own_made marks calls.Begin made = either calls.Begin feed.Begin made (λ none did now. begun d.hand e.hand d.page.trial e.page.trial (length d.page.writes) own (no_trial d.page (own_none _ (open_refusal d.page) none)) now (ap (λ (p : Page). p.trial) did.1))
  own_made marks (calls.Confirm i) made = go (ltb i (length d.hand)) refl made
    where
      go : (b : Bool) → ltb i (length d.hand) ≡ b → MadeOf library store (cond b (Some (feed.Confirm (held d.hand i))) None) (calls.Confirm i) d a e → Own e.hand e.page.trial
      go true is m = either (calls.Confirm i) (feed.Confirm (held d.hand i)) m (λ none did now. spent d.hand e.hand d.page.trial e.page.trial i own (ltb-true i (length d.hand) is) now)
      go false is m = no_slip (calls.Confirm i) m
  own_made marks (calls.Drop i) made = go (ltb i (length d.hand)) refl made
    where
      go : (b : Bool) → ltb i (length d.hand) ≡ b → MadeOf library store (cond b (Some (feed.Drop (held d.hand i))) None) (calls.Drop i) d a e → Own e.hand e.page.trial
      go true is m = either (calls.Drop i) (feed.Drop (held d.hand i)) m (λ none did now. spent d.hand e.hand d.page.trial e.page.trial i own (ltb-true i (length d.hand) is) now)
      go false is m = no_slip (calls.Drop i) m
  own_made marks (calls.Show b) made = either (calls.Show b) (feed.Show b) made (λ none did now. same_trial _ did.1 refl now)
  own_made marks (calls.Tally i) made = either (calls.Tally i) (feed.Tally i) made (λ none did now. same_trial _ did.1 refl now)

own_chain : {L S : Type 0} {l : BlockLibrary.Ghosts L} {s : KeyframeStore.Ghosts S} (library : L → Library) (store : S → Frames) {marks : MarkTable} {d e : Desk L S l s} {cs : List Call} {rs : List Answer} → Own d.hand d.page.trial → Chain library store marks d cs rs e → Own e.hand e.page.trial
own_chain library store own done = own
own_chain library store {marks} own (call {d = d} {e = m} {c = c} {a = a} made rest) = own_chain library store (own_made library store d m a own marks c made) rest

pub no_slips : (hand : EmptyHand) → vec_items hand.slips ≡ []
no_slips hand = nil_from_length (vec_items hand.slips) (sym hand.slips.ok.0 ∙ hand.empty)

-- a replay whose hand began empty
module _ {L S : Type 0} {l : BlockLibrary.Ghosts L} {s : KeyframeStore.Ghosts S} (library : L → Library) (store : S → Frames) (marks : MarkTable) (D : Drawing) (q : Player L S l s) (p : Page) (lent : List Slip) (calls : List Call) (before now : List Answer) (end : Desk L S l s) (empty : lent ≡ [])
    (r : Replays library store marks D (desk q p lent) calls before now end) where
  pub replay_own : Own end.hand end.page.trial
  replay_own = own_chain library store (inl empty) r.runs.tells.chain

  pub rehearsed : (p' : Page) → Settled end.hand end.page p' → Rehearses library store marks D q p calls before now end.player p'
  rehearsed p' settled = record { end = end; replays = subst (λ l. Replays library store marks D (desk q p l) calls before now end) empty r; player = refl; settled = settled }
