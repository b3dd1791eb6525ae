-- What every call of a chain leaves as it was, and chains one after the other.
use Rattle.std.proofs.Common.{◌≡◌, ℕ, ◌+◌, ◌<◌, List, [], ◌∷◌, ◌++◌, length, get_or, take, Some, None, Option, sym, refl, ap, ◌∙◌, subst, append_assoc, append-nil}
use Rattle.std.proofs.lemmas.List.{take_more}
use Rattle.faults.specs.declared.fault.Fault.{Fault}
use Rattle.blocks.specs.declared.library.BlockLibrary as BlockLibrary
use Rattle.blocks.specs.Library.{Library}
use Rattle.drawing.specs.declared.drawing.Drawing.{Drawing}
use Rattle.keyframes.specs.declared.store.KeyframeStore as KeyframeStore
use Rattle.keyframes.specs.Frames.{Frames}
use Rattle.sheet.specs.Page.{Page}
use Rattle.marks.specs.declared.table.MarkTable.{MarkTable}
use Rattle.player.specs.declared.answer.Answer.{Answer}
use Rattle.player.specs.Feed.{Feed}
use Rattle.player.specs.Feed as feed
use Rattle.player.specs.Play.{Head, head_of}
use Rattle.player.specs.Moves.{Stays}
use Rattle.player.specs.Calls.{Outcome, Done}
use Rattle.player.proofs.Playing.{stays_refl, stays_trans}
use Rattle.runs.specs.declared.call.Call.{Call}
use Rattle.runs.specs.Session.{ground, fed}
use Rattle.runs.specs.Chain.{Desk, fault, MadeOf, Made, Chain, done, call, Tells}

-- an accepted call leaves the columns, the rows and the first cells
done_ground : {S : Type 0} (store : S → Frames) (L : Library) (D : Drawing) (h : Head) (p : Page) (f : Feed) (a : Answer) (h' : Head) (p' : Page) → Done store L D h p f a h' p' → ground p' ≡ ground p
done_ground store L D h p feed.Step a h' p' d = ap ground d.0
done_ground store L D h p (feed.Jump t) a h' p' d = ap ground d.0
done_ground store L D h p (feed.Goto None) a h' p' d = absurd d
done_ground store L D h p (feed.Goto (Some t)) a h' p' d = ap ground d.0
done_ground store L D h p (feed.Write c i v) a h' p' d = ap ground d.0
done_ground store L D h p feed.TakeBack a h' p' d = ap ground d.0
done_ground store L D h p feed.Begin a h' p' d = ap ground d.1
done_ground store L D h p (feed.Confirm k) a h' p' d = ap ground d.1
done_ground store L D h p (feed.Drop k) a h' p' d = ap ground d.0
done_ground store L D h p (feed.Show b) a h' p' d = ap ground d.1
done_ground store L D h p (feed.Tally i) a h' p' d = ap ground d.1

module _ {L S : Type 0} {l : BlockLibrary.Ghosts L} {s : KeyframeStore.Ghosts S} (library : L → Library) (store : S → Frames) where
  pub made_ground : (o : Option Feed) (c : Call) (d : Desk L S l s) (a : Answer) (d' : Desk L S l s) → MadeOf library store o c d a d' → ground d'.page ≡ ground d.page
  made_ground None c d a d' (e, same) = ap (λ (x : Desk L S l s). ground x.page) same
  made_ground (Some f) c d a d' (does, hand, stays) = go (fault library store d.player d.page f) does
    where
      go : (o : Option Fault) → Outcome o a ((d'.player ≡ d.player) × (d'.page ≡ d.page)) (Done store (library d.player.library) d.player.drawing (head_of store d.player) d.page f a (head_of store d'.player) d'.page) → ground d'.page ≡ ground d.page
      go (Some x) (e, same) = ap ground same.1
      go None did = done_ground store (library d.player.library) d.player.drawing (head_of store d.player) d.page f a (head_of store d'.player) d'.page did

  pub made_stays : (o : Option Feed) (c : Call) (d : Desk L S l s) (a : Answer) (d' : Desk L S l s) → MadeOf library store o c d a d' → Stays d.player d'.player
  made_stays None c d a d' (e, same) = subst (λ (x : Desk L S l s). Stays d.player x.player) (sym same) (stays_refl d.player)
  made_stays (Some f) c d a d' (does, hand, stays) = stays

  pub chain_ground : {marks : MarkTable} {d e : Desk L S l s} {cs : List Call} {rs : List Answer} → Chain library store marks d cs rs e → ground e.page ≡ ground d.page
  chain_ground done = refl
  chain_ground {marks} (call {d = d} {e = e} {c = c} {a = a} made rest) = chain_ground rest ∙ made_ground (fed marks d.hand c) c d a e made

  pub chain_stays : {marks : MarkTable} {d e : Desk L S l s} {cs : List Call} {rs : List Answer} → Chain library store marks d cs rs e → Stays d.player e.player
  chain_stays {d = d} done = stays_refl d.player
  chain_stays {marks} (call {d = d} {e = e} {c = c} {a = a} made rest) = stays_trans (made_stays (fed marks d.hand c) c d a e made) (chain_stays rest)

  pub chain_append : {marks : MarkTable} {d e f : Desk L S l s} {cs more : List Call} {rs later : List Answer} → Chain library store marks d cs rs e → Chain library store marks e more later f → Chain library store marks d (cs ++ more) (rs ++ later) f
  chain_append done on = on
  chain_append (call made rest) on = call made (chain_append rest on)

  pub tells_none : (marks : MarkTable) (d : Desk L S l s) (before : List Answer) → Tells library store marks d [] before before d
  tells_none marks d before = record { told = []; answers = sym (append-nil before); chain = done }

  -- one call more
  pub tells_more : (marks : MarkTable) (d e e' : Desk L S l s) (calls : List Call) (i : ℕ) (u : Call) (before now now' : List Answer) (a : Answer)
      → Tells library store marks d (take i calls) before now e → Made library store marks (get_or calls i u) e a e' → i < length calls → now' ≡ now ++ a ∷ [] → Tells library store marks d (take (i + 1) calls) before now' e'
  tells_more marks d e e' calls i u before now now' a t made inside pushed = record {
    told = t.told ++ a ∷ [];
    answers = pushed ∙ ap (λ l. l ++ a ∷ []) t.answers ∙ append_assoc before t.told (a ∷ []);
    chain = subst (λ cs. Chain library store marks d cs (t.told ++ a ∷ []) e') (sym (take_more calls i u inside)) (chain_append t.chain (call made done));
  }
