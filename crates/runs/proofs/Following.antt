-- A chain of calls follows the walker.
use Rattle.std.proofs.Common.{◌≡◌, ℕ, List, length, Some, None, Option, sym, refl, ap, ◌∙◌, subst}
use Rattle.faults.specs.declared.fault.Fault.{Fault}
use Rattle.blocks.specs.declared.library.BlockLibrary as BlockLibrary
use Rattle.blocks.specs.Library.{Library, Sound}
use Rattle.drawing.specs.declared.drawing.Drawing.{Drawing}
use Rattle.keyframes.specs.declared.store.KeyframeStore as KeyframeStore
use Rattle.keyframes.specs.Frames.{Frames}
use Rattle.sheet.specs.Page.{Page}
use Rattle.marks.specs.declared.table.MarkTable.{MarkTable}
use Rattle.walk.specs.Opening.{blocks_of}
use Rattle.player.specs.declared.answer.Answer.{Answer}
use Rattle.player.specs.Feed.{Feed}
use Rattle.player.specs.Feed as feed
use Rattle.player.specs.Play.{head_of}
use Rattle.player.specs.Walker.{Walker, judge, accepted, unless}
use Rattle.player.specs.Law.{Agrees, Answered}
use Rattle.player.proofs.Agreeing.{judged}
use Rattle.player.proofs.Outcomes.{obeys}
use Rattle.runs.specs.declared.call.Call.{Call}
use Rattle.runs.specs.Session.{Session, ground, fed, fed_with, after, hand_after}
use Rattle.runs.specs.Chain.{Desk, MadeOf, Chain, done, call, Tells}
use Rattle.runs.specs.Run.{AnsweredFed, Agreed, FollowsBy, Follows, Runs}
use Rattle.runs.proofs.Chaining.{made_ground, made_stays, chain_ground, chain_stays, chain_append}

-- the walker judges and answers by the ground of a page alone
judge_ground : (p : Page) (m : ℕ) (w : Walker) (f : Feed) → judge p m w f ≡ judge (ground p) m w f
judge_ground p m w feed.Step = refl
judge_ground p m w (feed.Jump t) = refl
judge_ground p m w (feed.Goto None) = refl
judge_ground p m w (feed.Goto (Some t)) = refl
judge_ground p m w (feed.Write c i v) = refl
judge_ground p m w feed.TakeBack = refl
judge_ground p m w feed.Begin = refl
judge_ground p m w (feed.Confirm k) = refl
judge_ground p m w (feed.Drop k) = refl
judge_ground p m w (feed.Show b) = refl
judge_ground p m w (feed.Tally i) = refl

answered_ground : (L : Library) (D : Drawing) (p : Page) (w : Walker) (f : Feed) (j : Option Fault) (a : Answer) → Answered L D p w f j a → Answered L D (ground p) w f j a
answered_ground L D p w f (Some x) a is = is
answered_ground L D p w feed.Step None a is = is
answered_ground L D p w (feed.Jump t) None a is = is
answered_ground L D p w (feed.Goto t) None a is = is
answered_ground L D p w (feed.Write c i v) None a is = is
answered_ground L D p w feed.TakeBack None a is = is
answered_ground L D p w feed.Begin None a is = is
answered_ground L D p w (feed.Confirm k) None a is = is
answered_ground L D p w (feed.Drop k) None a is = is
answered_ground L D p w (feed.Show b) None a is = is
answered_ground L D p w (feed.Tally i) None a is = is

module _ {L S : Type 0} {l : BlockLibrary.Ghosts L} {s : KeyframeStore.Ghosts S} (library : L → Library) (store : S → Frames) (sound : (l : L) → Sound (library l)) where
  -- one call keeps the agreement
  made_agreed : (d e : Desk L S l s) (c : Call) (a : Answer) (x : Session) (o : Option Feed) → MadeOf library store o c d a e → Agreed store (library d.player.library) d.player.drawing d x
      → Agreed store (library d.player.library) d.player.drawing e (fed_with (ground d.page) (length (blocks_of d.player.drawing)) x c o) × AnsweredFed (library d.player.library) d.player.drawing (ground d.page) x o a
  made_agreed d e c a x None (no_slip, same) agreed = (subst (λ (u : Desk L S l s). Agreed store (library d.player.library) d.player.drawing u x) (sym same) agreed, no_slip)
  made_agreed d e c a x (Some f) (does, hand, stays) (agrees, slips) =
      let M = library d.player.library in
      let D = d.player.drawing in
      let p = d.page in
      let m = length (blocks_of D) in
      let w = x.walker in
      let law = obeys library store d.player (sound d.player.library) p f a e.player e.page does w agrees in
      let j = judge_ground p m w f in
      let same-hand : e.hand ≡ hand_after (judge (ground p) m w f) c (length w.writes) x.hand =
      hand ∙ ap (λ o. hand_after o c (length p.writes) d.hand) (judged agrees f ∙ j)
      ∙ ap (λ (q : Page). hand_after (judge (ground p) m w f) c (length q.writes) d.hand) agrees.page ∙ ap (hand_after (judge (ground p) m w f) c (length w.writes)) slips in (
        (subst (λ o. Agrees M D (head_of store e.player) e.page (unless o w (accepted w f))) j law.0, same-hand),
        answered_ground M D p w f (judge (ground p) m w f) a (subst (λ o. Answered M D p w f o a) j law.1),
      )

  -- a chain obeys the law, from agreement with any walker
  pub chain_follows : {marks : MarkTable} {d d' : Desk L S l s} {cs : List Call} {rs : List Answer} → Chain library store marks d cs rs d' → Follows library store marks d cs rs d'
  chain_follows done x agreed = (agreed, tt)
  chain_follows {marks} {d' = d'} (call {d = d} {e = e} {c = c} {cs = cs} {a = a} {rs = rs} made rest) x agreed =
      let M = library d.player.library in
      let D = d.player.drawing in
      let g = ground d.page in
      let m = length (blocks_of D) in
      let first : Agreed store M D e (after g m marks x c) × AnsweredFed M D g x (fed marks x.hand c) a =
      subst (λ hand. Agreed store M D e (fed_with g m x c (fed marks hand c)) × AnsweredFed M D g x (fed marks hand c) a) agreed.1 (made_agreed d e c a x (fed marks d.hand c) made agreed) in
      let stays = made_stays library store (fed marks d.hand c) c d a e made in
      let on : FollowsBy store M D g marks e cs rs d' =
      subst (λ N. FollowsBy store N D g marks e cs rs d') (ap library stays.library)
      (subst (λ E. FollowsBy store (library e.player.library) E g marks e cs rs d') stays.drawing
      (subst (λ k. FollowsBy store (library e.player.library) e.player.drawing k marks e cs rs d') (made_ground library store (fed marks d.hand c) c d a e made) (chain_follows rest))) in
      let end = on (after g m marks x c) first.0 in
      (end.0, (first.1, end.1))

  pub tells_runs : (marks : MarkTable) (d d' : Desk L S l s) (calls : List Call) (before now : List Answer) → Tells library store marks d calls before now d' → Runs library store marks d calls before now d'
  tells_runs marks d d' calls before now t = record {
    tells = t;
    law = chain_follows t.chain;
    continues = λ c first told chain. let all = chain_append library store chain t.chain in (all, chain_follows all);
    stays = chain_stays library store t.chain;
    same_ground = chain_ground library store t.chain;
  }
