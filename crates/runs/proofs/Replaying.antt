-- A run from the opening.
use Rattle.std.proofs.Common.{◌≡◌, ℕ, List, [], Some, None, Option, sym, refl, ap, ◌∙◌, subst, arith}
use Rattle.values.specs.declared.working.Row.{Row}
use Rattle.blocks.specs.declared.library.BlockLibrary as BlockLibrary
use Rattle.blocks.specs.Library.{Library, Sound}
use Rattle.drawing.specs.declared.drawing.Drawing.{Drawing}
use Rattle.keyframes.specs.declared.store.KeyframeStore as KeyframeStore
use Rattle.keyframes.specs.Frames.{Frames}
use Rattle.sheet.specs.declared.slip.Slip.{Slip}
use Rattle.sheet.specs.Page.{Page}
use Rattle.sheet.specs.Rows.{rows_of}
use Rattle.marks.specs.declared.table.MarkTable.{MarkTable}
use Rattle.walk.specs.Cycle.{Solves}
use Rattle.walk.specs.Opening.{blocks_of}
use Rattle.walk.specs.Walk.{Walks, start, Finds}
use Rattle.walk.proofs.Steps.{order_solves, only_found, any_order}
use Rattle.player.specs.declared.player.Player.{Player}
use Rattle.player.specs.declared.answer.Answer.{Answer}
use Rattle.player.specs.Play.{Head, head_of}
use Rattle.player.specs.Walker.{Walker, walked}
use Rattle.player.specs.Law.{Agrees}
use Rattle.player.specs.Opens.{Opens}
use Rattle.runs.specs.declared.call.Call.{Call}
use Rattle.runs.specs.Session.{session, ground, walker_on}
use Rattle.runs.specs.Chain.{Desk, desk, Tells}
use Rattle.runs.specs.Run.{FollowsBy, Runs, Ends, Replays}
use Rattle.runs.proofs.Following.{tells_runs}
use Rattle.runs.proofs.Striking.{kept_new, chain_kept}

none_some : {o : Option Row} {r : Row} → o ≡ None → o ≡ Some r → ⊥
none_some p q = let z : ◌≡◌ {A = ℕ} 0 1 = cc in omega arith

-- what agrees with a walker ends as the walker does
pub ends_of : (L : Library) → Sound L → (D : Drawing) (h : Head) (p g : Page) (w : Walker) → ground p ≡ g → Agrees L D h p w → Ends L D g w h.at h.shown p
ends_of L sound D h p g w same a =
    let found : Finds L (blocks_of D) (rows_of p) h.at h.shown = record { states = h.states; walked = a.states; solved = a.shown } in
    record {
      page = a.page ∙ ap (λ k. walked k w) same;
      playhead = a.at;
      shows = (found, λ others finds. only_found L sound D a.fitting (rows_of p) h.at h.shown others found finds);
      any_order = any_order L sound D a.fitting (rows_of p);
    }

module _ {L S : Type 0} {l : BlockLibrary.Ghosts L} {s : KeyframeStore.Ghosts S} (library : L → Library) (store : S → Frames) (sound : (l : L) → Sound (library l)) where
  -- a player just opened agrees with the walker at cycle 0
  pub opens_agrees : (q q' : Player L S l s) (D : Drawing) (p : Page) → Opens library store q D p q' → Agrees (library q.library) D (head_of store q') p (walker_on p)
  opens_agrees q q' D p o =
      let M = library q.library in
      let fitting = o.openable.fitting in
      record {
        rows = o.rows;
        columns = o.openable.columns;
        fitting = fitting;
        inside = omega (arith, o.at, o.openable.rows);
        page = refl;
        at = o.at;
        states = subst (λ c. Walks M (blocks_of D) (rows_of p) c q'.states.all) (sym o.at) (start o.states);
        shown = subst (λ c. Solves M (blocks_of D) q'.states.all (rows_of p c) q'.shown.all) (sym o.at) (subst (Solves M (blocks_of D) q'.states.all (rows_of p 0)) (sym o.shown) (order_solves M (sound q.library) D fitting q'.states.all (rows_of p 0)));
        frames = λ c row held. absurd (none_some (o.emptied c) held);
      }

  -- what was told in lists that were made longer
  pub lent : (marks : MarkTable) (q : Player L S l s) (p : Page) (hand hand' : List Slip) (calls : List Call) (before before' now : List Answer) (d' : Desk L S l s) → hand' ≡ hand → before' ≡ before
      → Tells library store marks (desk q p hand') calls before' now d' → Tells library store marks (desk q p hand) calls before now d'
  lent marks q p hand hand' calls before before' now d' same-hand same-answers t =
      subst (λ h. Tells library store marks (desk q p h) calls before now d') same-hand (subst (λ b. Tells library store marks (desk q p hand') calls b now d') same-answers t)

  pub replays : (marks : MarkTable) (q q' : Player L S l s) (D : Drawing) (p : Page) (hand : List Slip) (calls : List Call) (before now : List Answer) (d' : Desk L S l s) → Opens library store q D p q'
      → Tells library store marks (desk q' p hand) calls before now d' → Replays library store marks D (desk q p hand) calls before now d'
  replays marks q q' D p hand calls before now d' o t =
      let M = library q.library in
      let runs : Runs library store marks (desk q' p hand) calls before now d' = tells_runs library store sound marks (desk q' p hand) d' calls before now t in
      let follows : FollowsBy store M D (ground p) marks (desk q' p hand) calls runs.tells.told d' =
      subst (λ N. FollowsBy store N D (ground p) marks (desk q' p hand) calls runs.tells.told d') (ap library o.same_library)
      (subst (λ E. FollowsBy store (library q'.library) E (ground p) marks (desk q' p hand) calls runs.tells.told d') o.drawing runs.law) in
      let end = follows (session (walker_on p) hand) (opens_agrees q q' D p o, refl) in
      record {
        opened = q';
        opens = o;
        runs = runs;
        answers = end.1;
        ends = ends_of M (sound q.library) D (head_of store d'.player) d'.page (ground p) _ runs.same_ground end.0.0;
        begins = λ new. ap walker_on new;
        standing = λ new. let kept = chain_kept library store [] (kept_new p new) runs.tells.chain in (kept.place, kept.standing);
        slips = end.0.1;
      }
