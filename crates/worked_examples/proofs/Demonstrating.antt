-- The demonstration's run from the opening to its end.
use Rattle.std.proofs.Common.{[], sym, refl, ap, subst}
use Rattle.blocks.specs.declared.library.BlockLibrary as BlockLibrary
use Rattle.blocks.specs.Library.{Library, Sound}
use Rattle.plant.specs.Plant.{plant}
use Rattle.plant.specs.PlantLaws.{plant_sound}
use Rattle.sheet.specs.Page.{Page}
use Rattle.sheet.specs.Rows.{rows_of}
use Rattle.keyframes.specs.declared.store.KeyframeStore as KeyframeStore
use Rattle.keyframes.specs.Frames.{Frames, Emptied}
use Rattle.walk.specs.Opening.{blocks_of}
use Rattle.walk.specs.Walk.{Walks}
use Rattle.player.specs.Play.{head_of, unpacked}
use Rattle.player.specs.Law.{Agrees}
use Rattle.runs.specs.Chain.{desk}
use Rattle.runs.proofs.Replaying.{opens_agrees}
use Rattle.worked_examples.specs.Demonstration.{sheet, Meant, Demonstrates, OneDemonstrates}
use Rattle.worked_examples.proofs.Keeping.{Takes32}
use Rattle.worked_examples.proofs.Figures.{walker, state_at_32}
use Rattle.worked_examples.proofs.Performing.{At, page_is, performs}

module _ {L S : Type 0} (l : BlockLibrary.Ghosts L) (s : KeyframeStore.Ghosts S) (library : L → Library) (store : S → Frames) where
  pub demonstrates : Meant library store → Demonstrates l s library store
  demonstrates meant D is cells reads q q' o marks hand rs end chain =
      let ready : (k : S) → Emptied (store k) → Takes32 (store k) = λ k none. record { emptied = none; takes = meant.takes k none } in
      let sound : (k : L) → Sound (library k) = λ k. subst Sound (sym (meant.plants k)) plant_sound in
      let at : At library store ready D is cells reads (walker [] 0) (desk q' (sheet cells) hand) = record {
        library_is = meant.plants q'.library;
        drawing_is = o.drawing;
        agrees = subst (λ M. Agrees M D (head_of store q') (sheet cells) (walker [] 0)) (meant.plants q.library) (opens_agrees library store sound q q' D (sheet cells) o);
        ground_is = refl;
      } in
      let new = ready q'.store o.emptied in
      let ran = performs library store ready D is cells reads marks (desk q' (sheet cells) hand) rs at new chain in
      let page = page_is library store ready D is cells reads ran.1.at in
      let kept = ran.1.keeps in
      record {
        answered = ran.0;
        standing = ap (λ (p : Page). p.writes) page;
        row = kept.row;
        held = kept.only;
        delay = state_at_32 D is cells reads (unpacked kept.row) (subst (λ p. Walks plant (blocks_of D) (rows_of p) 32 (unpacked kept.row)) page (ran.1.at.agrees.frames 32 kept.row (kept.only 32)));
      }

pub one_demonstrates : OneDemonstrates
one_demonstrates = demonstrates _ _ _ _ (record { plants = λ _. refl; takes = λ _ _. refl })
