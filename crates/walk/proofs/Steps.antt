-- A walk, cycle after cycle, as the code reads the drawing and the sheet.
use Rattle.std.proofs.Common.{◌≡◌, ℕ, suc, ◌+◌, List, replicate, vec_items, sym, ap, ◌∙◌, subst, arith}
use Rattle.values.specs.declared.scalar.State.{State}
use Rattle.values.specs.declared.scalar.Value.{Value}
use Rattle.values.specs.declared.packed.Cell.{Cell}
use Rattle.values.specs.Values.{absent}
use Rattle.blocks.specs.Library.{Library, Sound}
use Rattle.drawing.specs.declared.drawing.Drawing.{Drawing}
use Rattle.drawing.proofs.Kept.{kept_count, kept_orders}
use Rattle.walk.specs.Cycle.{Solves, Passes, worked}
use Rattle.walk.specs.Walk.{Walks, pass, Finds, values_in}
use Rattle.walk.specs.Laws.{Playable}
use Rattle.walk.specs.Opening.{fits, blocks_of}
use Rattle.walk.specs.Outcome.{AnyOrder}
use Rattle.walk.proofs.Solution.{work_solves, only_one}
use Rattle.walk.proofs.Uniqueness.{finds_one}

module _ (L : Library) (sound : Sound L) (d : Drawing) (fitting : fits L d) where
  pub playable : Playable L (blocks_of d) (vec_items d.signatures)
  playable = record {
    sound = sound;
    few = omega (arith, d.draft.few_blocks, d.draft.blocks.ok.0);
    count = kept_count _ _ _ _ d.sound;
    fitting = fitting;
  }

  -- the drawing's order solves every cycle
  pub order_solves : (states : List State) (row : List Value) → Solves L (blocks_of d) states row (worked L (blocks_of d) states row (vec_items d.order) (replicate 64 absent))
  order_solves states row = work_solves L _ (vec_items d.signatures) playable states row (vec_items d.order) (kept_orders _ _ _ _ d.sound)

  pub only_found : (rows : ℕ → List Value) (c : ℕ) (vs ws : List Value) → Finds L (blocks_of d) rows c vs → Finds L (blocks_of d) rows c ws → ws ≡ vs
  only_found rows c vs ws a b = finds_one L (blocks_of d) (vec_items d.signatures) playable (vec_items d.order) (kept_orders _ _ _ _ d.sound) rows c ws vs b a

  pub any_order : (rows : ℕ → List Value) → AnyOrder L d rows
  any_order rows order o c states vs _ s = sym (only_one L (blocks_of d) (vec_items d.signatures) playable states (rows c) order o vs s)

  -- a cycle whose row of cells is read from the sheet
  module _ (rows : ℕ → List Value) (row : List Cell) (c : ℕ) (here : values_in row ≡ rows c) (states : List State) where
    abbrev values : List Value → List Value
    values r = worked L (blocks_of d) states r (vec_items d.order) (replicate 64 absent)

    pub walks_on : (after : List State) → Walks L (blocks_of d) rows c states → Passes L (blocks_of d) states (values_in row) (values (values_in row)) after → Walks L (blocks_of d) rows (c + 1) after
    walks_on after walked passed =
        let next : suc c ≡ c + 1 = omega arith in
        subst (λ n. Walks L (blocks_of d) rows n after) next
        (pass walked (order_solves states (rows c)) (subst (λ r. Passes L (blocks_of d) states r (values r) after) here passed))

    pub finds_here : (vs : List Value) → Walks L (blocks_of d) rows c states → vs ≡ values (values_in row) → Finds L (blocks_of d) rows c vs
    finds_here vs walked is = record {
      states = states;
      walked = walked;
      solved = subst (Solves L (blocks_of d) states (rows c)) (sym (is ∙ ap values here)) (order_solves states (rows c));
    }
