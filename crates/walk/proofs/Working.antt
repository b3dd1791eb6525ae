-- Working in an order, one block after the other.
use Rattle.std.proofs.Common.{◌≡◌, ℕ, ◌+◌, ◌<◌, List, length, get_or, drop, set, Some, vec_items, sym, ap, ◌∙◌, subst, arith}
use Rattle.std.specs.List.{slice_get}
use Rattle.std.proofs.lemmas.List.{at_drop_more}
use Rattle.values.specs.declared.scalar.State.{State}
use Rattle.values.specs.declared.scalar.Value.{Value}
use Rattle.values.specs.Values.{idle}
use Rattle.blocks.specs.Library.{Library}
use Rattle.draft.specs.declared.draft.Block.{Block}
use Rattle.drawing.specs.declared.drawing.Drawing.{Drawing}
use Rattle.drawing.proofs.Kept.{kept_block}
use Rattle.drawing.proofs.Members.{in_at}
use Rattle.walk.specs.Cycle.{out_at, worked, shown}
use Rattle.walk.proofs.Places.{lent_at}

-- one block more worked
worked_more : (L : Library) (bs : List Block) (states : List State) (row : List Value) (order : List ℕ) (vs after target : List Value) (i : ℕ) (v : Value) (b : Block) (s : State)
    → i < length order → slice_get bs (get_or order i 0) ≡ Some b → s ≡ get_or states (get_or order i 0) idle → v ≡ out_at L (Some b) s row (shown vs)
    → after ≡ set vs (get_or order i 0) v
    → worked L bs states row (drop i order) vs ≡ target
    → worked L bs states row (drop (i + 1) order) after ≡ target
worked_more L bs states row order vs after target i v b s inside at state value e before =
    let u = get_or order i 0 in
    let F : List ℕ → List Value = λ l. worked L bs states row l vs in
    let out : v ≡ out_at L (slice_get bs u) (get_or states u idle) row (shown vs) = value ∙ ap (λ o. out_at L o s row (shown vs)) (sym at) ∙ ap (λ t. out_at L (slice_get bs u) t row (shown vs)) state in
    ap (worked L bs states row (drop (i + 1) order)) (e ∙ ap (set vs u) out) ∙ sym (at_drop_more F order i 0 inside) ∙ before

-- the same over a drawing whose blocks and order are read through slices
module _ (d : Drawing) (slice : List ℕ) (same : slice ≡ vec_items d.order) (blocks : List Block) (lent : blocks ≡ vec_items d.draft.blocks) (i : ℕ) (inside : i < length slice) where
  pub in_drawing : get_or slice i 0 < length blocks
  in_drawing =
      let k : i < length (vec_items d.order) = subst (λ l. i < length l) same inside in
      let b : get_or (vec_items d.order) i 0 < length (vec_items d.draft.blocks) = kept_block _ _ _ (vec_items d.order) d.sound _ (in_at (vec_items d.order) i k) in
      subst (λ l. get_or l i 0 < length blocks) (sym same) (omega (arith, b, ap length lent))

  pub worked_next : (L : Library) (states : List State) (row vs after target : List Value) (v : Value) (b : Block) (s : State)
      → b ≡ get_or blocks (get_or slice i 0) b → s ≡ get_or states (get_or slice i 0) idle → v ≡ out_at L (Some b) s row (shown vs) → after ≡ set vs (get_or slice i 0) v
      → worked L (vec_items d.draft.blocks) states row (drop i (vec_items d.order)) vs ≡ target
      → worked L (vec_items d.draft.blocks) states row (drop (i + 1) (vec_items d.order)) after ≡ target
  worked_next L states row vs after target v b s is state value e before =
      let bs = vec_items d.draft.blocks in
      let at : slice_get bs (get_or slice i 0) ≡ Some b = lent_at blocks bs (get_or slice i 0) b lent in_drawing is in
      subst (λ l. worked L bs states row (drop (i + 1) l) after ≡ target) same
      (worked_more L bs states row slice vs after target i v b s inside at state value e (subst (λ l. worked L bs states row (drop i l) vs ≡ target) (sym same) before))
