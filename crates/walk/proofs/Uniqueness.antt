-- A walk has one row of states at each cycle, which depends on the rows below it alone.
use Rattle.std.proofs.Common.{◌≡◌, ℕ, List, get_or, sym, ap, ◌∙◌, subst, arith}
use Rattle.std.specs.List.{slice_get}
use Rattle.std.proofs.lemmas.List.{ext_get_or}
use Rattle.values.specs.declared.scalar.State.{State}
use Rattle.values.specs.declared.scalar.Value.{Value}
use Rattle.values.specs.Values.{idle}
use Rattle.blocks.specs.Library.{Library}
use Rattle.blocks.specs.declared.library.Signature.{Signature}
use Rattle.draft.specs.declared.draft.Block.{Block}
use Rattle.drawing.specs.Net.{Orders}
use Rattle.drawing.specs.Wiring.{net}
use Rattle.walk.specs.Cycle.{Solves, Passes, Begins, next_at, shown}
use Rattle.walk.specs.Walk.{Walks, start, pass, Finds}
use Rattle.walk.specs.Laws.{Playable, OneWalk, Causal}
use Rattle.walk.proofs.Solution.{only_one}

pub causal : Causal
causal L bs rows rows' c same s (start begins) = start begins
causal L bs rows rows' c same s (pass {c = b} {states = states} {values = values} walked solved passed) =
    let e = same b (omega arith) in
    pass (causal L bs rows rows' b (λ i k. same i (omega arith)) states walked) (subst (λ row. Solves L bs states row values) e solved) (subst (λ row. Passes L bs states row values s) e passed)

begins_one : {L : Library} {bs : List Block} {s t : List State} → Begins L bs s → Begins L bs t → s ≡ t
begins_one {L} {bs} {s} {t} a b = ext_get_or idle s t (a.places ∙ sym b.places) (λ i _. a.each i ∙ sym (b.each i))

passes_one : {L : Library} {bs : List Block} {states : List State} {row vs ws : List Value} {s t : List State} → vs ≡ ws → Passes L bs states row vs s → Passes L bs states row ws t → s ≡ t
passes_one {L} {bs} {states} {row} {vs} {ws} {s} {t} e a b = ext_get_or idle s t (a.places ∙ sym b.places) (λ i _. a.each i ∙ ap (λ l. next_at L (slice_get bs i) (get_or states i idle) row (shown l)) e ∙ sym (b.each i))

module _ (L : Library) (bs : List Block) (ss : List Signature) (p : Playable L bs ss) (order : List ℕ) (o : Orders (net bs ss) order) where
  solutions_one : (states : List State) (row vs ws : List Value) → Solves L bs states row vs → Solves L bs states row ws → vs ≡ ws
  solutions_one states row vs ws a b = only_one L bs ss p states row order o vs a ∙ sym (only_one L bs ss p states row order o ws b)

  pub walks_one : (rows : ℕ → List Value) {c : ℕ} {s : List State} → Walks L bs rows c s → {t : List State} → Walks L bs rows c t → s ≡ t
  walks_one rows (start a) (start b) = begins_one a b
  walks_one rows (pass {c = c} {states = s} {values = vs} w a p₁) (pass {states = t} {after = after} {values = ws} w' b p₂) =
      let e = walks_one rows w w' in
      passes_one (solutions_one s (rows c) vs ws a (subst (λ q. Solves L bs q (rows c) ws) (sym e) b)) p₁ (subst (λ q. Passes L bs q (rows c) ws after) (sym e) p₂)

  pub finds_one : (rows : ℕ → List Value) (c : ℕ) (v w : List Value) → Finds L bs rows c v → Finds L bs rows c w → v ≡ w
  finds_one rows c v w a b = solutions_one a.states (rows c) v w a.solved (subst (λ q. Solves L bs q (rows c) w) (sym (walks_one rows a.walked b.walked)) b.solved)

pub one_walk : OneWalk
one_walk L bs ss p order o rows c = (λ s t a b. walks_one L bs ss p order o rows a b, finds_one L bs ss p order o rows c)
