-- A cycle of a drawing has one solution, and working in an order that respects the connections finds it.
use Rattle.std.proofs.Common.{◌≡◌, ℕ, ◌<◌, ◌≤◌, Bool, true, false, cond, eqb, List, [], ◌∷◌, map, length, get_or, set, replicate, Some, None, vec_items, Option, sym, refl, ap, ◌∙◌, subst, ⊎_elim, arith, length-set}
use mathlib.Core.Path.{fun_ext}
use Rattle.std.specs.List.{slice_get}
use Rattle.std.proofs.lemmas.List.{get_or-set_same, get_or-set_other, ext_get_or, length-replicate}
use Rattle.std.proofs.lemmas.Bool.{cases_lt, eqb-true, eqb-false}
use Rattle.values.specs.declared.scalar.State.{State}
use Rattle.values.specs.declared.scalar.Value.{Value}
use Rattle.values.specs.Values.{absent, idle}
use Rattle.blocks.specs.Library.{Library, delays}
use Rattle.blocks.specs.declared.library.Signature.{Signature}
use Rattle.draft.specs.declared.source.Source.{Source}
use Rattle.draft.specs.declared.source.Source.TheVariants.{Column, Block as Output}
use Rattle.draft.specs.declared.draft.Block.{Block}
use Rattle.drawing.specs.Members.{In}
use Rattle.drawing.specs.Net.{Orders}
use Rattle.drawing.specs.Wiring.{feeders, net}
use Rattle.drawing.specs.Cycle.{Rules, worked as workedBy}
use Rattle.drawing.proofs.Members.{in_here, in_there}
use Rattle.drawing.proofs.Rounds.{nth_there, nth_in}
use Rattle.drawing.proofs.Wiring.{sources_nth, delays_nth}
use Rattle.drawing.proofs.Solution.{one_solution}
use Rattle.walk.specs.Cycle.{read, shown, inputs_of, out_at, worked, Solves}
use Rattle.walk.specs.Laws.{Playable, OneSolution}
use Rattle.walk.proofs.Filled.{replicated}
use Rattle.walk.proofs.Places.{out_past}

-- what sources give depends on the blocks among them alone
reads_same : (row : List Value) (x y : ℕ → Value) (sources : List Source) → ((u : ℕ) → In u (feeders sources) → x u ≡ y u) → map (read row x) sources ≡ map (read row y) sources
reads_same row x y [] h = refl
reads_same row x y (Column c ∷ sources) h = ap (λ l. get_or row c absent ∷ l) (reads_same row x y sources h)
reads_same row x y (Output b ∷ sources) h =
    ap (λ v. v ∷ map (read row x) sources) (h b (in_here b b (feeders sources) refl))
    ∙ ap (λ l. y b ∷ l) (reads_same row x y sources (λ u k. h u (in_there u b (feeders sources) k)))

module _ (L : Library) (bs : List Block) (ss : List Signature) (p : Playable L bs ss) (states : List State) (row : List Value) where
  rule : ℕ → (ℕ → Value) → Value
  rule v x = out_at L (slice_get bs v) (get_or states v idle) row x

  sees : (v : ℕ) (x y : ℕ → Value) → ((u : ℕ) → In u ((net bs ss).sources v) → x u ≡ y u) → rule v x ≡ rule v y
  unfolding rule out_at
  sees v x y h = go (slice_get bs v) refl
    where
      go : (o : Option Block) → slice_get bs v ≡ o → out_at L o (get_or states v idle) row x ≡ out_at L o (get_or states v idle) row y
      go None e = refl
      go (Some b) e = ap (L.out b.kind (vec_items b.params) (get_or states v idle)) (reads_same row x y (vec_items b.sources) (λ u k. h u (subst (In u) (sym (sources_nth bs ss v b e)) k)))

  delayed : (v : ℕ) (x y : ℕ → Value) → (net bs ss).delays v ≡ true → rule v x ≡ rule v y
  unfolding rule out_at
  delayed v x y d = go (slice_get bs v) refl
    where
      go : (o : Option Block) → slice_get bs v ≡ o → out_at L o (get_or states v idle) row x ≡ out_at L o (get_or states v idle) row y
      go None e = refl
      go (Some b) e =
          let s = nth_there ss v (omega (arith, p.count, nth_in bs v b e)) in
          let signs : L.signature b.kind ≡ Some s.0 = p.fitting.signs v b s.0 e s.1 in
          (p.sound.each b.kind).delayed (vec_items b.params) (get_or states v idle) (inputs_of b row x) (inputs_of b row y) (ap delays signs ∙ sym (delays_nth bs ss v s.0 s.1) ∙ d)

  rules : Rules (net bs ss) Value
  rules = record { value = rule; sees = sees; delayed = delayed }

  -- a value set in a list, as a function of the place
  set_shown : (vs : List Value) (v : ℕ) (a : Value) → v < length vs → shown (set vs v a) ≡ (λ u. cond (eqb u v) a (shown vs u))
  set_shown vs v a inside = fun_ext (λ u. at u (eqb u v) refl)
    where
      at : (u : ℕ) (t : Bool) → eqb u v ≡ t → get_or (set vs v a) u absent ≡ cond t a (get_or vs u absent)
      at u true e = ap (λ w. get_or (set vs v a) w absent) (eqb-true u v e) ∙ get_or-set_same vs v a absent inside
      at u false e = get_or-set_other vs v u a absent (eqb-false u v e)

  worked_length : (order : List ℕ) (vs : List Value) → length (worked L bs states row order vs) ≡ length vs
  worked_length [] vs = refl
  worked_length (v ∷ order) vs = worked_length order _ ∙ length-set vs v _

  -- working on a list is working on the function of its places
  worked_shown : (order : List ℕ) (vs : List Value) → ((v : ℕ) → In v order → v < length vs) → shown (worked L bs states row order vs) ≡ workedBy rule order (shown vs)
  unfolding rule
  worked_shown [] vs h = refl
  worked_shown (v ∷ order) vs h =
      let a = out_at L (slice_get bs v) (get_or states v idle) row (shown vs) in
      worked_shown order (set vs v a) (λ u k. omega (arith, length-set vs v a, h u (in_there u v order k)))
      ∙ ap (workedBy rule order) (set_shown vs v a (h v (in_here v v order refl)))

  -- a place that is not in the order keeps its value
  untouched : (order : List ℕ) (vs : List Value) (u : ℕ) → (In u order → ⊥) → get_or (worked L bs states row order vs) u absent ≡ get_or vs u absent
  untouched [] vs u out = refl
  untouched (v ∷ order) vs u out = untouched order _ u (λ k. out (in_there u v order k)) ∙ get_or-set_other vs v u _ absent (λ e. out (in_here u v order e))

  module _ (order : List ℕ) (o : Orders (net bs ss) order) where
    empty : List Value
    empty = replicate 64 absent

    result : List Value
    result = worked L bs states row order (replicate 64 absent)

    as_function : shown (worked L bs states row order (replicate 64 absent)) ≡ workedBy rule order (shown (replicate 64 absent))
    as_function = worked_shown order (replicate 64 absent) (λ v k. omega (arith, o.blocks v k, p.few, length-replicate 64 absent))

    past : (i : ℕ) → length bs ≤ i → get_or (worked L bs states row order (replicate 64 absent)) i absent ≡ absent
    past i h = untouched order (replicate 64 absent) i (λ k. omega (arith, o.blocks i k)) ∙ replicated 64 i absent

    pub work_solves : Solves L bs states row (worked L bs states row order (replicate 64 absent))
    unfolding rule rules
    work_solves = record {
      each = λ i. ⊎_elim
          (λ inside. ap (λ f. f i) as_function ∙ (one_solution Value (net bs ss) order o rules (shown (replicate 64 absent))).0 i inside ∙ ap (λ f. rule i f) (sym as_function))
          (λ ge. past i ge ∙ sym (out_past L bs i ge _ _ _))
          (cases_lt i (length bs));
      places = worked_length order (replicate 64 absent) ∙ length-replicate 64 absent;
    }

    pub only_one : (vs : List Value) → Solves L bs states row vs → vs ≡ worked L bs states row order (replicate 64 absent)
    unfolding rule rules
    only_one vs s = ext_get_or absent vs _ (s.places ∙ sym work_solves.places) (λ i _. ⊎_elim
        (λ inside. (one_solution Value (net bs ss) order o rules (shown (replicate 64 absent))).1 (shown vs) (λ v k. s.each v) i inside ∙ sym (ap (λ f. f i) as_function))
        (λ ge. s.each i ∙ out_past L bs i ge _ _ _ ∙ sym (past i ge))
        (cases_lt i (length bs)))

pub one_cycle : OneSolution
one_cycle L bs ss p order o states row = (work_solves L bs ss p states row order o, only_one L bs ss p states row order o)
