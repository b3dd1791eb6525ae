-- Every net has an order that placing gives, or a first block on a closed chain.
use Rattle.std.proofs.Common.{◌≡◌, ℕ, zero, suc, ◌+◌, ◌<◌, false, ◌⊎◌, List, [], ◌∷◌, ◌++◌, length, inl, inr, ⊎_elim, arith}
use borrow.Author.Tests.{both_ways}
use Rattle.std.proofs.lemmas.List.{length_push}
use Rattle.std.proofs.lemmas.Bool.{cases_Bool, cases_lt}
use Rattle.drawing.specs.Members.{among, In}
use Rattle.drawing.specs.Net.{Net, Wired, Ready, Next, Placing, Stopped, Arranged, FirstLooped}
use Rattle.drawing.proofs.Least.{least}
use Rattle.drawing.proofs.Loops.{arranged, first_looped, placed_few, placing_none, placing_more}
use Rattle.drawing.proofs.Members.{in_or, all_in_or}

module _ (g : Net) where
  ready_or : (placed : List ℕ) (v : ℕ) → (Ready g placed v → ⊥) ⊎ Ready g placed v
  ready_or placed v =
      ⊎_elim
      (λ lt. ⊎_elim
      (λ again. inl (λ r. both_ways _ r.fresh again))
      (λ fresh. ⊎_elim
      (λ d. inr (record { block = lt; fresh = fresh; allowed = λ f. absurd (both_ways _ f d) }))
      (λ d. ⊎_elim
      (λ all. inr (record { block = lt; fresh = fresh; allowed = λ _. all }))
      (λ o. inl (λ r. both_ways _ o.2 (r.allowed d o.0 o.1)))
      (all_in_or (g.sources v) placed))
      (cases_Bool (g.delays v)))
      (in_or v placed))
      (λ ge. inl (λ r. omega (arith, r.block)))
      (cases_lt v g.size)

  next_or : (placed : List ℕ) → Stopped g placed ⊎ ((v : ℕ) × Next g placed v)
  next_or placed =
      ⊎_elim (λ none. inl (λ v r. none v r.block r)) (λ f. inr (f.0, (f.2, f.3)))
      (least (λ v. Ready g placed v → ⊥) (Ready g placed) (ready_or placed) g.size)

  place : (k : ℕ) (order : List ℕ) → Placing g order → g.size < k + length order → (o : List ℕ) × Placing g o × Stopped g o
  place zero order p long = absurd (omega (arith, placed_few g order p))
  place (suc k) order p long =
      ⊎_elim (λ stop. (order, p, stop)) (λ n. place k (order ++ n.0 ∷ []) (placing_more g order n.0 p n.1) (omega (arith, length_push order n.0)))
      (next_or order)

  pub arranged_or : Wired g → ((o : List ℕ) × Arranged g o) ⊎ ((v : ℕ) × FirstLooped g v)
  arranged_or wires = go (place (suc g.size) [] (placing_none g) (omega arith))
    where
      go : (o : List ℕ) × Placing g o × Stopped g o → ((o : List ℕ) × Arranged g o) ⊎ ((v : ℕ) × FirstLooped g v)
      go o =
          ⊎_elim (λ all. inl (o.0, arranged g o.0 o.1 all)) (λ f. inr (f.0, first_looped g o.0 o.1 wires o.2 f.0 (f.1, f.2) f.3))
          (least (λ v. In v o.0) (λ v. among v o.0 ≡ false) (λ v. in_or v o.0) g.size)
