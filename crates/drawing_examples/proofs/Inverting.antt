-- A NOT on itself is a closed chain; through a DELB it is none.
use Rattle.std.proofs.Common.{◌≡◌, ℕ, zero, suc, ◌<◌, false, List, [], ◌∷◌, map, length, vec_items, sym, refl, ap, subst, inl, ⊎_elim, arith}
use borrow.Author.Tests.{both_ways}
use Rattle.std.proofs.lemmas.Bool.{cases_lt}
use Rattle.values.specs.Values.{type_of}
use Rattle.values.specs.declared.scalar.Value.TheVariants as Values
use Rattle.values.specs.declared.scalar.ValueType.TheVariants.{Binary}
use Rattle.blocks.specs.Library.{listed}
use Rattle.blocks.specs.declared.library.Signature.{Signature}
use Rattle.plant.specs.Plant.{plant, signature_of}
use Rattle.plant.specs.declared.kinds.Kind.TheVariants.{Delay, Not}
use Rattle.draft.specs.declared.source.Source.TheVariants.{Block as Output}
use Rattle.draft.specs.declared.draft.Block.{Block}
use Rattle.drawing.specs.Members.{In}
use Rattle.drawing.specs.Net.{Link, FirstLooped, Ready, Placing}
use Rattle.drawing.specs.Net.Chain.{one}
use Rattle.drawing.specs.Sound.{Joined, RightTypes, Sound}
use Rattle.drawing.specs.Suits.{AllFit}
use Rattle.drawing.specs.Tests.{JoinedBefore}
use Rattle.drawing.specs.Wiring.{feeders, net}
use Rattle.drawing.proofs.Loops.{arranged}
use Rattle.drawing.proofs.Members.{in_here, in_there}
use Rattle.drawing.proofs.Pairs.{pairs_at, pairs_fit}
use Rattle.drawing.proofs.Earliest.{first_loop}
use Rattle.drawing.proofs.Sources.{joined_one}
use Rattle.drawing.proofs.Suiting.{suits_kept}
use Rattle.drawing_examples.specs.Inverters.{Is, OnItself, ThroughDelay}
use Rattle.drawing_examples.proofs.Fitting.{fits}

-- a NOT or a DELB, fed by a block that gives binary values
module _ (ss : List Signature) (b : Block) (u : ℕ) (s : Signature) (one_in : listed s.inputs ≡ Binary ∷ []) where
  fed_right : vec_items b.sources ≡ Output u ∷ [] → Joined [] ss (Output u ∷ []) (Binary ∷ [])
      → Joined [] ss (vec_items b.sources) (listed s.inputs)
  fed_right fed h = subst (λ l. Joined [] ss l (listed s.inputs)) (sym fed) (subst (Joined [] ss (Output u ∷ [])) (sym one_in) h)

module _ (inverter : Block) (is : Is inverter 7 [] (Output 0 ∷ [])) where
  abbrev blocks : List Block
  blocks = inverter ∷ []

  abbrev signs : List Signature
  signs = signature_of Not ∷ []

  fit : AllFit plant blocks signs
  fit = pairs_fit plant blocks signs refl (fits inverter 7 [] (Output 0 ∷ []) (signature_of Not) is refl refl refl refl, tt)

  joined : JoinedBefore [] blocks signs 1
  joined b k s lt at has =
      pairs_at (λ k s. Joined [] signs (vec_items k.sources) (listed s.inputs)) blocks signs
      (fed_right signs inverter 0 (signature_of Not) refl is.sources_are (joined_one [] signs (Output 0) Binary refl), tt) b k s at has

  link : Link (net blocks signs) 0 0
  link = record { start = (omega arith, refl); end = (omega arith, refl); feeds = subst (λ l. In 0 (feeders l)) (sym is.sources_are) refl }

  looped : FirstLooped (net blocks signs) 0
  looped = record { looped = inl (one link); lowest = λ u lt. absurd (omega arith) }

pub on_itself : OnItself
on_itself inverter is = (first_loop plant [] (blocks inverter is) (signs inverter is) (fit inverter is) (joined inverter is) 0 (looped inverter is), refl)

module _ (inverter delay : Block) (is : Is inverter 7 [] (Output 1 ∷ [])) (was : Is delay 1 (Values.Binary false ∷ []) (Output 0 ∷ [])) where
  abbrev pair : List Block
  pair = inverter ∷ delay ∷ []

  abbrev both : List Signature
  both = signature_of Not ∷ signature_of (Delay Binary) ∷ []

  fit_both : AllFit plant pair both
  fit_both =
      pairs_fit plant pair both refl (
        fits inverter 7 [] (Output 1 ∷ []) (signature_of Not) is refl refl refl refl,
        (fits delay 1 (Values.Binary false ∷ []) (Output 0 ∷ []) (signature_of (Delay Binary)) was refl refl refl refl, tt),
      )

  inverter_typed : RightTypes [] both inverter (signature_of Not)
  inverter_typed = record {
    inputs = ap length is.sources_are;
    params = ap (map type_of) is.params_are;
    joined = fed_right both inverter 1 (signature_of Not) refl is.sources_are (joined_one [] both (Output 1) Binary refl);
  }

  delay_typed : RightTypes [] both delay (signature_of (Delay Binary))
  delay_typed = record {
    inputs = ap length was.sources_are;
    params = ap (map type_of) was.params_are;
    joined = fed_right both delay 0 (signature_of (Delay Binary)) refl was.sources_are (joined_one [] both (Output 0) Binary refl);
  }

  -- the NOT has to wait for the DELB
  waits : (u : ℕ) → u < 1 → Ready (net pair both) [] u → ⊥
  waits u lt r =
      let here : u ≡ 0 = omega arith in
      both_ways _ refl ((subst (Ready (net pair both) []) here r).allowed refl 1 (subst (λ l. In 1 (feeders l)) (sym is.sources_are) refl))

  pub placing : Placing (net pair both) (1 ∷ 0 ∷ [])
  placing zero h = (record { block = omega arith; fresh = refl; allowed = λ d. absurd (both_ways _ d refl) }, waits)
  placing (suc zero) h = (
    record { block = omega arith; fresh = refl; allowed = λ d u s. subst (λ l. In u (feeders l)) is.sources_are s },
    λ u lt. absurd (omega arith),
  )
  placing (suc (suc i)) h = absurd (omega arith)

  all : (v : ℕ) → v < 2 → In v (1 ∷ 0 ∷ [])
  all v h = ⊎_elim (λ lt. in_there v 1 (0 ∷ []) (in_here v 0 [] (omega arith))) (λ ge. in_here v 1 (0 ∷ []) (omega arith)) (cases_lt v 1)

  sound : Sound [] pair both (1 ∷ 0 ∷ [])
  sound = record {
    count = refl;
    typed = pairs_at (RightTypes [] both) pair both (inverter_typed, (delay_typed, tt));
    orders = (arranged (net pair both) (1 ∷ 0 ∷ []) placing all).orders;
    placing = placing;
  }

pub through_delay : ThroughDelay
through_delay inverter delay is was =
    (suits_kept plant [] _ _ (1 ∷ 0 ∷ []) (fit_both inverter delay is was) (sound inverter delay is was), placing inverter delay is was)
