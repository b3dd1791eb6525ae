-- Laws of `feeders` and `net`.
use Rattle.std.proofs.Common.{◌≡◌, ℕ, zero, suc, ◌<◌, Bool, true, false, List, [], ◌∷◌, map, length, get_or, Some, vec_items, Decides, sym, refl, ap, ◌∙◌, subst, ⊎_elim, arith}
use borrow.Author.Tests.{both_ways}
use Rattle.std.specs.List.{AllWithin, ContainsAt as Has, HoldsAt, slice_get}
use Rattle.std.specs.Bool.{MatchBool}
use Rattle.drawing.proofs.Types.{nth_map}
pub use Rattle.std.proofs.lemmas.Option.{get_or_from_slice_get as from_nth}
use Rattle.std.proofs.lemmas.Bool.Decides.{same_from_decides}
use Rattle.std.proofs.lemmas.List.{get_or_default, get_or-map}
use Rattle.draft.specs.declared.source.Source.{Source}
use Rattle.draft.specs.declared.source.Source.TheVariants.{Column, Block as Output}
use Rattle.drawing.specs.Members.{among, In}
use Rattle.draft.specs.declared.draft.Block.{Block}
use Rattle.blocks.specs.declared.library.Signature.{Signature}
use Rattle.drawing.specs.Net.{Ready}
use Rattle.drawing.specs.Wiring.{feeders, net}
use Rattle.drawing.proofs.Members.{in_cases, in_here, in_there, in_at, in_place}

pub among_contains : (xs : List ℕ) (x : ℕ) (r : Bool) → Decides r (Has xs x) → r ≡ among x xs
among_contains xs x r h =
    same_from_decides r (among x xs) h
    (λ t. let p = in_place x xs t in (p.0, p.1, λ d. get_or_default xs p.0 d 0 p.1 ∙ p.2), λ k. subst (λ y. In y xs) (k.2 0) (in_at xs k.0 k.1))

pub feeder_in : (ss : List Source) (i u : ℕ) (d : Source) → i < length ss → get_or ss i d ≡ Output u → In u (feeders ss)
feeder_in [] i u d h e = absurd (omega arith)
feeder_in (Column c ∷ ss) zero u d h e = let z : ◌≡◌ {A = ℕ} 0 1 = cc in absurd (omega arith)
feeder_in (Column c ∷ ss) (suc i) u d h e = feeder_in ss i u d (omega arith) e
feeder_in (Output b ∷ ss) zero u d h e = let z : u ≡ b = cc in in_here u b (feeders ss) z
feeder_in (Output b ∷ ss) (suc i) u d h e = in_there u b (feeders ss) (feeder_in ss i u d (omega arith) e)

pub feeder_place : (ss : List Source) (u : ℕ) → In u (feeders ss) → (i : ℕ) × (i < length ss) × ((d : Source) → get_or ss i d ≡ Output u)
feeder_place [] u h = absurd (both_ways _ refl h)
feeder_place (Column c ∷ ss) u h = let p = feeder_place ss u h in (suc p.0, omega (arith, p.1), p.2)
feeder_place (Output b ∷ ss) u h =
    ⊎_elim (λ e. (0, omega arith, λ d. ap Output (sym e))) (λ t. let p = feeder_place ss u t in
    (suc p.0, omega (arith, p.1), p.2)) (in_cases u b (feeders ss) h)

-- a source that is no block, or one in the order
abbrev pub Placed : List ℕ → Source → Type 0
Placed order (Column c) = Unit {0}
Placed order (Output u) = In u order

-- a source that is a block not in the order
abbrev pub Missing : List ℕ → Source → Type 0
Missing order (Column c) = ⊥
Missing order (Output u) = among u order ≡ false

missing_source : (order : List ℕ) (ss : List Source) (k : ℕ) (x : Source) → k < length ss → get_or ss k (Column 0) ≡ x → Missing order x
    → ((u : ℕ) → In u (feeders ss) → In u order) → ⊥
missing_source order ss k (Column c) lt e h all = h
missing_source order ss k (Output u) lt e h all = both_ways _ h (all u (feeder_in ss k u (Column 0) lt e))

pub all_sources : (order : List ℕ) (ss : List Source) (r : Bool)
    → MatchBool r (AllWithin (Placed order) ss 0 (length ss)) ((k : ℕ) × (k < length ss) × HoldsAt (Missing order) ss k)
    → Decides r ((u : ℕ) → In u (feeders ss) → In u order)
all_sources order ss true h = (
  λ _ u m. let p = feeder_place ss u m in subst (Placed order) (p.2 (Column 0)) (h p.0 (Column 0) (omega arith) p.1),
  λ _. refl,
)
all_sources order ss false h = (
  λ e. absurd (both_ways _ refl e),
  λ all. absurd (missing_source order ss h.0 _ h.1 refl (h.2 (Column 0)) all),
)

module _ (bs : List Block) (ss : List Signature) (v : ℕ) where
  pub sources_at : (b : Block) → v < length bs → (net bs ss).sources v ≡ feeders (vec_items (get_or bs v b).sources)
  sources_at b h = get_or-map (λ b. feeders (vec_items b.sources)) bs v b [] h

  pub sources_nth : (b : Block) → slice_get bs v ≡ Some b → (net bs ss).sources v ≡ feeders (vec_items b.sources)
  sources_nth b e = from_nth (map (λ b. feeders (vec_items b.sources)) bs) v (feeders (vec_items b.sources)) []
      (nth_map (λ b. feeders (vec_items b.sources)) bs v b e)

module _ (bs : List Block) (ss : List Signature) (v : ℕ) where
  pub delays_nth : (s : Signature) → slice_get ss v ≡ Some s → (net bs ss).delays v ≡ s.delaying
  delays_nth s e = from_nth (map (λ s. s.delaying) ss) v s.delaying false (nth_map (λ s. s.delaying) ss v s e)

  pub delays_at : (s : Signature) → v < length ss → (net bs ss).delays v ≡ (get_or ss v s).delaying
  delays_at s h = get_or-map (λ s. s.delaying) ss v s false h

  -- whether block v can be placed, from the test of its signature and its sources
  pub ready_decides : (order : List ℕ) → v < length bs → length ss ≡ length bs → among v order ≡ false
      → (b : Block) (s : Signature) (xs : List Source) → xs ≡ vec_items (get_or bs v b).sources → (r : Bool)
      → Decides r ((get_or ss v s).delaying ≡ false → (u : ℕ) → In u (feeders xs) → In u order)
      → Decides r (Ready (net bs ss) order v)
  ready_decides order lt same fresh b s xs e r h =
      let at : (net bs ss).sources v ≡ feeders xs = sources_at bs ss v b lt ∙ ap feeders (sym e) in
      let is : (net bs ss).delays v ≡ (get_or ss v s).delaying = delays_at s (omega arith) in (
        λ t. record { block = lt; fresh = fresh; allowed = λ f u k. h.0 t (sym is ∙ f) u (subst (In u) at k) },
        λ k. h.1 (λ f u m. k.allowed (is ∙ f) u (subst (In u) (sym at) m)),
      )
