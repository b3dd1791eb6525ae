-- A draft suits the library where the rounds find nothing; and nothing is wrong with a draft that suits it.
use Rattle.std.proofs.Common.{◌≡◌, ℕ, ◌<◌, true, false, ◌⊎◌, List, [], ◌∷◌, map, length, Some, vec_items, sym, refl, ap, ◌∙◌, subst, inl, inr, ⊎_elim, arith}
use borrow.Author.Tests.{both_ways}
use Rattle.std.specs.List.{slice_get}
use Rattle.std.proofs.lemmas.List.{length-map}
use Rattle.std.proofs.lemmas.Option.{slice_get-get_or}
use Rattle.std.proofs.lemmas.Bool.{cases_Bool}
use Rattle.values.specs.Values.{type_of}
use Rattle.values.specs.declared.scalar.ValueType.{ValueType}
use Rattle.blocks.specs.Library.{Library, listed}
use Rattle.blocks.specs.declared.library.Signature.{Signature}
use Rattle.draft.specs.declared.source.Source.{Source}
use Rattle.draft.specs.declared.source.Source.TheVariants.{Column, Block as Output}
use Rattle.draft.specs.declared.draft.Block.{Block}
use Rattle.drawing.specs.declared.fault.CheckFault.{CheckFault}
use Rattle.drawing.specs.declared.fault.CheckFault.TheVariants.{UnknownKind, InputCount, ParameterCount, ParameterType, Unlawful, SourceAbsent, SourceType, Loop}
use Rattle.faults.specs.declared.failure.Failure.{Failure}
use Rattle.faults.specs.declared.failure.Failure.TheVariants.{Fault, NoMemory}
use Rattle.drawing.specs.Accept.{Unsuited}
use Rattle.drawing.specs.Faults.{Signs, Absent, Wrong, Refuses, SuitedIsRight}
use Rattle.drawing.specs.Members.{In}
use Rattle.drawing.specs.Net.{Direct, Chain, OnLoop}
use Rattle.drawing.specs.Net.Chain.{one, more}
use Rattle.drawing.specs.Sound.{gives, Sound}
use Rattle.drawing.specs.Suits.{Fits, Signed, Gives, Feeds, Way, Delaying, Suits, AllFit}
use Rattle.drawing.specs.Suits.Way.{step, onward}
use Rattle.drawing.specs.Tests.{JoinedBefore}
use Rattle.drawing.specs.Wiring.{net}
use Rattle.drawing.proofs.Loops.{arranged}
use Rattle.drawing.proofs.Members.{in_cases, in_here, in_there}
use Rattle.drawing.proofs.Rounds.{nth_in, nth_there}
use Rattle.drawing.proofs.Earliest.{signed}
use Rattle.drawing.proofs.Types.{nth_map}
use Rattle.drawing.proofs.Wiring.{feeder_in, feeder_place, from_nth, sources_nth, delays_nth}

-- Ways along the connections, and chains of the net: a way meets a delaying block, or is a chain.
module _ (bs : List Block) (ss : List Signature) where
  feeds_from : (u v : ℕ) → v < length bs → In u ((net bs ss).sources v) → Feeds bs u v
  feeds_from u v lt h = go (nth_there bs v lt)
    where
      go : (k : Block) × (slice_get bs v ≡ Some k) → Feeds bs u v
      go k =
          let p = feeder_place (vec_items k.0.sources) u (subst (In u) (sources_nth bs ss v k.0 k.1) h) in
          record {
            block = k.0;
            input = p.0;
            here = k.1;
            source = slice_get-get_or (vec_items k.0.sources) p.0 (Output u) p.1 ∙ ap Some (p.2 (Output u));
          }

  feeds_in : (u v : ℕ) → Feeds bs u v → In u ((net bs ss).sources v)
  feeds_in u v f =
      let xs = vec_items f.block.sources in
      subst (In u) (sym (sources_nth bs ss v f.block f.here))
      (feeder_in xs f.input u (Output u) (nth_in xs f.input (Output u) f.source) (from_nth xs f.input (Output u) (Output u) f.source))

  -- a way to v that meets no delaying block is a chain, where it starts at a block that does not delay
  abbrev Passes : ℕ → ℕ → List ℕ → Type 0
  Passes u v ws =
      ((w : ℕ) × In w ws × (w < length bs) × ((net bs ss).delays w ≡ true))
      ⊎ (Direct (net bs ss) v × (Direct (net bs ss) u → Chain (net bs ss) u v))

  passes : {u v : ℕ} {ws : List ℕ} → Way bs u v ws → Passes u v ws
  passes {u = u} {v = v} (step f) =
      let lt = nth_in bs v f.block f.here in
      ⊎_elim
      (λ d. inl (v, in_here v v [] refl, lt, d))
      (λ d. inr ((lt, d), λ from. one (record { start = from; end = (lt, d); feeds = feeds_in u v f })))
      (cases_Bool ((net bs ss).delays v))
  passes {u = u} {v = w} (onward {v = v} {ws = ws} way f) =
      let lt = nth_in bs w f.block f.here in
      ⊎_elim
      (λ d. inl (w, in_here w w ws refl, lt, d))
      (λ d. ⊎_elim
      (λ p. inl (p.0, in_there p.0 w ws p.1, p.2, p.3))
      (λ p. inr ((lt, d), λ from. more (p.1 from) (record { start = p.0; end = (lt, d); feeds = feeds_in v w f })))
      (passes way))
      (cases_Bool ((net bs ss).delays w))

  -- a chain is a way that meets no delaying block
  abbrev Plain : ℕ → ℕ → Type 0
  Plain u v = (ws : List ℕ) × Way bs u v ws × ((w : ℕ) → In w ws → (net bs ss).delays w ≡ false)

  longer : (u v w : ℕ) → (net bs ss).delays w ≡ false → Feeds bs v w → Plain u v → Plain u w
  longer u v w d f p =
      (w ∷ p.0, onward p.1 f, λ x h. ⊎_elim (λ e. subst (λ y. (net bs ss).delays y ≡ false) (sym e) d) (p.2 x) (in_cases x w p.0 h))

  plain : {u v : ℕ} → Chain (net bs ss) u v → Plain u v
  plain {u = u} {v = v} (one l) = (
    v ∷ [],
    step (feeds_from u v l.end.0 l.feeds),
    λ w h. ⊎_elim (λ e. subst (λ x. (net bs ss).delays x ≡ false) (sym e) l.end.1) (λ t. absurd (both_ways _ refl t)) (in_cases w v [] h),
  )
  plain {u = u} {v = w} (more {v = v} c l) = longer u v w l.end.1 (feeds_from v w l.end.0 l.feeds) (plain c)

-- The rounds found nothing.
module _ (L : Library) (cs : List ValueType) (bs : List Block) (ss : List Signature) (fit : AllFit L bs ss) where
  signed_at : (b : ℕ) (k : Block) (s : Signature) → slice_get bs b ≡ Some k → slice_get ss b ≡ Some s → Signed L bs b k s
  signed_at b k s at is = record { block = at; signs = (fit.fit b k s at is).signs }

  gives_there : (x : Source) (t : ValueType) → gives cs ss x ≡ Some t → Gives L cs bs x t
  gives_there (Column c) t h = h
  gives_there (Output u) t h = go (nth_there ss u lt) (nth_there bs u (omega (arith, lt, fit.count)))
    where
      lt : u < length ss
      lt = omega (arith, length-map ss (λ s. s.output), nth_in (map (λ s. s.output) ss) u t h)

      go : (s : Signature) × (slice_get ss u ≡ Some s) → (k : Block) × (slice_get bs u ≡ Some k) → Gives L cs bs (Output u) t
      go s k = (k.0, s.0, signed_at u k.0 s.0 k.1 s.1, let p = nth_map (λ s. s.output) ss u s.0 s.1 in cc)

  delaying : (w : ℕ) → w < length bs → (net bs ss).delays w ≡ true → Delaying L bs w
  delaying w lt d = go (nth_there bs w lt) (nth_there ss w (omega (arith, fit.count)))
    where
      go : (k : Block) × (slice_get bs w ≡ Some k) → (s : Signature) × (slice_get ss w ≡ Some s) → Delaying L bs w
      go k s = (k.0, s.0, signed_at w k.0 s.0 k.1 s.1, sym (delays_nth bs ss w s.0 s.1) ∙ d)

  module _ (joined : JoinedBefore cs bs ss (length bs)) (clear : (v : ℕ) → OnLoop (net bs ss) v → ⊥) where
    source_there : (b i : ℕ) (k : Block) (s : Signature) (x : Source) → slice_get bs b ≡ Some k → slice_get ss b ≡ Some s
        → slice_get (vec_items k.sources) i ≡ Some x → (t : ValueType) × (slice_get (listed s.inputs) i ≡ Some t) × Gives L cs bs x t
    source_there b i k s x at is src =
        let t = nth_there (listed s.inputs) i (omega (arith, (fit.fit b k s at is).inputs, nth_in (vec_items k.sources) i x src)) in
        (t.0, t.1, gives_there x t.0 (joined b k s (nth_in bs b k at) at is i x src ∙ t.1))

    pub suits : Suits L cs bs
    suits = record {
      blocks = λ b k at. let t = signed L cs bs ss fit b k at in (t.0, t.2);
      sources = λ b i k s x h src.
          let t = signed L cs bs ss fit b k h.block in
          let same : t.0 ≡ s = let p = t.2.signs in let q = h.signs in cc in
          source_there b i k s x h.block (t.1 ∙ ap Some same) src;
      chains = λ v ws way.
          ⊎_elim (λ p. (p.0, p.1, delaying p.0 p.2 p.3)) (λ p. absurd (clear v (p.1 p.0))) (passes bs ss way);
    }

-- A draft with a sound plan suits each library that gives its signatures and finds its parameters lawful.
pub suits_kept : (L : Library) (cs : List ValueType) (bs : List Block) (ss : List Signature) (order : List ℕ) → AllFit L bs ss
    → Sound cs bs ss order → Suits L cs bs
suits_kept L cs bs ss order fit h =
    suits L cs bs ss fit (λ b k s lt at is. (h.typed b k s at is).joined) (arranged (net bs ss) order h.placing h.orders.all).unlooped

-- The draft suits the library.
module _ (L : Library) (cs : List ValueType) (bs : List Block) (suited : Suits L cs bs) where
  fits_signed : (b : ℕ) (k : Block) (s : Signature) → Signed L bs b k s → Fits L k s
  fits_signed b k s h =
      let t = suited.blocks b k h.block in
      let same : t.0 ≡ s = let p = t.1.signs in let q = h.signs in cc in
      subst (Fits L k) same t.1

  there : (x : Source) (t : ValueType) → Gives L cs bs x t → Absent cs bs x → ⊥
  there (Column c) t h a = omega (arith, nth_in cs c t h)
  there (Output u) t h a = omega (arith, nth_in bs u h.0 h.2.block)

  module _ (ss : List Signature) (signs : Signs L bs ss) where
    count : length ss ≡ length bs
    count = sym (length-map ss Some) ∙ ap length signs ∙ length-map bs (λ b. L.signature b.kind)

    sign_at : (b : ℕ) (k : Block) (s : Signature) → Signed L bs b k s → slice_get ss b ≡ Some s
    sign_at b k s h =
        let t = nth_there ss b (omega (arith, count, nth_in bs b k h.block)) in
        let is = t.1 in
        let left = nth_map Some ss b t.0 t.1 in
        let right = nth_map (λ b. L.signature b.kind) bs b k h.block in
        let same = ap (λ l. slice_get l b) signs in
        let known = h.signs in
        cc

    gives_type : (x : Source) (t : ValueType) → Gives L cs bs x t → gives cs ss x ≡ Some t
    gives_type (Column c) t h = h
    gives_type (Output u) t h = nth_map (λ s. s.output) ss u h.1 (sign_at u h.0 h.1 h.2) ∙ ap Some h.3

    delays : (w : ℕ) → Delaying L bs w → (net bs ss).delays w ≡ true
    delays w d = delays_nth bs ss w d.1 (sign_at w d.0 d.1 d.2) ∙ d.3

    clear : (v : ℕ) → OnLoop (net bs ss) v → ⊥
    clear v c = go (plain bs ss c)
      where
        go : Plain bs ss v v → ⊥
        go p = let m = suited.chains v p.0 p.1 in both_ways _ (p.2 m.0 m.1) (delays m.0 m.2)

  right : (e : CheckFault) → Wrong L cs bs e → ⊥
  right (UnknownKind b) w =
      let known = (suited.blocks b w.0 w.1).1.signs in
      let unknown = w.2 in
      let z : ◌≡◌ {A = ℕ} 0 1 = cc in
      omega arith
  right (InputCount b) w = w.3 (fits_signed b w.0 w.1 w.2).inputs
  right (ParameterCount b) w = w.3 (sym (length-map (vec_items w.0.params) type_of) ∙ ap length (fits_signed b w.0 w.1 w.2).params)
  right (ParameterType b p) w = w.4 (ap (λ l. slice_get l p) (fits_signed b w.0 w.1 w.2).params)
  right (Unlawful b) w = both_ways _ w.2 (suited.blocks b w.0 w.1).1.lawful
  right (SourceAbsent b i) w =
      let f = suited.blocks b w.0 w.2 in
      let g = suited.sources b i w.0 f.0 w.1 (record { block = w.2; signs = f.1.signs }) w.3 in
      there w.1 g.0 g.2 w.4
  right (SourceType b i) w =
      let g = suited.sources b i w.0 w.1 w.2 w.4 w.6 in
      w.7 (gives_type w.3 w.5 w.2 g.0 g.2 ∙ sym g.1)
  right (Loop b) w = ⊎_elim (clear w.0 w.1 b) (λ z. clear w.0 w.1 z.0 z.1) w.2

pub suited_is_right : SuitedIsRight
suited_is_right = right

pub unsuited : (L : Library) (cs : List ValueType) (bs : List Block) (e : Failure CheckFault) → Refuses L cs bs e → Unsuited L cs bs e
unsuited L cs bs (Fault e) h = λ s. right L cs bs s e h.wrong
unsuited L cs bs NoMemory h = tt
