-- The faults of the second and third rounds, each the earliest of all.
use Rattle.std.proofs.Common.{◌≡◌, ℕ, ◌<◌, ◌≤◌, ◌⊎◌, List, [], ◌∷◌, map, length, get_or, Some, None, vec_items, sym, refl, ap, ◌∙◌, subst, inl, inr, ⊎_elim, arith}
use Rattle.std.specs.List.{slice_get}
use Rattle.std.proofs.lemmas.List.{length-map}
use Rattle.std.proofs.lemmas.Option.{slice_get-get_or, slice_get_past}
use Rattle.std.proofs.lemmas.Bool.{cases_lt}
use Rattle.values.specs.declared.scalar.ValueType.{ValueType}
use Rattle.blocks.specs.declared.library.Signature.{Signature}
use Rattle.draft.specs.declared.source.Source.{Source}
use Rattle.draft.specs.declared.source.Source.TheVariants.{Column, Block as Output}
use Rattle.draft.specs.declared.draft.Block.{Block}
use Rattle.drawing.specs.declared.fault.CheckFault.{CheckFault}
use Rattle.drawing.specs.declared.fault.CheckFault.TheVariants.{UnknownKind, InputCount, ParameterCount, ParameterType, Unlawful, SourceAbsent, SourceType, Loop}
use Rattle.blocks.specs.Library.{Library, listed}
use Rattle.drawing.specs.Faults.{turn, Lower, Signs, Absent, Wrong, First}
use Rattle.drawing.specs.Sound.{gives}
use Rattle.drawing.specs.Suits.{Fits, AllFit}
use Rattle.drawing.specs.Tests.{Counted, JoinedBefore, InputFault}
use Rattle.drawing.specs.Members.{In}
use Rattle.drawing.specs.Net.{Wired, Looped, FirstLooped}
use Rattle.drawing.specs.Wiring.{feeders, net}
use Rattle.drawing.proofs.Wiring.{feeder_place, sources_nth}
use Rattle.drawing.proofs.Types.{nth_map, same_nth, output_past}
use Rattle.drawing.proofs.Rounds.{nth_there, nth_in, clean_first, PassBefore}

some_same : {X : Type 0} (xs ys : List X) → map Some xs ≡ map Some ys → xs ≡ ys
some_same [] [] e = refl
some_same [] (y ∷ ys) e = let z : ◌≡◌ {A = ℕ} 0 1 = cc in absurd (omega arith)
some_same (x ∷ xs) [] e = let z : ◌≡◌ {A = ℕ} 0 1 = cc in absurd (omega arith)
some_same {X} (x ∷ xs) (y ∷ ys) e =
    let rest : xs ≡ ys = some_same xs ys cc in
    let first : x ≡ y = cc in
    cc

-- What passed at block c and input j cannot be a fault there.
module _ (f : Library) (cs : List ValueType) (bs : List Block) (ss : List Signature) (fit : AllFit f bs ss) where
  pub signed : (b : ℕ) (k : Block) → slice_get bs b ≡ Some k → (s : Signature) × (slice_get ss b ≡ Some s) × Fits f k s
  signed b k at = let t = nth_there ss b (omega (arith, fit.count, nth_in bs b k at)) in (t.0, t.1, fit.fit b k t.0 at t.1)

  pub counted : Counted bs ss
  counted b k s at is = (fit.fit b k s at is).inputs

  pub signs_all : Signs f bs ss
  signs_all =
      same_nth (map Some ss) (map (λ b. f.signature b.kind) bs) (length-map ss Some ∙ fit.count ∙ sym (length-map bs (λ b. f.signature b.kind)))
      (λ i h.
      let n : length (map Some ss) ≡ length ss = length-map ss Some in
      let k = nth_there bs i (omega (arith, fit.count)) in
      let s = signed i k.0 k.1 in
      nth_map Some ss i s.0 s.1 ∙ ap Some (sym s.2.signs) ∙ sym (nth_map (λ b. f.signature b.kind) bs i k.0 k.1))

  pub passes : PassBefore f bs (length bs)
  passes i k lt at = let t = signed i k at in (t.0, t.2)

  absent_none : (x : Source) → Absent cs bs x → gives cs ss x ≡ None
  absent_none (Column c) h = slice_get_past cs c h
  absent_none (Output b) h = output_past ss b (omega (arith, fit.count))

  none_absent : (x : Source) → gives cs ss x ≡ None → Absent cs bs x
  none_absent (Column c) e =
      ⊎_elim (λ lt. let t = nth_there cs c lt in let there = t.1 in let z : ◌≡◌ {A = ℕ} 0 1 = cc in absurd (omega arith)) (λ ge. ge) (cases_lt c (length cs))
  none_absent (Output b) e =
      ⊎_elim
      (λ lt. let t = nth_there ss b lt in let there = nth_map (λ s. s.output) ss b t.0 t.1 in let z : ◌≡◌ {A = ℕ} 0 1 = cc in absurd (omega arith))
      (λ ge. omega (arith, fit.count)) (cases_lt b (length ss))

  unique : (ts : List Signature) → Signs f bs ts → ts ≡ ss
  unique ts h = some_same ts ss (h ∙ sym signs_all)

  -- input j of block c has the right type
  abbrev Right : ℕ → ℕ → Type 0
  Right c j = (k : Block) (s : Signature) (x : Source) → slice_get bs c ≡ Some k → slice_get ss c ≡ Some s → slice_get
      (vec_items k.sources) j ≡ Some x → gives cs ss x ≡ slice_get (listed s.inputs) j

  no_absent : (c j : ℕ) → Right c j → Wrong f cs bs (SourceAbsent c j) → ⊥
  no_absent c j ok w =
      let s = signed c w.0 w.2 in
      let t = nth_there (listed s.0.inputs) j (omega (arith, s.2.inputs, nth_in (vec_items w.0.sources) j w.1 w.3)) in
      let is = ok w.0 s.0 w.1 w.2 s.1 w.3 in
      let none = absent_none w.1 w.4 in
      let some = t.1 in
      let z : ◌≡◌ {A = ℕ} 0 1 = cc in
      omega arith

  no_mistype : (c j : ℕ) → Right c j → Wrong f cs bs (SourceType c j) → ⊥
  no_mistype c j ok w =
      let s = signed c w.0 w.4.block in
      let same : s.0 ≡ w.1 = let p = s.2.signs in let q = w.4.signs in cc in
      w.7 (subst (λ l. gives cs l w.2 ≡ slice_get (listed w.1.inputs) j) (sym (unique w.3 w.5))
      (subst (λ t. gives cs ss w.2 ≡ slice_get (listed t.inputs) j) same (ok w.0 s.0 w.2 w.4.block s.1 w.6)))

  module _ (e : CheckFault) (h : InputFault cs bs ss e) where
    right_before : (c j : ℕ) → (c < h.block) ⊎ ((c ≡ h.block) × (j < h.fault.input)) → Right c j
    right_before c j o k s x at is src =
        ⊎_elim
        (λ lt. h.before c k s lt at is j x src)
        (λ z.
        let same_k : h.here ≡ k = let p = h.at in let q = sym (ap (slice_get bs) z.0) ∙ at in cc in
        let same_s : h.sign ≡ s = let p = h.signed in let q = sym (ap (slice_get ss) z.0) ∙ is in cc in
        subst (λ t. gives cs ss x ≡ slice_get (listed t.inputs) j) same_s (h.fault.before j x z.1 (ap (λ l. slice_get (vec_items l.sources) j) same_k ∙ src)))
        o

    earlier_absent : (m : ℕ) → (1 < m → gives cs ss h.fault.source ≡ None → ⊥) → (c j : ℕ)
        → Lower (2 ∷ c ∷ j ∷ 1 ∷ []) (2 ∷ h.block ∷ h.fault.input ∷ m ∷ []) → Wrong f cs bs (SourceAbsent c j) → ⊥
    earlier_absent m late c j l w =
        ⊎_elim (λ z. omega arith) (λ z. ⊎_elim
        (λ lt. no_absent c j (right_before c j (inl lt)) w)
        (λ y. ⊎_elim
        (λ lt. no_absent c j (right_before c j (inr (y.0, lt))) w)
        (λ v. ⊎_elim
        (λ lt. late lt
        (let same_k : h.here ≡ w.0 = let p = h.at in let q = sym (ap (slice_get bs) y.0) ∙ w.2 in cc in
        let same-x : h.fault.source ≡ w.1 = let p = h.fault.at in let q = ap
        (λ t. slice_get (vec_items t.sources) h.fault.input) same_k ∙ sym (ap (slice_get (vec_items w.0.sources)) v.0) ∙ w.3 in cc in
        ap (gives cs ss) same-x ∙ absent_none w.1 w.4))
        (λ u. u.1) v.1)
        y.1)
        z.1) l

    earlier_mistype : (m : ℕ) → m ≤ 2 → (c j : ℕ) → Lower (2 ∷ c ∷ j ∷ 2 ∷ []) (2 ∷ h.block ∷ h.fault.input ∷ m ∷ [])
        → Wrong f cs bs (SourceType c j) → ⊥
    earlier_mistype m lo c j l w =
        ⊎_elim (λ z. omega arith) (λ z. ⊎_elim
        (λ lt. no_mistype c j (right_before c j (inl lt)) w)
        (λ y. ⊎_elim
        (λ lt. no_mistype c j (right_before c j (inr (y.0, lt))) w)
        (λ v. ⊎_elim (λ lt. omega arith) (λ u. u.1) v.1)
        y.1)
        z.1) l

    earlier_loop : (m c : ℕ) → Lower (3 ∷ c ∷ 0 ∷ 0 ∷ []) (2 ∷ h.block ∷ h.fault.input ∷ m ∷ []) → ⊥
    earlier_loop m c l = ⊎_elim (λ z. omega arith) (λ z. omega (arith, z.0)) l

    earliest_input : (m : ℕ) → m ≤ 2 → (1 < m → gives cs ss h.fault.source ≡ None → ⊥) → (d : CheckFault)
        → Lower (turn d) (2 ∷ h.block ∷ h.fault.input ∷ m ∷ []) → Wrong f cs bs d → ⊥
    earliest_input m lo late (UnknownKind c) l w = clean_first f cs bs passes (UnknownKind c) (inl (omega arith)) w
    earliest_input m lo late (InputCount c) l w = clean_first f cs bs passes (InputCount c) (inl (omega arith)) w
    earliest_input m lo late (ParameterCount c) l w = clean_first f cs bs passes (ParameterCount c) (inl (omega arith)) w
    earliest_input m lo late (ParameterType c p) l w = clean_first f cs bs passes (ParameterType c p) (inl (omega arith)) w
    earliest_input m lo late (Unlawful c) l w = clean_first f cs bs passes (Unlawful c) (inl (omega arith)) w
    earliest_input m lo late (SourceAbsent c j) l w = earlier_absent m late c j l w
    earliest_input m lo late (SourceType c j) l w = earlier_mistype m lo c j l w
    earliest_input m lo late (Loop c) l w = earlier_loop m c l

    pub first_input : First f cs bs e
    first_input =
        ⊎_elim
        (λ z. subst (First f cs bs) (sym z.0) (record {
          wrong = (h.here, h.fault.source, h.at, h.fault.at, none_absent h.fault.source z.1);
          earliest = earliest_input 1 (omega arith) (λ lt. absurd (omega arith));
        }))
        (λ z. subst (First f cs bs) (sym z.0) (record {
          wrong = (
            h.here,
            h.sign,
            h.fault.source,
            ss,
            record {
              block = h.at;
              signs = (fit.fit h.block h.here h.sign
                  h.at h.signed).signs;
            },
            signs_all,
            h.fault.at,
            z.2,
          );
          earliest = earliest_input 2 (omega arith) (λ _. z.1);
        }))
        h.fault.fault

  -- every input has the right type
  module _ (joined : JoinedBefore cs bs ss (length bs)) where
    right : (c j : ℕ) → Right c j
    right c j k s x at is src = joined c k s (nth_in bs c k at) at is j x src

    clean_second : (d : CheckFault) → Lower (turn d) (3 ∷ []) → Wrong f cs bs d → ⊥
    clean_second (UnknownKind c) l w = clean_first f cs bs passes (UnknownKind c) (inl (omega arith)) w
    clean_second (InputCount c) l w = clean_first f cs bs passes (InputCount c) (inl (omega arith)) w
    clean_second (ParameterCount c) l w = clean_first f cs bs passes (ParameterCount c) (inl (omega arith)) w
    clean_second (ParameterType c p) l w = clean_first f cs bs passes (ParameterType c p) (inl (omega arith)) w
    clean_second (Unlawful c) l w = clean_first f cs bs passes (Unlawful c) (inl (omega arith)) w
    clean_second (SourceAbsent c j) l w = no_absent c j (right c j) w
    clean_second (SourceType c j) l w = no_mistype c j (right c j) w
    clean_second (Loop c) l w = ⊎_elim (λ z. omega arith) (λ z. z.1) l

    looped_here : (v : ℕ) → Wrong f cs bs (Loop v) → Looped (net bs ss) v
    looped_here v w = subst (λ t. Looped (net bs t) v) (unique w.0 w.1) w.2

    module _ (v : ℕ) (h : FirstLooped (net bs ss) v) where
      before_loop : (d : CheckFault) → Lower (turn d) (turn (Loop v)) → Wrong f cs bs d → ⊥
      before_loop (UnknownKind c) l w = clean_second (UnknownKind c) (inl (omega arith)) w
      before_loop (InputCount c) l w = clean_second (InputCount c) (inl (omega arith)) w
      before_loop (ParameterCount c) l w = clean_second (ParameterCount c) (inl (omega arith)) w
      before_loop (ParameterType c p) l w = clean_second (ParameterType c p) (inl (omega arith)) w
      before_loop (Unlawful c) l w = clean_second (Unlawful c) (inl (omega arith)) w
      before_loop (SourceAbsent c j) l w = clean_second (SourceAbsent c j) (inl (omega arith)) w
      before_loop (SourceType c j) l w = clean_second (SourceType c j) (inl (omega arith)) w
      before_loop (Loop c) l w =
          ⊎_elim (λ z. omega arith) (λ z. ⊎_elim (λ lt. h.lowest c lt (looped_here c w)) (λ y. omega (arith, y.1)) z.1) l

      pub first_loop : First f cs bs (Loop v)
      first_loop = record { wrong = (ss, signs_all, h.looped); earliest = before_loop }

    -- block u feeds input i of block v, so it is there
    fed_there : (u v i : ℕ) (k : Block) (s : Signature) → slice_get bs v ≡ Some k → slice_get ss v ≡ Some s
        → slice_get (vec_items k.sources) i ≡ Some (Output u) → length (vec_items k.sources) ≡ length (listed s.inputs)
        → u < length bs
    fed_there u v i k s at is src same =
        let t = nth_there (listed s.inputs) i (omega (arith, nth_in (vec_items k.sources) i (Output u) src)) in
        omega (arith, fit.count, length-map ss (λ s. s.output), nth_in (map (λ s. s.output) ss) u t.0 (right v i k s (Output u) at is src ∙ t.1))

    fed_by : (u v : ℕ) (k : Block) → slice_get bs v ≡ Some k → In u (feeders (vec_items k.sources)) → u < length bs
    fed_by u v k at h = go (feeder_place (vec_items k.sources) u h) (signed v k at)
      where
        go : (i : ℕ) × (i < length (vec_items k.sources)) × ((d : Source) → get_or (vec_items k.sources) i d ≡ Output u)
            → (s : Signature) × (slice_get ss v ≡ Some s) × Fits f k s → u < length bs
        go p s = fed_there u v p.0 k s.0 at s.1 (slice_get-get_or (vec_items k.sources) p.0 (Output u) p.1 ∙ ap Some (p.2 (Output u))) s.2.inputs

    pub wired : Wired (net bs ss)
    wired u v lt h = go (nth_there bs v lt)
      where
        go : (k : Block) × (slice_get bs v ≡ Some k) → u < length bs
        go k = fed_by u v k.0 k.1 (subst (In u) (sources_nth bs ss v k.0 k.1) h)
