-- Every draft suits the library, or has a first fault: each test decides, and of those that fail one is the first.
use Rattle.std.proofs.Common.{◌≡◌, ℕ, suc, ◌<◌, ◌⊎◌, List, [], ◌∷◌, map, length, Some, vec_items, refl, ap, subst, subst₂, inl, inr, ⊎_elim, arith}
use Rattle.std.specs.List.{slice_get}
use Rattle.std.proofs.lemmas.Bool.{cases_Bool, cases_eq}
use Rattle.values.specs.Values.{type_of}
use Rattle.values.specs.declared.scalar.ValueType.{ValueType}
use Rattle.blocks.specs.Library.{Library, listed}
use Rattle.blocks.specs.declared.library.Signature.{Signature}
use Rattle.draft.specs.declared.source.Source.{Source}
use Rattle.draft.specs.declared.draft.Block.{Block}
use Rattle.drawing.specs.declared.fault.CheckFault.{CheckFault}
use Rattle.drawing.specs.declared.fault.CheckFault.TheVariants.{UnknownKind, InputCount, ParameterCount, ParameterType, Unlawful, SourceAbsent, SourceType, Loop}
use Rattle.drawing.specs.Faults.{First, SuitsOrFirst}
use Rattle.drawing.specs.Sound.{gives, Joined}
use Rattle.drawing.specs.Suits.{Fits, Suits, AllFit}
use Rattle.drawing.specs.Tests.{BlockFault, SourceFault, JoinedBefore}
use Rattle.drawing.specs.Wiring.{net}
use Rattle.drawing.proofs.Arranging.{arranged_or}
use Rattle.drawing.proofs.Least.{least, some_or, none_some}
use Rattle.drawing.proofs.Pairs.{Pairs, pairs_fit}
use Rattle.drawing.proofs.Rounds.{nth_in, first_at}
use Rattle.drawing.proofs.Earliest.{first_input, first_loop, wired}
use Rattle.drawing.proofs.Suiting.{suits}
use Rattle.drawing.proofs.Types.{all_agree, same_or}

-- the first round
module _ (L : Library) (b : ℕ) (k : Block) where
  abbrev Judged : Type 0
  Judged = ((s : Signature) × Fits L k s) ⊎ ((e : CheckFault) × BlockFault L b k e)

  module _ (s : Signature) (known : L.signature k.kind ≡ Some s) (inputs : length (vec_items k.sources) ≡ length (listed s.inputs)) where
    judge_law : map type_of (vec_items k.params) ≡ listed s.params
        → length (vec_items k.params) ≡ length (listed s.params) → Judged
    judge_law params count =
        ⊎_elim
        (λ t. inl (s, record { signs = known; inputs = inputs; params = params; lawful = t }))
        (λ f. inr (
          Unlawful b,
          (
            refl,
            s,
            record {
              known = λ _. known;
              inputs = λ _. inputs;
              count = λ _. count;
              agree = λ q _ _. ap (λ l. slice_get l q) params;
              lawful = λ h. absurd (omega arith);
            },
            f,
          ),
        ))
        (cases_Bool (L.lawful k.kind (vec_items k.params)))

    judge_types : length (vec_items k.params) ≡ length (listed s.params) → Judged
    judge_types count =
        ⊎_elim
        (λ all. judge_law (all_agree (vec_items k.params) (listed s.params) count all) count)
        (λ f. inr (
          ParameterType b f.0,
          (
            refl,
            s,
            record {
              known = λ _. known;
              inputs = λ _. inputs;
              count = λ _. count;
              agree = λ q _ h. f.3 q (h refl);
              lawful = λ h. absurd (omega arith);
            },
            f.1,
            f.2,
          ),
        ))
        (least (λ q. slice_get (map type_of (vec_items k.params)) q ≡ slice_get (listed s.params) q)
        (λ q. slice_get (map type_of (vec_items k.params)) q ≡ slice_get (listed s.params) q → ⊥)
        (λ q. same_or (slice_get (map type_of (vec_items k.params)) q) (slice_get (listed s.params) q)) (length (vec_items k.params)))

    judge_count : Judged
    judge_count =
        ⊎_elim judge_types
        (λ ne. inr (
          ParameterCount b,
          (
            refl,
            s,
            record {
              known = λ _. known;
              inputs = λ _. inputs;
              count = λ h. absurd (omega arith);
              agree = λ q h. absurd (omega arith);
              lawful = λ h. absurd (omega arith);
            },
            ne,
          ),
        ))
        (cases_eq (length (vec_items k.params)) (length (listed s.params)))

  judge_inputs : (s : Signature) → L.signature k.kind ≡ Some s → Judged
  judge_inputs s known =
      ⊎_elim (judge_count s known)
      (λ ne. inr (
        InputCount b,
        (
          refl,
          s,
          record {
            known = λ _. known;
            inputs = λ h. absurd (omega arith);
            count = λ h. absurd (omega arith);
            agree = λ q h. absurd (omega arith);
            lawful = λ h. absurd (omega arith);
          },
          ne,
        ),
      ))
      (cases_eq (length (vec_items k.sources)) (length (listed s.inputs)))

  judged : Judged
  judged = ⊎_elim (λ unknown. inr (UnknownKind b, (refl, unknown))) (λ s. judge_inputs s.0 s.1) (some_or (L.signature k.kind))

-- the signatures of blocks that all fit
sign_list : (L : Library) (bs : List Block) → ((i : ℕ) (k : Block) → slice_get bs i ≡ Some k → (s : Signature) × Fits L k s)
    → (ss : List Signature) × (length ss ≡ length bs) × Pairs (Fits L) bs ss
sign_list L [] h = ([], refl, tt)
sign_list L (k ∷ bs) h =
    let f = h 0 k refl in
    let r = sign_list L bs (λ i l at. h (suc i) l at) in
    (f.0 ∷ r.0, ap suc r.1, (f.1, r.2))

-- the second round
module _ (cs : List ValueType) (ss : List Signature) (b : ℕ) (xs : List Source) (ts : List ValueType) where
  abbrev Right : ℕ → Type 0
  Right i = (x : Source) → slice_get xs i ≡ Some x → gives cs ss x ≡ slice_get ts i

  abbrev Ill : ℕ → Type 0
  Ill i = (x : Source) × (slice_get xs i ≡ Some x) × (gives cs ss x ≡ slice_get ts i → ⊥)

  right_or : (i : ℕ) → Right i ⊎ Ill i
  right_or i =
      ⊎_elim
      (λ none. inl (λ x at. none_some (slice_get xs i) x none at))
      (λ x. ⊎_elim
      (λ same. inl (λ y at. let found = x.1 in let e : x.0 ≡ y = cc in subst (λ z. gives cs ss z ≡ slice_get ts i) e same))
      (λ ne. inr (x.0, x.1, ne))
      (same_or (gives cs ss x.0) (slice_get ts i)))
      (some_or (slice_get xs i))

  source_fault : (i : ℕ) → Ill i → ((j : ℕ) → j < i → Right j) → (e : CheckFault) × SourceFault cs ss b xs ts e
  source_fault i x before =
      ⊎_elim
      (λ none. (SourceAbsent b i, record { input = i; source = x.0; at = x.1; before = λ j y lt at. before j lt y at; fault = inl (refl, none) }))
      (λ t. (
        SourceType b i,
        record {
          input = i;
          source = x.0;
          at = x.1;
          before = λ j y lt at. before j lt y at;
          fault = inr (refl, λ none. none_some (gives cs ss x.0) t.0 none t.1, x.2);
        },
      ))
      (some_or (gives cs ss x.0))

  joined_or : Joined cs ss xs ts ⊎ ((e : CheckFault) × SourceFault cs ss b xs ts e)
  joined_or =
      ⊎_elim (λ all. inl (λ i x at. all i (nth_in xs i x at) x at)) (λ f. inr (source_fault f.0 f.2 f.3))
      (least Right Ill right_or (length xs))

-- the three rounds together
module _ (L : Library) (cs : List ValueType) (bs : List Block) where
  abbrev Answer : Type 0
  Answer = Suits L cs bs ⊎ ((e : CheckFault) × First L cs bs e)

  module _ (ss : List Signature) (fit : AllFit L bs ss) where
    round_3 : JoinedBefore cs bs ss (length bs) → Answer
    round_3 joined =
        ⊎_elim (λ o. inl (suits L cs bs ss fit joined o.1.unlooped)) (λ v. inr (Loop v.0, first_loop L cs bs ss fit joined v.0 v.1))
        (arranged_or (net bs ss) (wired L cs bs ss fit joined))

    abbrev Meets : ℕ → Type 0
    Meets b = (k : Block) (s : Signature) → slice_get bs b ≡ Some k → slice_get ss b ≡ Some s → Joined cs ss (vec_items k.sources) (listed s.inputs)

    abbrev Misses : ℕ → Type 0
    Misses b = (k : Block) × (s : Signature) × (slice_get bs b ≡ Some k) × (slice_get ss b ≡ Some s) × (e : CheckFault) × SourceFault cs ss b
        (vec_items k.sources) (listed s.inputs) e

    meets_at : (b : ℕ) (k : Block) (s : Signature) → slice_get bs b ≡ Some k → slice_get ss b ≡ Some s → Meets b ⊎ Misses b
    meets_at b k s at is =
        ⊎_elim
        (λ ok. inl (λ l t at' is'. let same_k : k ≡ l = cc in let same_s : s ≡ t = cc in subst₂
        (λ l t. Joined cs ss (vec_items l.sources) (listed t.inputs)) same_k same_s ok))
        (λ f. inr (k, s, at, is, f.0, f.1))
        (joined_or cs ss b (vec_items k.sources) (listed s.inputs))

    meets_or : (b : ℕ) → Meets b ⊎ Misses b
    meets_or b =
        ⊎_elim
        (λ none. inl (λ k s at is. none_some (slice_get bs b) k none at))
        (λ k. ⊎_elim
        (λ none. inl (λ l s at is. none_some (slice_get ss b) s none is))
        (λ s. meets_at b k.0 s.0 k.1 s.1)
        (some_or (slice_get ss b)))
        (some_or (slice_get bs b))

    round_2 : Answer
    round_2 =
        ⊎_elim
        (λ all. round_3 (λ b k s lt at is. all b lt k s at is))
        (λ f. inr (
          f.2.4,
          first_input L cs bs ss fit f.2.4 (record {
            block = f.0;
            here = f.2.0;
            sign = f.2.1;
            at = f.2.2;
            signed = f.2.3;
            before = λ b k s lt at is. f.3 b lt k s at is;
            fault = f.2.5;
          }),
        ))
        (least Meets Misses meets_or (length bs))

  abbrev Good : ℕ → Type 0
  Good b = (k : Block) → slice_get bs b ≡ Some k → (s : Signature) × Fits L k s

  abbrev Bad : ℕ → Type 0
  Bad b = (k : Block) × (slice_get bs b ≡ Some k) × (e : CheckFault) × BlockFault L b k e

  good_or : (b : ℕ) → Good b ⊎ Bad b
  good_or b =
      ⊎_elim
      (λ none. inl (λ k at. none_some (slice_get bs b) k none at))
      (λ k. ⊎_elim
      (λ f. inl (λ l at. let found = k.1 in let same : k.0 ≡ l = cc in (f.0, subst (λ x. Fits L x f.0) same f.1)))
      (λ f. inr (k.0, k.1, f.0, f.1))
      (judged L b k.0))
      (some_or (slice_get bs b))

  round_1 : Answer
  round_1 =
      ⊎_elim
      (λ all. let r = sign_list L bs (λ i k at. all i (nth_in bs i k at) k at) in round_2 r.0 (pairs_fit L bs r.0 r.1 r.2))
      (λ f. inr (f.2.2, first_at L cs bs f.0 (λ i k lt at. f.3 i lt k at) f.2.0 f.2.1 f.2.2 f.2.3))
      (least Good Bad good_or (length bs))

pub suits_or_first : SuitsOrFirst
suits_or_first = round_1
