-- From the tests of the code to the fault that is found first.
use Rattle.std.proofs.Common.{◌≡◌, ℕ, zero, suc, ◌+◌, ◌<◌, ◌≤◌, true, ◌⊎◌, List, [], ◌∷◌, ◌++◌, map, length, Some, None, vec_items, sym, refl, ap, ◌∙◌, subst, inl, inr, ⊎_elim, arith}
use borrow.Author.Tests.{both_ways}
use Rattle.std.specs.List.{slice_get}
use Rattle.std.proofs.lemmas.List.{length-map, length_push}
pub use Rattle.std.proofs.lemmas.Option.{slice_get_within as nth_in}
use Rattle.values.specs.declared.scalar.ValueType.{ValueType}
use Rattle.blocks.specs.declared.library.Signature.{Signature}
use Rattle.draft.specs.declared.draft.Block.{Block}
use Rattle.drawing.specs.declared.fault.CheckFault.{CheckFault}
use Rattle.drawing.specs.declared.fault.CheckFault.TheVariants.{UnknownKind, InputCount, ParameterCount, ParameterType, Unlawful, SourceAbsent, SourceType, Loop}
use Rattle.blocks.specs.Library.{Library, listed}
use Rattle.values.specs.Values.{type_of}
use Rattle.drawing.specs.Faults.{turn, Lower, Wrong, First}
use Rattle.drawing.specs.Suits.{Signed, Fits, AllFit}
use Rattle.drawing.specs.Tests.{Passed, BlockFault}

same_block : (bs : List Block) (b : ℕ) (k l : Block) → slice_get bs b ≡ Some k → slice_get bs b ≡ Some l → k ≡ l
same_block bs b k l p q = cc

same_sign : (f : Library) (k l : Block) (s t : Signature) → k ≡ l → f.signature k.kind ≡ Some s
    → f.signature l.kind ≡ Some t → s ≡ t
same_sign f k l s t e p q = cc

unsigned : (f : Library) (k l : Block) (s : Signature) → k ≡ l → f.signature k.kind ≡ Some s → f.signature l.kind ≡ None → ⊥
unsigned f k l s e p q = let z : ◌≡◌ {A = ℕ} 0 1 = cc in omega arith

-- What passed before the test n at block k cannot be a fault there.
module _ (f : Library) (cs : List ValueType) (bs : List Block) (c : ℕ) (k : Block) (at : slice_get bs c ≡ Some k) (n p : ℕ)
    (flat : (n ≡ 4) ⊎ (p ≡ 0)) (passed : 1 < n → (s : Signature) × Passed f k s n p) where
  no_kind : Lower (1 ∷ 0 ∷ []) (n ∷ p ∷ []) → Wrong f cs bs (UnknownKind c) → ⊥
  no_kind h w =
      let lt : 1 < n = omega arith in
      let t = passed lt in
      unsigned f k w.0 t.0 (same_block bs c k w.0 at w.1) (t.1.known lt) w.2

  module _ (l : Block) (t : Signature) (signed : Signed f bs c l t) where
    same_k : k ≡ l
    same_k = same_block bs c k l at signed.block

    same_s : (lt : 1 < n) → (passed lt).0 ≡ t
    same_s lt = same_sign f k l (passed lt).0 t same_k ((passed lt).1.known lt) signed.signs

  no_inputs : Lower (2 ∷ 0 ∷ []) (n ∷ p ∷ []) → Wrong f cs bs (InputCount c) → ⊥
  no_inputs h w =
      let lt : 2 < n = omega arith in
      let on : 1 < n = omega arith in
      w.3 (subst (λ l. length (vec_items l.sources) ≡ length (listed w.1.inputs)) (same_k w.0 w.1 w.2)
      (subst (λ t. length (vec_items k.sources) ≡ length (listed t.inputs)) (same_s w.0 w.1 w.2 on) ((passed on).1.inputs lt)))

  no_count : Lower (3 ∷ 0 ∷ []) (n ∷ p ∷ []) → Wrong f cs bs (ParameterCount c) → ⊥
  no_count h w =
      let lt : 3 < n = omega arith in
      let on : 1 < n = omega arith in
      w.3 (subst (λ l. length (vec_items l.params) ≡ length (listed w.1.params)) (same_k w.0 w.1 w.2)
      (subst (λ t. length (vec_items k.params) ≡ length (listed t.params)) (same_s w.0 w.1 w.2 on) ((passed on).1.count lt)))

  no_type : (q : ℕ) → Lower (4 ∷ q ∷ []) (n ∷ p ∷ []) → Wrong f cs bs (ParameterType c q) → ⊥
  no_type q h w =
      let lt : 3 < n = omega arith in
      let on : 1 < n = omega arith in
      let before : n ≡ 4 → q < p = omega arith in
      w.4 (subst (λ l. slice_get (map type_of (vec_items l.params)) q ≡ slice_get (listed w.1.params) q) (same_k w.0 w.1 w.2)
      (subst (λ t. slice_get (map type_of (vec_items k.params)) q ≡ slice_get (listed t.params) q) (same_s w.0 w.1 w.2 on) ((passed on).1.agree q lt before)))

  no_law : Lower (5 ∷ 0 ∷ []) (n ∷ p ∷ []) → Wrong f cs bs (Unlawful c) → ⊥
  no_law h w =
      let lt : 5 < n = omega arith in
      let on : 1 < n = omega arith in
      both_ways _ w.2 (subst (λ l. f.lawful l.kind (vec_items l.params) ≡ true) (same_block bs c k w.0 at w.1) ((passed on).1.lawful lt))

fits_passed : (f : Library) (k : Block) (s : Signature) → Fits f k s → Passed f k s 6 0
fits_passed f k s h = record {
  known = λ _. h.signs;
  inputs = λ _. h.inputs;
  count = λ _. sym (length-map (vec_items k.params) type_of) ∙ ap length h.params;
  agree = λ q _ _. ap (λ l. slice_get l q) h.params;
  lawful = λ _. h.lawful;
}

pub nth_there : {X : Type 0} (xs : List X) (i : ℕ) → i < length xs → (x : X) × (slice_get xs i ≡ Some x)
nth_there [] i h = absurd (omega arith)
nth_there (y ∷ ys) zero h = (y, refl)
nth_there (y ∷ ys) (suc i) h = nth_there ys i (omega arith)

-- the blocks before b pass
abbrev pub PassBefore : Library → List Block → ℕ → Type 0
PassBefore f bs b = (i : ℕ) (k : Block) → i < b → slice_get bs i ≡ Some k → (s : Signature) × Fits f k s

module _ (f : Library) (cs : List ValueType) (bs : List Block) (b : ℕ) (before : PassBefore f bs b) where
  -- a block before b has no fault of the first round
  module _ (c : ℕ) (lt : c < b) (k : Block) (at : slice_get bs c ≡ Some k) where
    whole : 1 < 6 → (s : Signature) × Passed f k s 6 0
    whole _ = let t = before c k lt at in (t.0, fits_passed f k t.0 t.1)

  -- nothing in the first round comes before the test n of block b
  module _ (k : Block) (at : slice_get bs b ≡ Some k) (n p : ℕ) (flat : (n ≡ 4) ⊎ (p ≡ 0)) (passed : 1 < n → (s : Signature) × Passed f k s n p) where
    moved : (c : ℕ) → c ≡ b → slice_get bs c ≡ Some k
    moved c e = ap (slice_get bs) e ∙ at

    earliest_at : (d : CheckFault) → Lower (turn d) (1 ∷ b ∷ n ∷ p ∷ []) → Wrong f cs bs d → ⊥
    earliest_at (UnknownKind c) h w =
        ⊎_elim (λ z. omega arith) (λ z. ⊎_elim
        (λ lt. no_kind f cs bs c w.0 w.1 6 0 (inr refl) (whole c lt w.0 w.1) (inl (omega arith)) w)
        (λ y. no_kind f cs bs c k (moved c y.0) n p flat passed y.1 w) z.1) h
    earliest_at (InputCount c) h w =
        ⊎_elim (λ z. omega arith) (λ z. ⊎_elim
        (λ lt. no_inputs f cs bs c w.0 w.2.block 6 0 (inr refl) (whole c lt w.0 w.2.block) (inl (omega arith)) w)
        (λ y. no_inputs f cs bs c k (moved c y.0) n p flat passed y.1 w) z.1) h
    earliest_at (ParameterCount c) h w =
        ⊎_elim (λ z. omega arith) (λ z. ⊎_elim
        (λ lt. no_count f cs bs c w.0 w.2.block 6 0 (inr refl) (whole c lt w.0 w.2.block) (inl (omega arith)) w)
        (λ y. no_count f cs bs c k (moved c y.0) n p flat passed y.1 w) z.1) h
    earliest_at (ParameterType c q) h w =
        ⊎_elim (λ z. omega arith) (λ z. ⊎_elim
        (λ lt. no_type f cs bs c w.0 w.2.block 6 0 (inr refl) (whole c lt w.0 w.2.block) q (inl (omega arith)) w)
        (λ y. no_type f cs bs c k (moved c y.0) n p flat passed q y.1 w) z.1) h
    earliest_at (Unlawful c) h w =
        ⊎_elim (λ z. omega arith) (λ z. ⊎_elim
        (λ lt. no_law f cs bs c w.0 w.1 6 0 (inr refl) (whole c lt w.0 w.1) (inl (omega arith)) w)
        (λ y. no_law f cs bs c k (moved c y.0) n p flat passed y.1 w) z.1) h
    earliest_at (SourceAbsent c i) h w = ⊎_elim (λ z. omega arith) (λ z. omega (arith, z.0)) h
    earliest_at (SourceType c i) h w = ⊎_elim (λ z. omega arith) (λ z. omega (arith, z.0)) h
    earliest_at (Loop c) h w = ⊎_elim (λ z. omega arith) (λ z. omega (arith, z.0)) h

    found : (c : ℕ) → c ≡ b → (e : CheckFault) → turn e ≡ 1 ∷ c ∷ n ∷ p ∷ [] → Wrong f cs bs e → First f cs bs e
    found c same e here w = record {
      wrong = w;
      earliest = λ d l. earliest_at d (subst (λ x. Lower (turn d) (1 ∷ x ∷ n ∷ p ∷ [])) same (subst (Lower (turn d)) here l));
    }

  signed_there : (k : Block) (c : ℕ) (s : Signature) → slice_get bs b ≡ Some k → c ≡ b → f.signature k.kind ≡ Some s → Signed f bs c k s
  signed_there k c s at same known = record { block = ap (slice_get bs) same ∙ at; signs = known }

  pub first_at : (k : Block) → slice_get bs b ≡ Some k → (e : CheckFault) → BlockFault f b k e → First f cs bs e
  first_at k at (UnknownKind c) h =
      found k at 1 0 (inr refl) (λ z. absurd (omega arith)) c h.0 (UnknownKind c) refl (k, ap (slice_get bs) h.0 ∙ at, h.1)
  first_at k at (InputCount c) h =
      found k at 2 0 (inr refl) (λ _. (h.1, h.2)) c h.0 (InputCount c) refl
      (k, h.1, signed_there k c h.1 at h.0 (h.2.known (omega arith)), h.3)
  first_at k at (ParameterCount c) h =
      found k at 3 0 (inr refl) (λ _. (h.1, h.2)) c h.0 (ParameterCount c) refl
      (k, h.1, signed_there k c h.1 at h.0 (h.2.known (omega arith)), h.3)
  first_at k at (ParameterType c p) h =
      found k at 4 p (inl refl) (λ _. (h.1, h.2)) c h.0 (ParameterType c p) refl
      (k, h.1, signed_there k c h.1 at h.0 (h.2.known (omega arith)), h.3, h.4)
  first_at k at (Unlawful c) h =
      found k at 5 0 (inr refl) (λ _. (h.1, h.2)) c h.0 (Unlawful c) refl (k, ap (slice_get bs) h.0 ∙ at, h.3)
  first_at k at (SourceAbsent c i) h = absurd h
  first_at k at (SourceType c i) h = absurd h
  first_at k at (Loop c) h = absurd h

-- where every block passes, the first round finds nothing
module _ (f : Library) (cs : List ValueType) (bs : List Block) (before : PassBefore f bs (length bs)) where
  all_passed : (c : ℕ) (k : Block) → slice_get bs c ≡ Some k → 1 < 6 → (s : Signature) × Passed f k s 6 0
  all_passed c k at = whole f cs bs (length bs) before c (nth_in bs c k at) k at

  pub clean_first : (d : CheckFault) → Lower (turn d) (2 ∷ []) → Wrong f cs bs d → ⊥
  clean_first (UnknownKind c) h w =
      no_kind f cs bs c w.0 w.1 6 0 (inr refl) (all_passed c w.0 w.1) (inl (omega arith)) w
  clean_first (InputCount c) h w =
      no_inputs f cs bs c w.0 w.2.block 6 0 (inr refl) (all_passed c w.0 w.2.block) (inl (omega arith)) w
  clean_first (ParameterCount c) h w =
      no_count f cs bs c w.0 w.2.block 6 0 (inr refl) (all_passed c w.0 w.2.block) (inl (omega arith)) w
  clean_first (ParameterType c q) h w =
      no_type f cs bs c w.0 w.2.block 6 0 (inr refl) (all_passed c w.0 w.2.block) q (inl (omega arith)) w
  clean_first (Unlawful c) h w =
      no_law f cs bs c w.0 w.1 6 0 (inr refl) (all_passed c w.0 w.1) (inl (omega arith)) w
  clean_first (SourceAbsent c i) h w = ⊎_elim (λ z. omega arith) (λ z. z.1) h
  clean_first (SourceType c i) h w = ⊎_elim (λ z. omega arith) (λ z. z.1) h
  clean_first (Loop c) h w = ⊎_elim (λ z. omega arith) (λ z. z.1) h

nth_push : {X : Type 0} (xs : List X) (y : X) (i : ℕ) (x : X) → slice_get (xs ++ y ∷ []) i ≡ Some x
    → (slice_get xs i ≡ Some x) ⊎ ((i ≡ length xs) × (y ≡ x))
nth_push [] y zero x e = inr (refl, cc)
nth_push [] y (suc i) x e = inl e
nth_push (z ∷ xs) y zero x e = inl e
nth_push (z ∷ xs) y (suc i) x e = ⊎_elim inl (λ h. inr (ap suc h.0, h.1)) (nth_push xs y i x e)

-- the first b blocks pass, with the signatures ss
pub record FitUpTo (f : Library) (bs : List Block) (ss : List Signature) (b : ℕ) : Type 0 where
  pub count : length ss ≡ b
  pub fit : (i : ℕ) (k : Block) (s : Signature) → slice_get bs i ≡ Some k → slice_get ss i ≡ Some s → Fits f k s

module _ (f : Library) (bs : List Block) where
  pub fit_none : (ss : List Signature) → ss ≡ [] → FitUpTo f bs ss 0
  fit_none ss e = record { count = ap length e; fit = λ i k s _ h. let z : ◌≡◌ {A = ℕ} 0 1 = cc in absurd (omega arith) }

  pub fit_more : (ss after : List Signature) (b : ℕ) (k : Block) (s : Signature) → slice_get bs b ≡ Some k → after ≡ ss ++ s ∷ []
      → FitUpTo f bs ss b → Fits f k s → FitUpTo f bs after (b + 1)
  fit_more ss after b k s at e h new = record {
    count = ap length e ∙ length_push ss s ∙ ap (λ n. n + 1) h.count;
    fit = λ i l t p q.
        ⊎_elim (h.fit i l t p)
        (λ z. let here : i ≡ b = z.0 ∙ h.count in
        let same : k ≡ l = same_block bs b k l at (sym (ap (slice_get bs) here) ∙ p) in
        subst (λ x. Fits f l x) z.1 (subst (λ x. Fits f x s) same new))
        (nth_push ss s i t (sym (ap (λ x. slice_get x i) e) ∙ q));
  }

  pub fit_before : (ss : List Signature) (b : ℕ) → FitUpTo f bs ss b → PassBefore f bs b
  fit_before ss b h i k lt at = let t = nth_there ss i (omega (arith, h.count)) in (t.0, h.fit i k t.0 at t.1)

  pub fit_all : (ss : List Signature) (b : ℕ) → length bs ≤ b → b ≤ length bs → FitUpTo f bs ss b → AllFit f bs ss
  fit_all ss b lo hi h = record { count = omega (arith, h.count); fit = h.fit }
