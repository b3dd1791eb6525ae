-- The sources of the inputs, and the second round.
use Rattle.std.proofs.Common.{◌≡◌, ℕ, zero, suc, ◌+◌, List, [], ◌∷◌, length, Some, vec_items, sym, ap, ◌∙◌, subst, subst₂, drop, ⊎_elim, arith}
use Rattle.std.specs.List.{slice_get}
use Rattle.std.proofs.lemmas.Bool.{cases_lt}
use Rattle.values.specs.declared.scalar.ValueType.{ValueType}
use Rattle.blocks.specs.declared.library.Signature.{Signature}
use Rattle.draft.specs.declared.source.Source.{Source}
use Rattle.draft.specs.declared.draft.Block.{Block}
use Rattle.drawing.specs.declared.fault.CheckFault.{CheckFault}
use Rattle.blocks.specs.Library.{listed}
use Rattle.drawing.specs.Sound.{gives, Joined}
use Rattle.drawing.specs.Tests.{SourceFault, Counted, JoinedBefore, InputFault}

-- a block with one input
pub joined_one : (cs : List ValueType) (ss : List Signature) (x : Source) (t : ValueType) → gives cs ss x ≡ Some t
    → Joined cs ss (x ∷ []) (t ∷ [])
joined_one cs ss x t e zero y h = let same : x ≡ y = cc in subst (λ z. gives cs ss z ≡ Some t) same e
joined_one cs ss x t e (suc i) y h = let z : ◌≡◌ {A = ℕ} 0 1 = cc in absurd (omega arith)

-- what is left of a list begins with the element at its place
left_at : {X : Type 0} (xs ys : List X) (x : X) (n : ℕ) → x ∷ ys ≡ drop n xs → slice_get xs n ≡ Some x
left_at [] ys x zero e = let z : ◌≡◌ {A = ℕ} 0 1 = cc in absurd (omega arith)
left_at [] ys x (suc n) e = let z : ◌≡◌ {A = ℕ} 0 1 = cc in absurd (omega arith)
left_at (y ∷ xs) ys x zero e = let same : x ≡ y = cc in ap Some (sym same)
left_at (y ∷ xs) ys x (suc n) e = left_at xs ys x n e

left_on : {X : Type 0} (xs ys : List X) (x : X) (n : ℕ) → x ∷ ys ≡ drop n xs → ys ≡ drop (suc n) xs
left_on [] ys x zero e = let z : ◌≡◌ {A = ℕ} 0 1 = cc in absurd (omega arith)
left_on [] ys x (suc n) e = let z : ◌≡◌ {A = ℕ} 0 1 = cc in absurd (omega arith)
left_on (y ∷ xs) ys x zero e = cc
left_on (y ∷ xs) ys x (suc n) e = left_on xs ys x n e

pub left_next : {X : Type 0} (xs ys : List X) (x : X) (n m : ℕ) → x ∷ ys ≡ drop n xs → m ≡ n + 1 → ys ≡ drop m xs
left_next xs ys x n m e h = let next : suc n ≡ m = omega arith in left_on xs ys x n e ∙ ap (λ k. drop k xs) next

-- one block of the second round, with its signature, as the loop takes them from what is left of both lists
module _ (cs : List ValueType) (bs : List Block) (ss : List Signature) (n b : ℕ) (number : b ≡ n) (k : Block) (ks : List Block)
    (s : Signature) (ts : List Signature) (left : k ∷ ks ≡ drop n bs) (signs : s ∷ ts ≡ drop n ss) (xs : List Source)
    (e : xs ≡ vec_items k.sources) where
  at : slice_get bs n ≡ Some k
  at = left_at bs ks k n left

  is : slice_get ss n ≡ Some s
  is = left_at ss ts s n signs

  pub sources_counted : Counted bs ss → length xs ≡ length (listed s.inputs)
  sources_counted h = ap length e ∙ h n k s at is

  pub input_fault : JoinedBefore cs bs ss n → (d : CheckFault) → SourceFault cs ss b xs (listed s.inputs) d → InputFault cs bs ss d
  input_fault before d h = record {
    block = n;
    here = k;
    sign = s;
    at = at;
    signed = is;
    before = before;
    fault = subst₂ (λ c l. SourceFault cs ss c l (listed s.inputs) d) number e h;
  }

  pub joined_next : JoinedBefore cs bs ss n → Joined cs ss xs (listed s.inputs) → (m : ℕ) → m ≡ n + 1 → JoinedBefore cs bs ss m
  joined_next before h m next c l t lt at' is' =
      ⊎_elim (λ o. before c l t o at' is')
      (λ g. let here : c ≡ n = omega arith in
      let same_k : k ≡ l = let there = sym (ap (slice_get bs) here) ∙ at' in let found = at in cc in
      let same_s : s ≡ t = let there = sym (ap (slice_get ss) here) ∙ is' in let found = is in cc in
      subst₂ (λ x y. Joined cs ss (vec_items x.sources) (listed y.inputs)) same_k same_s
      (subst (λ l. Joined cs ss l (listed s.inputs)) e h))
      (cases_lt c n)
