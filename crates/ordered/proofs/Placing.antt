-- What a search of ascending entries finds. Assumes nothing.
use Rattle.std.proofs.Common.{◌≡◌, ℕ, ◌+◌, ◌<◌, ◌≤◌, Bool, true, false, cond, not, List, length, get_or, take, Some, None, Ok, Err, Result, MatchOption, sym, refl, ap, ◌∙◌, subst, ⊎_elim, arith}
use Rattle.std.specs.declared.cmp.Ordering.{Ordering}
use Rattle.std.specs.declared.cmp.Ordering.TheVariants.{Less, Equal, Greater}
use Rattle.std.specs.Cmp.{IsTotalOrder}
use Rattle.std.specs.Result.{result_ok}
use Rattle.std.specs.Ordering.{is_le, is_lt, ordering_index}
use Rattle.std.specs.List.Sorted.{IsBinarySearchResult, IsNonDecreasingBy, IsPartitionedBy, IsPartitionPoint, IsSearchInRange}
use Rattle.std.proofs.lemmas.Bool.{both_ways, cases_Bool, cases_lt, not-true, not-false, not_from_false}
use Rattle.std.proofs.lemmas.List.Sorted.{searchable_from_sorted}
use Rattle.ordered.specs.declared.entry.Entry.{Entry}
use Rattle.ordered.specs.Order.{TotalOrder, Orders}
use Rattle.ordered.specs.Entries.{ascending, at, Cut}
use Rattle.ordered.specs.Search.{Parts, Place}
use Rattle.ordered.proofs.Lookup.{ascending_take, asymmetric, at_cut, at_new, at_place, back_passes, before_places, front_passes}
use Rattle.ordered.proofs.Tested.{kept_front}

abbrev answer : Bool → Bool → Ordering
answer a b = cond a Less (cond b Greater Equal)

-- what an answer says of the two tests
less : (a b : Bool) → answer a b ≡ Less → a ≡ true
less true b h = refl
less false true h = cc
less false false h = cc

greater : (a b : Bool) → answer a b ≡ Greater → b ≡ true
greater true b h = cc
greater false true h = refl
greater false false h = cc

neither : (a b : Bool) → answer a b ≡ Equal → (a ≡ false) × (b ≡ false)
neither true b h = cc
neither false true h = cc
neither false false h = (refl, refl)

at_most : (a b : Bool) → (b ≡ true → a ≡ false) → is_le (answer a b) ≡ not b
at_most true true n = n refl
at_most true false n = refl
at_most false true n = refl
at_most false false n = refl

module _ {K : Type 0} (before : K → K → Bool) (cmp : K → K → Ordering) (o : Orders before cmp) where
  -- not after, as a comparison says it
  not_after : (x y : K) → is_le (cmp x y) ≡ not (before y x)
  not_after x y = ap is_le (o.answers x y) ∙ at_most (before x y) (before y x) (asymmetric before o.total y x)

  module _ {V : Type 0} (es : List (Entry K V)) (a : ascending before es ≡ true) (q : K) where
    -- those at or before q come first
    pub parted : IsPartitionedBy (λ e. is_le (cmp e.key q)) es
    parted i j d le l h = ⊎_elim
        (λ (b : i < j). not_after (get_or es i d).key q ∙ not_from_false (before q (get_or es i d).key) (⊎_elim
        (λ y. absurd (both_ways (before q (get_or es j d).key) (not-true (before q (get_or es j d).key) (sym (not_after (get_or es j d).key q) ∙ h))
        (o.total.transitive q (get_or es i d).key (get_or es j d).key y (before_places before o.total es i j d a b l))))
        (λ n. n)
        (cases_Bool (before q (get_or es i d).key))))
        (λ (b : j ≤ i). let s : j ≡ i = omega arith in subst (λ k. is_le (cmp (get_or es k d).key q) ≡ true) s h)
        (cases_lt i j)

    pub parts : (n : ℕ) → n ≤ length es → IsPartitionPoint (λ e. is_le (cmp e.key q) ≡ true) (λ e. is_le (cmp e.key q) ≡ false) es n → Parts before es q n
    parts n within p = record {
      within = within;
      under = λ k d l. not-true (before q (get_or es k d).key) (sym (not_after (get_or es k d).key q) ∙ p.0 k d (omega arith) l);
      over = λ k d le l. not-false (before q (get_or es k d).key) (sym (not_after (get_or es k d).key q) ∙ p.1 k d le l);
    }

    -- comparisons with q rise along the entries
    rises : IsTotalOrder cmp → IsNonDecreasingBy (λ e. ordering_index (cmp e.key q)) es
    rises t = searchable_from_sorted t (λ (e : Entry K V). e.key) es q (λ k d low l.
        let b = before_places before o.total es k (k + 1) d a (omega arith) l in
        let n = asymmetric before o.total (get_or es k d).key (get_or es (k + 1) d).key b in
        ap is_lt (o.answers (get_or es (k + 1) d).key (get_or es k d).key ∙ ap (λ w. answer w (before (get_or es k d).key (get_or es (k + 1) d).key)) n ∙ ap (answer false) b))

    pub found : IsTotalOrder cmp → (r : Result ℕ ℕ) → IsSearchInRange r (length es) → IsBinarySearchResult (λ e. cmp e.key q) es r → Place before es q r
    found t (Ok i) l same = record {
      within = l;
      same = λ d.
          let n = neither (before (get_or es i d).key q) (before q (get_or es i d).key) (sym (o.answers (get_or es i d).key q) ∙ same d) in
          o.total.connected (get_or es i d).key q n.0 n.1;
    }
    found t (Err i) l split =
        let p = split (rises t) in
        let apart : (k : ℕ) (d : Entry K V) → k < i → before (get_or es k d).key q ≡ true = λ k d b.
        less (before (get_or es k d).key q) (before q (get_or es k d).key) (sym (o.answers (get_or es k d).key q) ∙ p.0 k d (omega arith) b) in
        record {
          parts = record {
            within = l;
            under = λ k d b. asymmetric before o.total (get_or es k d).key q (apart k d b);
            over = λ k d le b. greater (before (get_or es k d).key q) (before q (get_or es k d).key) (sym (o.answers (get_or es k d).key q) ∙ p.1 k d le b);
          };
          apart = apart;
        }

module _ {K : Type 0} (before : K → K → Bool) (o : TotalOrder before) {V : Type 0} (es : List (Entry K V)) (a : ascending before es ≡ true) (q : K) where
  -- what a cut leaves
  pub cut_at : (n : ℕ) → Parts before es q n → Cut before es (take n es) q
  cut_at n p = record {
    left =
        kept_front (λ e. not (before q e.key)) (λ e. before q e.key) (λ e h. ap not h) es n
        (front_passes before o es a q n p) (back_passes before o es a q n p);
    sorted = ascending_take before o es n a;
    values = at_cut before o es a q n p;
  }

  -- what a look-up finds
  pub looked_up : (r : Result ℕ ℕ) → Place before es q r → MatchOption (result_ok r) (at before es q ≡ None) (λ i. (d : Entry K V) → at before es q ≡ Some (get_or es i d).value)
  looked_up (Ok i) s = λ d. ap (at before es) (sym (s.same d)) ∙ at_place before o es i d a s.within
  looked_up (Err i) b = at_new before o es a q i b.parts b.apart
