-- Look-ups among entries in ascending order, and the place that a search gives. Assumes nothing.
use Rattle.std.proofs.Common.{◌≡◌, ℕ, zero, suc, ◌-◌, ◌<◌, ◌≤◌, Bool, true, false, cond, not, ◌&&◌, List, [], ◌∷◌, ◌++◌, length, get_or, take, drop, Some, None, Option, slice_get, sym, refl, ap, ◌∙◌, subst, ⊎_elim, inl, inr, arith, take-append-drop}
use Rattle.std.specs.List.{list_all}
use Rattle.std.proofs.lemmas.Bool.{both_ways, not-true, and_parts, and_from, not_from_false, cases_lt}
use Rattle.std.proofs.lemmas.List.{get_or_read, get_or-take, length-take-le}
use Rattle.std.proofs.lemmas.List.Elements.{All-take}
use Rattle.std.proofs.lemmas.List.Sums.{AllPass-from_list_all, list_all-from_AllPass}
use Rattle.std.proofs.lemmas.Option.{slice_get_cases}
use Rattle.ordered.specs.declared.entry.Entry.{Entry}
use Rattle.ordered.specs.Order.{TotalOrder}
use Rattle.ordered.specs.Entries.{level, ascending, at, Floor}
use Rattle.ordered.specs.Search.{Parts}
use Rattle.ordered.proofs.Tested.{all_front, all_back, all_pass_between, all_pass_in_place}

-- ---- the order

module _ {K : Type 0} (before : K → K → Bool) (o : TotalOrder before) where
  pub asymmetric : (x y : K) → before x y ≡ true → before y x ≡ false
  asymmetric x y h = by (before y x) refl
    where
      by : (b : Bool) → before y x ≡ b → b ≡ false
      by true e = absurd (both_ways (before x x) (o.irreflexive x) (o.transitive x y x h e))
      by false e = refl

  pub level_itself : (x : K) → level before x x ≡ true
  level_itself x = rw (o.irreflexive x)

  pub same_from_level : (x y : K) → level before x y ≡ true → x ≡ y
  same_from_level x y h =
      let p = and_parts (not (before x y)) (not (before y x)) h in
      o.connected x y (not-true (before x y) p.0) (not-true (before y x) p.1)

  pub level_apart : (x y : K) → (x ≡ y → ⊥) → level before x y ≡ false
  level_apart x y n = by (level before x y) refl
    where
      by : (b : Bool) → level before x y ≡ b → b ≡ false
      by true e = absurd (n (same_from_level x y e))
      by false e = refl

  -- at or before, and then before
  pub chain_left : (x y z : K) → before y x ≡ false → before y z ≡ true → before x z ≡ true
  chain_left x y z h k = by (before x z) refl
    where
      same : before x z ≡ false → before x y ≡ true → ⊥
      same n e = both_ways (before x z) n (o.transitive x y z e k)

      by : (b : Bool) → before x z ≡ b → b ≡ true
      by true e = refl
      by false e = absurd (go (before x y) refl)
        where
          go : (b : Bool) → before x y ≡ b → ⊥
          go true f = same e f
          go false f = both_ways (before x z) e (subst (λ w. before w z ≡ true) (sym (o.connected x y f h)) k)

  module _ {V : Type 0} where
    abbrev keyed : (K → Bool) → Entry K V → Bool
    keyed t e = t e.key

    pub before_places : (es : List (Entry K V)) (i j : ℕ) (d : Entry K V) → ascending before es ≡ true → i < j → j < length es
        → before (get_or es i d).key (get_or es j d).key ≡ true
    before_places [] i j d a l h = absurd (omega arith)
    before_places (e ∷ es) i zero d a l h = absurd (omega arith)
    before_places (e ∷ es) zero (suc j) d a l h =
        AllPass-from_list_all (keyed (before e.key)) es (and_parts (list_all (keyed (before e.key)) es) (ascending before es) a).0 j d (omega arith)
    before_places (e ∷ es) (suc i) (suc j) d a l h =
        before_places es i j d (and_parts (list_all (keyed (before e.key)) es) (ascending before es) a).1 (omega arith) (omega arith)

    -- ---- look-ups in two parts

    -- no key that fails the test is among those that pass it
    pub at_missing : (t : K → Bool) (es : List (Entry K V)) (x : K) → list_all (keyed t) es ≡ true → t x ≡ false → at before es x ≡ None
    at_missing t [] x h n = refl
    at_missing t (e ∷ es) x h n =
        let p = and_parts (t e.key) (list_all (keyed t) es) h in
        let l : level before e.key x ≡ false = level_apart e.key x (λ k. both_ways (t x) n (subst (λ w. t w ≡ true) k p.0)) in
        rw l (at_missing t es x p.1 n)

    pub at_left : (xs ys : List (Entry K V)) (x : K) → at before ys x ≡ None → at before (xs ++ ys) x ≡ at before xs x
    at_left [] ys x h = h
    at_left (e ∷ xs) ys x h = ap (λ r. cond (level before e.key x) (Some e.value) r) (at_left xs ys x h)

    neither : (b : Bool) (v : V) (r : Option V) → cond b (Some v) r ≡ None → (b ≡ false) × (r ≡ None)
    neither true v r h = absurd (let z : ◌≡◌ {A = ℕ} 0 1 = cc in omega arith)
    neither false v r h = (refl, h)

    swapped : (a b : Bool) (u v r : Option V) → (a ≡ true → b ≡ true → ⊥) → cond a u (cond b v r) ≡ cond b v (cond a u r)
    swapped true true u v r n = absurd (n refl refl)
    swapped true false u v r n = refl
    swapped false b u v r n = refl

    -- an entry between two parts
    pub at_between : (xs ys : List (Entry K V)) (e : Entry K V) (x : K) → at before xs e.key ≡ None
        → at before (xs ++ e ∷ ys) x ≡ cond (level before e.key x) (Some e.value) (at before (xs ++ ys) x)
    at_between [] ys e x h = refl
    at_between (f ∷ xs) ys e x h =
        let p = neither (level before f.key e.key) f.value (at before xs e.key) h in
        ap (λ r. cond (level before f.key x) (Some f.value) r) (at_between xs ys e x p.1)
        ∙ swapped (level before f.key x) (level before e.key x) (Some f.value) (Some e.value) (at before (xs ++ ys) x)
        (λ a b. both_ways (level before f.key e.key) p.0
        (subst (λ w. level before f.key w ≡ true) (same_from_level f.key x a ∙ sym (same_from_level e.key x b)) (level_itself f.key)))

    pub ascending_between : (xs ys : List (Entry K V)) (e : Entry K V) → ascending before (xs ++ ys) ≡ true
        → list_all (keyed (λ k. before k e.key)) xs ≡ true → list_all (keyed (λ k. before e.key k)) ys ≡ true
        → ascending before (xs ++ e ∷ ys) ≡ true
    ascending_between [] ys e a h k = and_from (list_all (keyed (λ w. before e.key w)) ys) (ascending before ys) k a
    ascending_between (f ∷ xs) ys e a h k =
        let p = and_parts (list_all (λ g. before f.key g.key) (xs ++ ys)) (ascending before (xs ++ ys)) a in
        let q = and_parts (before f.key e.key) (list_all (keyed (λ w. before w e.key)) xs) h in
        and_from (list_all (λ g. before f.key g.key) (xs ++ e ∷ ys)) (ascending before (xs ++ e ∷ ys))
        (all_pass_between (λ g. before f.key g.key) xs ys e q.0 p.0)
        (ascending_between xs ys e p.1 q.1 k)

    pub ascending_in_place : (xs ys : List (Entry K V)) (e f : Entry K V) → f.key ≡ e.key
        → ascending before (xs ++ f ∷ ys) ≡ ascending before (xs ++ e ∷ ys)
    ascending_in_place [] ys e f k = ap (λ w. list_all (keyed (before w)) ys && ascending before ys) k
    ascending_in_place (g ∷ xs) ys e f k =
        ap (λ b. b && ascending before (xs ++ f ∷ ys)) (all_pass_in_place (keyed (before g.key)) xs ys e f (ap (before g.key) k))
        ∙ ap (λ b. list_all (keyed (before g.key)) (xs ++ e ∷ ys) && b) (ascending_in_place xs ys e f k)

    pub ascending_take : (es : List (Entry K V)) (n : ℕ) → ascending before es ≡ true → ascending before (take n es) ≡ true
    ascending_take es zero a = refl
    ascending_take [] (suc n) a = refl
    ascending_take (e ∷ es) (suc n) a =
        let p = and_parts (list_all (keyed (before e.key)) es) (ascending before es) a in
        and_from (list_all (keyed (before e.key)) (take n es)) (ascending before (take n es))
        (list_all-from_AllPass (keyed (before e.key)) (take n es)
        (All-take (λ f. before e.key f.key ≡ true) n es (AllPass-from_list_all (keyed (before e.key)) es p.0)))
        (ascending_take es n p.1)

    -- the entry at a place is found
    pub at_place : (es : List (Entry K V)) (i : ℕ) (d : Entry K V) → ascending before es ≡ true → i < length es
        → at before es (get_or es i d).key ≡ Some (get_or es i d).value
    at_place [] i d a l = absurd (omega arith)
    at_place (e ∷ es) zero d a l = rw (level_itself e.key)
    at_place (e ∷ es) (suc i) d a l =
        let p = and_parts (list_all (keyed (before e.key)) es) (ascending before es) a in
        let b = AllPass-from_list_all (keyed (before e.key)) es p.0 i d (omega arith) in
        let n : level before e.key (get_or es i d).key ≡ false = rw b in
        rw n (at_place es i d p.1 (omega arith))

    -- ---- the place that a search gives

    module _ (es : List (Entry K V)) (a : ascending before es ≡ true) (q : K) (n : ℕ) (parts : Parts before es q n) where
      pub front_passes : list_all (keyed (λ k. not (before q k))) (take n es) ≡ true
      front_passes = all_front (keyed (λ k. not (before q k))) n es (λ k d l. not_from_false (before q (get_or es k d).key) (parts.under k d l))

      pub back_passes : list_all (keyed (before q)) (drop n es) ≡ true
      back_passes = all_back (keyed (before q)) n es parts.over

      -- the entries up to the place are those at or before q
      pub at_cut : (x : K) → at before (take n es) x ≡ cond (before q x) None (at before es x)
      at_cut x = by (before q x) refl
        where
          by : (b : Bool) → before q x ≡ b → at before (take n es) x ≡ cond b None (at before es x)
          by true e = at_missing (λ k. not (before q k)) (take n es) x front_passes (ap not e)
          by false e =
              sym (at_left (take n es) (drop n es) x (at_missing (before q) (drop n es) x back_passes e))
              ∙ ap (λ l. at before l x) (take-append-drop n es)

      floor_none : n ≡ 0 → Floor before es q None
      floor_none z x h =
          let e : at before (take 0 es) x ≡ cond (before q x) None (at before es x) = subst (λ w. at before (take w es) x ≡ cond (before q x) None (at before es x)) z (at_cut x) in
          sym (e ∙ ap (λ b. cond b None (at before es x)) h)

      floor_some : (m : ℕ) (e : Entry K V) → n ≡ suc m → ((d : Entry K V) → e ≡ get_or es m d) → Floor before es q (Some e)
      floor_some m e z is =
          let l : m < length es = omega (arith, parts.within) in (
            ap (λ w. before q w.key) (is e) ∙ parts.under m e (omega arith),
            subst (λ w. at before es w.key ≡ Some w.value) (sym (is e)) (at_place es m e a l),
            λ x h k.
                sym (at_cut x ∙ ap (λ b. cond b None (at before es x)) k)
                ∙ at_missing (λ w. not (before e.key w)) (take n es) x up_to (ap not h),
          )
        where
          up_to : list_all (keyed (λ w. not (before e.key w))) (take n es) ≡ true
          up_to = all_front (keyed (λ w. not (before e.key w))) n es (λ k d l. not_from_false (before e.key (get_or es k d).key) (⊎_elim
              (λ (b : k < m). subst (λ w. before w.key (get_or es k d).key ≡ false) (sym (is d)) (asymmetric (get_or es k d).key (get_or es m d).key (before_places es k m d a b (omega (arith, parts.within)))))
              (λ (b : m ≤ k). let s : m ≡ k = omega arith in subst (λ w. before e.key w.key ≡ false) (is d ∙ ap (λ i. get_or es i d) s) (o.irreflexive e.key))
              (cases_lt k m)))

      -- the last of them is q's floor
      pub floored : Floor before es q (slice_get (take n es) (length (take n es) - 1))
      floored = by n refl
        where
          size : length (take n es) ≡ n
          size = length-take-le n es parts.within

          by : (m : ℕ) → n ≡ m → Floor before es q (slice_get (take n es) (length (take n es) - 1))
          by zero z = subst (λ w. Floor before es q (slice_get (take w es) (length (take w es) - 1))) (sym z) (floor_none z)
          by (suc m) z =
              let s = size in
              let i : length (take n es) - 1 ≡ m = omega arith in
              elim (slice_get_cases (take n es) m).1 [
                | inl h ↦ subst (Floor before es q) (sym (ap (slice_get (take n es)) i ∙ h.2))
                    (floor_some m h.0 z (get_or_read es m h.0 (omega (arith, parts.within)) (sym h.3 ∙ get_or-take n es m h.0 (omega arith))))
                | inr h ↦ absurd (omega (arith, h.0))
              ]

      module _ (apart : (k : ℕ) (d : Entry K V) → k < n → before (get_or es k d).key q ≡ true) where
        pub front_before : list_all (keyed (λ k. before k q)) (take n es) ≡ true
        front_before = all_front (keyed (λ k. before k q)) n es apart

        pub front_missing : at before (take n es) q ≡ None
        front_missing = at_missing (λ k. before k q) (take n es) q front_before (o.irreflexive q)

        pub at_new : at before es q ≡ None
        at_new = sym (at_cut q ∙ ap (λ b. cond b None (at before es q)) (o.irreflexive q)) ∙ front_missing
