-- A test that holds of each item of a list. Assumes nothing.
use Rattle.std.proofs.Common.{◌≡◌, ℕ, ◌+◌, ◌<◌, ◌≤◌, Bool, true, false, cond, ◌&&◌, List, [], ◌∷◌, ◌++◌, length, get_or, take, drop, filter, sym, refl, ap, ◌∙◌, subst, append-nil, arith, take-append-drop, length-take, length-drop}
use Rattle.std.specs.List.{list_all}
use Rattle.std.proofs.lemmas.List.{get_or-take, get_or-drop}
use Rattle.std.proofs.lemmas.List.Elements.{filter-append}
use Rattle.std.proofs.lemmas.List.Sums.{list_all-from_AllPass}
use Rattle.std.proofs.lemmas.Bool.{and_parts, and_from}

module _ {X : Type 0} where
  -- a test that holds at each of the first n places, and one that holds at each place from n on
  pub all_front : (p : X → Bool) (n : ℕ) (xs : List X) → ((k : ℕ) (d : X) → k < n → p (get_or xs k d) ≡ true) → list_all p (take n xs) ≡ true
  all_front p n xs h = list_all-from_AllPass p (take n xs) (λ k d l.
      let b : k < n = omega (arith, length-take n xs) in
      subst (λ x. p x ≡ true) (sym (get_or-take n xs k d b)) (h k d b))

  pub all_back : (p : X → Bool) (n : ℕ) (xs : List X) → ((k : ℕ) (d : X) → n ≤ k → k < length xs → p (get_or xs k d) ≡ true) → list_all p (drop n xs) ≡ true
  all_back p n xs h = list_all-from_AllPass p (drop n xs) (λ k d l.
      subst (λ x. p x ≡ true) (sym (get_or-drop n xs k d)) (h (n + k) d (omega arith) (omega (arith, length-drop n xs))))

  pub all_pass_between : (p : X → Bool) (xs ys : List X) (y : X) → p y ≡ true → list_all p (xs ++ ys) ≡ true → list_all p (xs ++ y ∷ ys) ≡ true
  all_pass_between p [] ys y h a = and_from (p y) (list_all p ys) h a
  all_pass_between p (x ∷ xs) ys y h a =
      and_from (p x) (list_all p (xs ++ y ∷ ys))
      (and_parts (p x) (list_all p (xs ++ ys)) a).0
      (all_pass_between p xs ys y h (and_parts (p x) (list_all p (xs ++ ys)) a).1)

  pub all_pass_in_place : (p : X → Bool) (xs ys : List X) (y z : X) → p z ≡ p y → list_all p (xs ++ z ∷ ys) ≡ list_all p (xs ++ y ∷ ys)
  all_pass_in_place p [] ys y z e = ap (λ b. b && list_all p ys) e
  all_pass_in_place p (x ∷ xs) ys y z e = ap (λ b. p x && b) (all_pass_in_place p xs ys y z e)

  -- a filter keeps what passes, and only that
  kept_all : (p : X → Bool) (xs : List X) → list_all p xs ≡ true → filter p xs ≡ xs
  kept_all p [] h = refl
  kept_all p (x ∷ xs) h =
      let a = and_parts (p x) (list_all p xs) h in
      ap (λ b. cond b (x ∷ filter p xs) (filter p xs)) a.0 ∙ ap (λ l. x ∷ l) (kept_all p xs a.1)

  kept_none : (p t : X → Bool) → ((x : X) → t x ≡ true → p x ≡ false) → (xs : List X) → list_all t xs ≡ true → filter p xs ≡ []
  kept_none p t n [] h = refl
  kept_none p t n (x ∷ xs) h =
      let a = and_parts (t x) (list_all t xs) h in
      ap (λ b. cond b (x ∷ filter p xs) (filter p xs)) (n x a.0) ∙ kept_none p t n xs a.1

  -- the front is what a filter keeps, where all of it passes and nothing after it does
  pub kept_front : (p t : X → Bool) → ((x : X) → t x ≡ true → p x ≡ false) → (xs : List X) (n : ℕ)
      → list_all p (take n xs) ≡ true → list_all t (drop n xs) ≡ true → take n xs ≡ filter p xs
  kept_front p t apart xs n h k =
      sym (ap (filter p) (sym (take-append-drop n xs)) ∙ filter-append p (take n xs) (drop n xs)
      ∙ ap (λ l. l ++ filter p (drop n xs)) (kept_all p (take n xs) h) ∙ ap (λ l. take n xs ++ l) (kept_none p t apart (drop n xs) k)
      ∙ append-nil (take n xs))
