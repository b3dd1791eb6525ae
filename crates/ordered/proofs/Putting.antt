-- What a put leaves, in each of its cases. Assumes nothing.
use Rattle.std.proofs.Common.{◌≡◌, ℕ, suc, ◌+◌, ◌<◌, ◌≤◌, Bool, true, false, cond, not, ◌&&◌, ◌||◌, ltb, List, ◌∷◌, ◌++◌, length, get_or, take, drop, set, is_some, Some, None, sym, refl, ap, ◌∙◌, subst, arith, length-set, take-append-drop}
use lib.Seq.{split_at}
use Rattle.std.specs.List.{insert}
use Rattle.std.proofs.lemmas.List.Edits.{length-insert}
use Rattle.std.proofs.lemmas.List.{set_split}
use Rattle.std.proofs.lemmas.Bool.{lt-ltb, le-ltb}
use Rattle.ordered.specs.declared.entry.Entry.{Entry}
use Rattle.ordered.specs.Order.{TotalOrder}
use Rattle.ordered.specs.Entries.{level, ascending, at, Placed}
use Rattle.ordered.specs.Search.{Parts}
use Rattle.ordered.proofs.Lookup.{at_new, front_before, front_missing, back_passes, at_between, at_place, at_missing, ascending_between, ascending_in_place, before_places}
use Rattle.ordered.proofs.Tested.{all_front}

twice : {X : Type 0} (b : Bool) (u w r : X) → cond b u (cond b w r) ≡ cond b u r
twice true u w r = refl
twice false u w r = refl

module _ {K : Type 0} (before : K → K → Bool) (o : TotalOrder before) {V : Type 0}
    (es : List (Entry K V)) (a : ascending before es ≡ true) (room : ℕ) (k : K) (v : V) where
  abbrev entry : Entry K V
  entry = record { key = k; value = v }

  -- k is new, and belongs at i
  module _ (i : ℕ) (parts : Parts before es k i) (apart : (j : ℕ) (d : Entry K V) → j < i → before (get_or es j d).key k ≡ true) where
    new : at before es k ≡ None
    new = at_new before o es a k i parts apart

    pub placed_full : room ≤ length es → Placed before room es es k v false
    placed_full h =
        record {
          answer = sym (ap (λ w. is_some w || ltb (length es) room) new ∙ le-ltb (length es) room h);
          sorted = a;
          values = λ x. refl;
          size = omega arith;
        }

    pub placed_new : length es < room → Placed before room es (insert es i entry) k v true
    placed_new h =
        record {
          answer = sym (ap (λ w. is_some w || ltb (length es) room) new ∙ lt-ltb (length es) room h);
          sorted =
              ascending_between before o (take i es) (drop i es) entry
              (subst (λ l. ascending before l ≡ true) (sym (take-append-drop i es)) a)
              (front_before before o es a k i parts apart)
              (back_passes before o es a k i parts);
          values = λ x.
              at_between before o (take i es) (drop i es) entry x (front_missing before o es a k i parts apart)
              ∙ ap (λ l. cond (level before k x) (Some v) (at before l x)) (take-append-drop i es);
          size =
              length-insert es i entry parts.within
              ∙ ap (λ w. length es + cond (true && not (is_some w)) 1 0) (sym new);
        }

  -- k stands at i
  module _ (i : ℕ) (within : i < length es) (same : (d : Entry K V) → (get_or es i d).key ≡ k) where
    abbrev old : Entry K V
    old = get_or es i entry

    same_key : k ≡ old.key
    same_key = sym (same entry)

    found : at before es k ≡ Some old.value
    found = subst (λ w. at before es w ≡ Some old.value) (same entry) (at_place before o es i entry a within)

    parted : es ≡ take i es ++ old ∷ drop (suc i) es
    parted = split_at es i entry within

    -- the entries in front of the old one are before it
    missing : at before (take i es) k ≡ None
    missing =
        at_missing before o (λ w. before w k) (take i es) k
        (all_front (λ e. before e.key k) i es (λ j d l. subst (λ w. before (get_or es j d).key w ≡ true) (same d) (before_places before o es j i d a l within)))
        (o.irreflexive k)

    pub placed_over : Placed before room es (set es i entry) k v true
    placed_over =
        record {
          answer = sym (ap (λ w. is_some w || ltb (length es) room) found);
          sorted =
              ap (ascending before) (set_split es i entry within)
              ∙ ascending_in_place before o (take i es) (drop (suc i) es) old entry same_key
              ∙ ap (ascending before) (sym parted) ∙ a;
          values = λ x.
              ap (λ l. at before l x) (set_split es i entry within)
              ∙ at_between before o (take i es) (drop (suc i) es) entry x missing
              ∙ sym (twice (level before k x) (Some v) (Some old.value) (at before (take i es ++ drop (suc i) es) x))
              ∙ ap (λ w. cond (level before k x) (Some v) (cond (level before w x) (Some old.value) (at before (take i es ++ drop (suc i) es) x))) same_key
              ∙ ap (cond (level before k x) (Some v))
              (sym (at_between before o (take i es) (drop (suc i) es) old x (subst (λ w. at before (take i es) w ≡ None) same_key missing))
              ∙ ap (λ l. at before l x) (sym parted));
          size = length-set es i entry ∙ (let e = ap (λ w. length es + cond (true && not (is_some w)) 1 0) found in omega arith);
        }
