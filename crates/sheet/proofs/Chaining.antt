-- The chains of writes, as one more comes to the list and as the last one leaves. Assumes nothing.
use Rattle.std.proofs.Common.{◌≡◌, ℕ, zero, suc, ◌+◌, ◌<◌, ◌≤◌, true, false, cond, eqb, ◌≢◌, List, [], ◌∷◌, ◌++◌, length, get_or, take, set, Some, None, Option, sym, refl, ap, ◌∙◌, ⊎_elim, add-one, arith}
use Rattle.std.proofs.lemmas.List.{length-set, get_or-set_same, get_or-set_other, length-take-le, length-map, length_push, get_or-take, get_or_push, get_or_append_left, get_or-map, take-map, map-append}
use Rattle.std.proofs.lemmas.Option.{get_or_from_slice_get, slice_get-map}
use Rattle.std.proofs.lemmas.Bool.{cases_eq, eq-eqb, ne_eqb, cond-true, cond-false}
use Rattle.sheet.specs.declared.write.Write.{Write}
use Rattle.sheet.specs.Cells.{no_write}
use Rattle.sheet.specs.declared.write.Standing.{Standing}
use Rattle.sheet.specs.Chains.{written, links, up_to, through, Linked, Headed, Within, Chained}
use Rattle.std.specs.List.{slice_get}
use Rattle.std.specs.Option.{option_map}

pub up_to_le : (ws : List Write) (cycle n : ℕ) → up_to ws cycle n ≤ n
up_to_le ws cycle zero = omega arith
up_to_le ws cycle (suc n) =
    let t = eqb (get_or ws n no_write).cycle cycle in
    elim t as (λ b. cond b (suc n) (up_to ws cycle n) ≤ suc n) [ true ↦ omega arith | false ↦ omega (arith, up_to_le ws cycle n) ]

pub up_to_yes : (ws : List Write) (cycle n : ℕ) → (get_or ws n no_write).cycle ≡ cycle → up_to ws cycle (suc n) ≡ suc n
up_to_yes ws cycle n e = cond-true _ _ _ (eq-eqb _ _ e)

pub up_to_no : (ws : List Write) (cycle n : ℕ) → ((get_or ws n no_write).cycle ≡ cycle → ⊥) → up_to ws cycle (suc n) ≡ up_to ws cycle n
up_to_no ws cycle n e = cond-false _ _ _ (ne_eqb _ _ e)

-- the first k of two lists that begin alike
pub up_to_same : (xs ys : List Write) (cycle k : ℕ) → ((i : ℕ) → i < k → get_or xs i no_write ≡ get_or ys i no_write) → up_to xs cycle k ≡ up_to ys cycle k
up_to_same xs ys cycle zero h = refl
up_to_same xs ys cycle (suc k) h =
    let e = h k (omega arith) in
    let f = up_to_same xs ys cycle k (λ i l. h i (omega arith)) in
    cc

-- the latest write of a cycle, where it has one, is in that cycle
abbrev pub Hit : List Write → ℕ → ℕ → Option ℕ → Type 0
Hit ws cycle n None = Unit {0}
Hit ws cycle n (Some i) = (i < n) × ((get_or ws i no_write).cycle ≡ cycle)

pub hit_from : (ws : List Write) (cycle n : ℕ) (at : Option ℕ) → through at ≡ up_to ws cycle n → Hit ws cycle n at
hit_from ws cycle n None e = tt
hit_from ws cycle zero (Some i) e = absurd (omega arith)
hit_from ws cycle (suc n) (Some i) e =
    ⊎_elim
    (λ (y : (get_or ws n no_write).cycle ≡ cycle).
    let s : i ≡ n = omega (arith, e ∙ up_to_yes ws cycle n y) in
    (omega arith, ap (λ k. (get_or ws k no_write).cycle) s ∙ y))
    (λ (no : (get_or ws n no_write).cycle ≡ cycle → ⊥).
    let h = hit_from ws cycle n (Some i) (e ∙ up_to_no ws cycle n no) in
    (omega (arith, h.0), h.1))
    (cases_eq (get_or ws n no_write).cycle cycle)

-- ---- one write more
module _ (ws : List Write) (n : ℕ) (w : Write) (long : length ws ≡ n) where
  push_first : (i : ℕ) → i < n → get_or (ws ++ w ∷ []) i no_write ≡ get_or ws i no_write
  push_first i l = get_or_append_left ws (w ∷ []) no_write i (omega arith)

  push_last : get_or (ws ++ w ∷ []) n no_write ≡ w
  push_last = get_or_push ws w no_write n long

  push_up_to : (cycle k : ℕ) → k ≤ n → up_to (ws ++ w ∷ []) cycle k ≡ up_to ws cycle k
  push_up_to cycle k l = up_to_same (ws ++ w ∷ []) ws cycle k (λ i m. push_first i (omega arith))

  push_within : (cycles : ℕ) → w.cycle < cycles → Within ws cycles n → Within (ws ++ w ∷ []) cycles (n + 1)
  push_within cycles l h i m =
      ⊎_elim
      (λ (e : i ≡ n). rw (e, push_last) l)
      (λ (ne : i ≢ n). rw (push_first i (omega arith)) (h i (omega arith)))
      (cases_eq i n)

  push_linked : (links : List (Option ℕ)) (before : Option ℕ) → length links ≡ n → through before ≡ up_to ws w.cycle n → Linked ws links n → Linked (ws ++ w ∷ []) (links ++ before ∷ []) (n + 1)
  push_linked links before l b h i m =
      ⊎_elim
      (λ (e : i ≡ n).
      rw (e, get_or_push links before None n l, push_last, push_up_to w.cycle n (omega arith)) b)
      (λ (ne : i ≢ n).
      let less : i < n = omega arith in
      let there : i < length links = omega arith in
      rw (get_or_append_left links (before ∷ []) None i there, push_first i less, push_up_to (get_or ws i no_write).cycle i (omega arith)) (h i less))
      (cases_eq i n)

  push_headed : (latest : List (Option ℕ)) → Headed ws latest n → Headed (ws ++ w ∷ []) (set latest w.cycle (Some n)) (n + 1)
  push_headed latest h cycle l =
      let m : cycle < length latest = simp length-set at l in
      let more = ap (up_to (ws ++ w ∷ []) cycle) (add-one n) in
      ⊎_elim
      (λ (e : cycle ≡ w.cycle).
      let there : w.cycle < length latest = omega arith in
      let s = get_or-set_same latest w.cycle (Some n) None there in
      let y : (get_or (ws ++ w ∷ []) n no_write).cycle ≡ cycle = ap (λ v. v.cycle) push_last ∙ sym e in
      ap (λ c. through (get_or (set latest w.cycle (Some n)) c None)) e ∙ ap through s ∙ sym (up_to_yes (ws ++ w ∷ []) cycle n y) ∙ sym more)
      (λ (ne : cycle ≢ w.cycle).
      let no : (get_or (ws ++ w ∷ []) n no_write).cycle ≡ cycle → ⊥ = λ q. ne (sym q ∙ ap (λ v. v.cycle) push_last) in
      ap through (get_or-set_other latest w.cycle cycle (Some n) None ne) ∙ h cycle m ∙ sym (push_up_to cycle n (omega arith)) ∙ sym (up_to_no (ws ++ w ∷ []) cycle n no) ∙ sym more)
      (cases_eq cycle w.cycle)

module _ (standing : List Standing) (latest : List (Option ℕ)) (s : Standing) (before : Chained standing latest) where
  pub chained_push : (place : ℕ) → place ≡ length standing → s.write.cycle < length latest → s.previous ≡ get_or latest s.write.cycle None → Chained (standing ++ s ∷ []) (set latest s.write.cycle (Some place))
  chained_push place e l f =
      let ws = written standing in
      let n = length standing in
      let long : length ws ≡ n = length-map standing _ in
      let more : length (standing ++ s ∷ []) ≡ n + 1 = length_push standing s in
      let at : set latest s.write.cycle (Some place) ≡ set latest s.write.cycle (Some n) = ap (λ k. set latest s.write.cycle (Some k)) e in
      let head : through s.previous ≡ up_to ws s.write.cycle n = ap through f ∙ before.headed s.write.cycle l in
      rw (at) (record {
        within = rw (map-append (λ (t : Standing). t.write) standing (s ∷ []), more, length-set latest s.write.cycle (Some n)) (push_within ws n s.write long (length latest) l before.within);
        linked = rw (map-append (λ (t : Standing). t.write) standing (s ∷ []), map-append (λ (t : Standing). t.previous) standing (s ∷ []), more) (push_linked ws n s.write long (links standing) s.previous (length-map standing _) head before.linked);
        headed = rw (map-append (λ (t : Standing). t.write) standing (s ∷ []), more) (push_headed ws n s.write long latest before.headed);
      })

-- ---- the last of n + 1 writes leaves
module _ (ws : List Write) (n : ℕ) where
  pop_first : (i : ℕ) → i < n → get_or (take n ws) i no_write ≡ get_or ws i no_write
  pop_first i l = get_or-take n ws i no_write l

  pop_up_to : (cycle k : ℕ) → k ≤ n → up_to (take n ws) cycle k ≡ up_to ws cycle k
  pop_up_to cycle k l = up_to_same (take n ws) ws cycle k (λ i m. pop_first i (omega arith))

  pop_within : (cycles : ℕ) → Within ws cycles (n + 1) → Within (take n ws) cycles n
  pop_within cycles h i m = rw (pop_first i m) (h i (omega arith))

  pop_linked : (links : List (Option ℕ)) → Linked ws links (n + 1) → Linked (take n ws) (take n links) n
  pop_linked links h i m =
      rw (get_or-take n links i None m, pop_first i m, pop_up_to (get_or ws i no_write).cycle i (omega arith)) (h i (omega arith))

  pop_headed : (latest : List (Option ℕ)) (w : Write) (before : Option ℕ) → w ≡ get_or ws n no_write → through before ≡ up_to ws w.cycle n → Headed ws latest (n + 1) → Headed (take n ws) (set latest w.cycle before) n
  pop_headed latest w before last b h cycle l =
      let m : cycle < length latest = simp length-set at l in
      let same = pop_up_to cycle n (omega arith) in
      ⊎_elim
      (λ (e : cycle ≡ w.cycle).
      let there : w.cycle < length latest = omega arith in
      ap (λ c. through (get_or (set latest w.cycle before) c None)) e ∙ ap through (get_or-set_same latest w.cycle before None there) ∙ b ∙ ap (λ c. up_to ws c n) (sym e) ∙ sym same)
      (λ (ne : cycle ≢ w.cycle).
      let no : (get_or ws n no_write).cycle ≡ cycle → ⊥ = λ q. ne (sym q ∙ ap (λ v. v.cycle) (sym last)) in
      ap through (get_or-set_other latest w.cycle cycle before None ne) ∙ h cycle m ∙ ap (up_to ws cycle) (add-one n) ∙ up_to_no ws cycle n no ∙ sym same)
      (cases_eq cycle w.cycle)

module _ (standing : List Standing) (latest : List (Option ℕ)) (n : ℕ) (s : Standing) (more : length standing ≡ n + 1) (last : slice_get standing n ≡ Some s) (before : Chained standing latest) where
  last_write : s.write ≡ get_or (written standing) n no_write
  last_write = sym (get_or_from_slice_get (written standing) n s.write no_write (slice_get-map (λ (t : Standing). t.write) standing n ∙ ap (option_map (λ (t : Standing). t.write)) last))

  last_link : s.previous ≡ get_or (links standing) n None
  last_link = sym (get_or_from_slice_get (links standing) n s.previous None (slice_get-map (λ (t : Standing). t.previous) standing n ∙ ap (option_map (λ (t : Standing). t.previous)) last))

  pub chained_pop : Chained (take n standing) (set latest s.write.cycle s.previous)
  chained_pop =
      let ws = written standing in
      let fewer : length (take n standing) ≡ n = length-take-le n standing (omega arith) in
      let link : through s.previous ≡ up_to ws s.write.cycle n = ap through last_link ∙ before.linked n (omega arith) ∙ ap (λ w. up_to ws w.cycle n) (sym last_write) in
      record {
        within = rw (← take-map (λ (t : Standing). t.write) n standing, fewer, length-set latest s.write.cycle s.previous) (pop_within ws n (length latest) (rw (← more) before.within));
        linked = rw (← take-map (λ (t : Standing). t.write) n standing, ← take-map (λ (t : Standing). t.previous) n standing, fewer) (pop_linked ws n (links standing) (rw (← more) before.linked));
        headed = rw (← take-map (λ (t : Standing). t.write) n standing, fewer) (pop_headed ws n latest s.write s.previous last_write link (rw (← more) before.headed));
      }

-- ---- a write read by its place
abbrev pub no_standing : Standing
no_standing = record { write = no_write; previous = None }

pub write_at : (standing : List Standing) (i : ℕ) → i < length standing → (get_or standing i no_standing).write ≡ get_or (written standing) i no_write
write_at standing i l = sym (get_or-map (λ (t : Standing). t.write) standing i no_standing no_write l)

pub link_at : (standing : List Standing) (latest : List (Option ℕ)) → Chained standing latest → (i : ℕ) → i < length standing → through (get_or standing i no_standing).previous ≡ up_to (written standing) (get_or standing i no_standing).write.cycle i
link_at standing latest h i l =
    ap through (sym (get_or-map (λ (t : Standing). t.previous) standing i no_standing None l)) ∙ h.linked i l ∙ ap (λ w. up_to (written standing) w.cycle i) (sym (write_at standing i l))
