-- What each event does to the standing writes.
use Rattle.std.proofs.Common.{◌≡◌, ℕ, ◌-◌, ◌<◌, ◌≤◌, cond, eqb, List, [], ◌∷◌, ◌++◌, length, get_or, take, sym, refl, ap, ◌∙◌, subst, inl, inr, ⊎_elim, arith}
use Rattle.std.proofs.lemmas.List.{length_push, get_or_push, get_or_append_left, length-take-le, get_or-take}
use Rattle.std.proofs.lemmas.Bool.{cases_lt, eq-eqb, ne_eqb}
use Rattle.sheet.specs.declared.write.Write.{Write}
use Rattle.sheet.specs.Cells.{no_write}
use Rattle.runs.specs.Standing.{Event, wrote, took_back, began, dropped, nothing, begun, Stands, StandingAt}

pub stands_below : (es : List Event) (i : ℕ) (w : Write) → Stands es i w → i < length es
stands_below [] i w s = absurd s
stands_below (wrote u ∷ past) i w s = ⊎_elim (λ e. omega (arith, e.0)) (λ old. omega (arith, stands_below past i w old)) s
stands_below (took_back ∷ past) i w s = omega (arith, stands_below past i w s.0)
stands_below (began ∷ past) i w s = omega (arith, stands_below past i w s)
stands_below (dropped ∷ past) i w s = omega (arith, stands_below past i w s.0)
stands_below (nothing ∷ past) i w s = omega (arith, stands_below past i w s)

pub begun_below : (es : List Event) → begun es ≤ length es
begun_below [] = omega arith
begun_below (wrote u ∷ past) = omega (arith, begun_below past)
begun_below (took_back ∷ past) = omega (arith, begun_below past)
begun_below (began ∷ past) = omega arith
begun_below (dropped ∷ past) = omega (arith, begun_below past)
begun_below (nothing ∷ past) = omega (arith, begun_below past)

pub standing_none : StandingAt (λ k. 0) [] []
standing_none = record { rising = λ k l lt inside. absurd (omega arith); each = λ k inside. absurd (omega arith); all = λ i w s. absurd s }

-- one write more, at the latest place
module _ (past : List Event) (ws : List Write) (u : Write) (place : ℕ → ℕ) (s : StandingAt place past ws) where
  abbrev pub placed : ℕ → ℕ
  placed k = cond (eqb k (length ws)) (length past) (place k)

  pub placed_old : (k : ℕ) → k < length ws → placed k ≡ place k
  placed_old k lt = ap (λ b. cond b (length past) (place k)) (ne_eqb k (length ws) (λ e. omega arith))

  pub placed_new : (k : ℕ) → k ≡ length ws → placed k ≡ length past
  placed_new k e = ap (λ b. cond b (length past) (place k)) (eq-eqb k (length ws) e)

  pub standing_push : StandingAt placed (wrote u ∷ past) (ws ++ u ∷ [])
  standing_push = record {
    rising = λ k l lt inside.
        let low : k < length ws = omega (arith, length_push ws u) in
        let before : placed k < length past = omega (arith, placed_old k low, stands_below past (place k) (get_or ws k no_write) (s.each k low)) in
        ⊎_elim
        (λ (high : l < length ws). omega (arith, placed_old k low, placed_old l high, s.rising k l lt high))
        (λ (last : length ws ≤ l). let end : l ≡ length ws = omega (arith, length_push ws u) in omega (arith, placed_new l end, before))
        (cases_lt l (length ws));
    each = λ k inside.
        ⊎_elim
        (λ (low : k < length ws). inr (subst (λ i. Stands past i (get_or (ws ++ u ∷ []) k no_write)) (sym (placed_old k low)) (subst (Stands past (place k)) (sym (get_or_append_left ws (u ∷ []) no_write k low)) (s.each k low))))
        (λ (last : length ws ≤ k). let end : k ≡ length ws = omega (arith, length_push ws u) in inl (placed_new k end, get_or_push ws u no_write k (sym end)))
        (cases_lt k (length ws));
    all = λ i w st.
        ⊎_elim
        (λ (e : (i ≡ length past) × (w ≡ u)). (length ws, (omega (arith, length_push ws u), (placed_new (length ws) refl ∙ sym e.0, get_or_push ws u no_write (length ws) refl ∙ sym e.1))))
        (λ (old : Stands past i w).
        let a = s.all i w old in
        (a.0, (omega (arith, length_push ws u, a.1.0), (placed_old a.0 a.1.0 ∙ a.1.1.0, get_or_append_left ws (u ∷ []) no_write a.0 a.1.0 ∙ a.1.1.1))))
        st;
  }

-- the first m writes, where the event strikes out the others
module _ (past : List Event) (ws : List Write) (place : ℕ → ℕ) (s : StandingAt place past ws) where
  standing_cut : (es : List Event) (m : ℕ) → m ≤ length ws → ((k : ℕ) → k < m → Stands es (place k) (get_or ws k no_write))
      → ((i : ℕ) (w : Write) → Stands es i w → Stands past i w × ((k : ℕ) → k < length ws → place k ≡ i → k < m)) → StandingAt place es (take m ws)
  standing_cut es m few keeps only =
      let size : length (take m ws) ≡ m = length-take-le m ws few in
      record {
        rising = λ k l lt inside. s.rising k l lt (omega (arith, size));
        each = λ k inside. let low : k < m = omega (arith, size) in subst (Stands es (place k)) (sym (get_or-take m ws k no_write low)) (keeps k low);
        all = λ i w st.
            let both = only i w st in
            let a = s.all i w both.0 in
            let low : a.0 < m = both.1 a.0 a.1.0 a.1.1.0 in
            (a.0, (omega (arith, size), (a.1.1.0, get_or-take m ws a.0 no_write low ∙ a.1.1.1)));
      }

  earlier : (k l : ℕ) → k < length ws → l < length ws → place k < place l → k < l
  earlier k l kin lin lt = ⊎_elim (λ (yes : k < l). yes) (λ (no : l ≤ k). ⊎_elim (λ (less : l < k). absurd (omega (arith, s.rising l k less kin))) (λ (more : k ≤ l). let e : place k ≡ place l = ap place (let z : k ≡ l = omega arith in z) in absurd (omega arith)) (cases_lt l k)) (cases_lt k l)

  pub standing_pop : 0 < length ws → StandingAt place (took_back ∷ past) (take (length ws - 1) ws)
  standing_pop some =
      let last : length ws - 1 < length ws = omega arith in
      standing_cut (took_back ∷ past) (length ws - 1) (omega arith)
      (λ k low. (s.each k (omega arith), (place (length ws - 1), (get_or ws (length ws - 1) no_write, (s.rising k (length ws - 1) low last, s.each (length ws - 1) last)))))
      (λ i w st. (
        st.0,
        λ k inside e.
            let a = s.all st.1.0 st.1.1.0 st.1.1.1.1 in
            let before = earlier k a.0 inside a.1.0 (omega (arith, e, a.1.1.0, st.1.1.1.0)) in
            omega (arith, before, a.1.0),
      ))

  pub standing_drop : (m : ℕ) → m ≤ length ws → ((k : ℕ) → k < length ws → (k < m → place k < begun past) × (place k < begun past → k < m)) → StandingAt place (dropped ∷ past) (take m ws)
  standing_drop m few within =
      standing_cut (dropped ∷ past) m few
      (λ k low. (s.each k (omega arith), (within k (omega arith)).0 low))
      (λ i w st. (st.0, λ k inside e. (within k inside).1 (omega (arith, e, st.1))))
