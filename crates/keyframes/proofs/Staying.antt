-- Right rows stay right. Assumes nothing.
use Rattle.std.proofs.Common.{◌≡◌, ℕ, suc, ◌≤◌, Some, None, sym, refl, ap, ◌∙◌, subst, ⊎_elim, arith}
use Rattle.std.proofs.lemmas.Bool.{cases_Bool, cases_eq, cases_lt}
use Rattle.values.specs.declared.working.Row.{Row}
use Rattle.keyframes.specs.Frames.{Frames, Holds, Stored, Cut, Emptied}
use Rattle.keyframes.specs.Chain.{due, Keeps, Visits, start, next}
use Rattle.keyframes.specs.Right.{RightStays}

-- what holds of each row and its cycle
abbrev pub Each : (ℕ → Row → Type 0) → Frames → Type 0
Each right f = (c : ℕ) (r : Row) → Holds f c r → right c r

no_row : (x : Row) → None ≡ Some x → ⊥
no_row x e = let z : ◌≡◌ {A = ℕ} 0 1 = cc in omega arith

same_row : (x y : Row) → Some x ≡ Some y → x ≡ y
same_row x y e = cc

module _ (right : ℕ → Row → Type 0) where
  pub each_stored : (f : Frames) (c : ℕ) (row : Row) (g : Frames) → Stored f c row g → right c row → Each right f → Each right g
  each_stored f c row g s now h d r e = ⊎_elim
      (λ k. subst (λ q. right q r) (sym k) (subst (right c) (same_row row r (sym s.held_now ∙ ap g.held (sym k) ∙ e)) now))
      (λ n. h d r (s.some_kept d r n e))
      (cases_eq d c)

  pub each_keeps : (f : Frames) (c : ℕ) (row : Row) (g : Frames) → Keeps f c row g → right c row → Each right f → Each right g
  each_keeps f c row g k now h = ⊎_elim
      (λ y. each_stored f c row g (k.put y) now h)
      (λ n. subst (Each right) (sym (k.left n)) h)
      (cases_Bool (due f c))

  pub each_visits : (row : ℕ → Row) → ((c : ℕ) → right c (row c)) → (from : ℕ) (f : Frames) (c : ℕ) (g : Frames)
      → Visits row from f c g → Each right f → Each right g
  each_visits row now from f c g (start) h = h
  each_visits row now from f c g (next {c = b} {g = m} v k) h =
      each_keeps m (suc b) (row (suc b)) g k (now (suc b)) (each_visits row now from f b m v h)

  pub each_emptied : (f : Frames) → Emptied f → Each right f
  each_emptied f e c r h = absurd (no_row r (sym (e c) ∙ h))

-- a cut leaves the rows up to its cycle, so those above may become others
pub each_cut : (right right' : ℕ → Row → Type 0) (k : ℕ) (f g : Frames) → ((c : ℕ) (r : Row) → c ≤ k → right c r → right' c r)
    → Cut f k g → Each right f → Each right' g
each_cut right right' k f g same cut h c r e = ⊎_elim
    (λ l. absurd (no_row r (sym (cut.above c l) ∙ e)))
    (λ l. same c r l (h c r (sym (cut.below c l) ∙ e)))
    (cases_lt k c)

pub right_stays : RightStays
right_stays = record {
  along = λ row from c f g v h. each_visits (λ q r. r ≡ row q) row (λ _. refl) from f c g v h;
  cut = λ row row' k f g same cut h. each_cut (λ q r. r ≡ row q) (λ q r. r ≡ row' q) k f g (λ q r l e. e ∙ sym (same q l)) cut h;
  emptied = λ row f e. each_emptied (λ q r. r ≡ row q) f e;
}

-- one cycle more, with what it is reached by
pub visited : {f g : Frames} {n : ℕ} {row : Row} → Keeps f n row g → (rows : ℕ → Row) (from c : ℕ) (h : Frames) → n ≡ suc c → rows n ≡ row
    → Visits rows from h c f → Visits rows from h n g
visited {f} {g} {n} {row} k rows from c h e same v =
    let k' : Keeps f n (rows n) g = subst (λ r. Keeps f n r g) (sym same) k in
    subst (λ m. Visits rows from h m g) (sym e) (next v (subst (λ m. Keeps f m (rows m) g) e k'))
