-- Where the moves of the demonstration start, and the row that they keep: that of cycle 32 and no other.
use Rattle.std.proofs.Common.{◌≡◌, ℕ, suc, ◌%◌, ◌<◌, ◌≤◌, Bool, true, false, cond, eqb, List, Some, None, Option, sym, refl, ◌∙◌, subst, ⊎_elim, arith}
use Rattle.std.proofs.lemmas.Bool.{and_left, both_ways, cases_eq, cases_lt, cond-false, ne_eqb}
use Rattle.values.specs.declared.scalar.State.{State}
use Rattle.values.specs.declared.scalar.Value.{Value}
use Rattle.values.specs.declared.working.Row.{Row}
use Rattle.blocks.specs.Library.{Library}
use Rattle.drawing.specs.declared.drawing.Drawing.{Drawing}
use Rattle.keyframes.specs.Frames.{Frames, Holds, Only, Emptied, Stored, Cut}
use Rattle.keyframes.specs.Chain.{due, Keeps}
use Rattle.player.specs.Play.{Head, packed, Plays, here, on}
use Rattle.player.specs.Moves.{Starts, playhead, keyframe, beginning, Moves}
use Rattle.player.specs.Calls.{Renews, with_frames}

-- the row of cycle 32 is held, and no other
pub record Holds32 (f : Frames) : Type 0 where
  pub row : Row
  pub only : Only 32 row f

-- nothing is held, and the row of cycle 32 would be taken
pub record Takes32 (f : Frames) : Type 0 where
  pub emptied : Emptied f
  pub takes : f.takes 32 ≡ true

only_32 : (f : Frames) (row : Row) → Holds f 32 row → ((d : ℕ) → (d ≡ 32 → ⊥) → f.held d ≡ None) → Holds32 f
only_32 f row held none = record {
  row = row;
  only = λ d. ⊎_elim
      (λ e. subst (λ c. f.held c ≡ cond (eqb c 32) (Some row) None) (sym e) held)
      (λ ne. none d ne ∙ sym (cond-false _ _ _ (ne_eqb d 32 ne)))
      (cases_eq d 32);
}

no_other : {f : Frames} → Holds32 f → (d : ℕ) → (d ≡ 32 → ⊥) → f.held d ≡ None
no_other h d ne = h.only d ∙ cond-false _ _ _ (ne_eqb d 32 ne)

none_some : {o : Option Row} {row : Row} → o ≡ None → o ≡ Some row → ⊥
none_some e h = let z : ◌≡◌ {A = ℕ} 0 1 = cc in omega arith

stored : (f g : Frames) (row : Row) → Takes32 f → Stored f 32 row g → Holds32 g
stored f g row ready s = only_32 g row s.held_now (λ d ne. go d ne (g.held d) refl)
  where
    go : (d : ℕ) → (d ≡ 32 → ⊥) → (o : Option Row) → g.held d ≡ o → g.held d ≡ None
    go d ne None e = e
    go d ne (Some r) e = absurd (none_some (ready.emptied d) (s.some_kept d r ne e))

cut_10 : (f g : Frames) → Holds32 f → Cut f 10 g → Emptied g
cut_10 f g h c d = ⊎_elim (c.above d) (λ low. c.below d low ∙ no_other h d (λ e. omega arith)) (cases_lt 10 d)

cut_32 : (f g : Frames) → Holds32 f → Cut f 32 g → Holds32 g
cut_32 f g h c =
    only_32 g h.row (c.below 32 (omega arith) ∙ h.only 32)
    (λ d ne. ⊎_elim (c.above d) (λ low. c.below d low ∙ no_other h d ne) (cases_lt 32 d))

-- a cycle that 32 does not divide
undue : (f : Frames) (c : ℕ) → (c % 32 ≡ 0 → ⊥) → due f c ≡ false
undue f c h = and_left _ _ (ne_eqb (c % 32) 0 h)

module _ {L : Library} {D : Drawing} {h : Head} {current : Bool} where
  starts_at_0 : {t s : ℕ} {st : List State} → Starts L D h current t s st → ((d : ℕ) → d ≤ t → h.frames.held d ≡ None) → (current ≡ true → h.at ≡ 0) → s ≡ 0
  starts_at_0 (playhead e top) none first = first e
  starts_at_0 (keyframe c row held below top above) none first = absurd (none_some (none c below) held)
  starts_at_0 (beginning st e low begins) none first = refl

  starts_at_32 : {t s : ℕ} {st : List State} → Starts L D h current t s st → 32 ≤ t → Holds32 h.frames → (current ≡ true → h.at < 32) → s ≡ 32
  starts_at_32 (playhead e top) low kept before = absurd (none_some (top 32 (before e) low) (kept.only 32))
  starts_at_32 (keyframe c row held below top above) low kept before =
      ⊎_elim (λ e. e) (λ ne. absurd (none_some (no_other kept c ne) held)) (cases_eq c 32)
  starts_at_32 (beginning st e none begins) low kept before = absurd (none_some (none 32 low) (kept.only 32))

module _ {L : Library} {D : Drawing} {rows : ℕ → List Value} where
  plays_up : {from : ℕ} {first : List State} {f : Frames} {t : ℕ} {st : List State} {g : Frames} → Plays L D rows from first f t st g → from ≤ t
  plays_up here = omega arith
  plays_up (on before works reaches) = let low = plays_up before in omega arith

  -- no cycle reached is due
  plays_quiet : {from : ℕ} {first : List State} {f : Frames} {t : ℕ} {st : List State} {g : Frames} → Plays L D rows from first f t st g
      → ((c : ℕ) → from < c → c ≤ t → c % 32 ≡ 0 → ⊥) → g ≡ f
  plays_quiet here quiet = refl
  plays_quiet (on {c = c} {g = m} before works reaches) quiet =
      let low = plays_up before in
      reaches.keeps.left (undue m (suc c) (quiet (suc c) (omega arith) (omega arith))) ∙ plays_quiet before (λ d above high. quiet d above (omega arith))

  -- the row of cycle 32 is put on the way
  plays_over : {first : List State} {f : Frames} {t : ℕ} {st : List State} {g : Frames} → Plays L D rows 0 first f t st g
      → 32 ≤ t → t < 64 → Takes32 f → Holds32 g
  plays_over here low high r = absurd (omega arith)
  plays_over {f = f} {g = g} (on {c = c} {after = after} {g = m} before works reaches) low high r = ⊎_elim
      (λ lt.
      let same : m ≡ f = plays_quiet before (λ d above under. omega arith) in
      let at : suc c ≡ 32 = omega arith in
      let keeps : Keeps f 32 (packed after) g = subst (λ k. Keeps k 32 (packed after) g) same (subst (λ n. Keeps m n (packed after) g) at reaches.keeps) in
      stored f g (packed after) r (keeps.put r.takes))
      (λ ge. subst Holds32 (sym (reaches.keeps.left (undue m (suc c) (omega arith)))) (plays_over before ge (omega arith) r))
      (cases_lt c 32)

  module _ {h h' : Head} {current : Bool} where
    -- to 57 with no row kept yet
    pub moves_from_0 : {n : ℕ} → Takes32 h.frames → (current ≡ true → h.at ≡ 0) → Moves L D rows h current 57 n h' → (n ≡ 57) × Holds32 h'.frames
    moves_from_0 {n} ready first m =
        let at : m.start ≡ 0 = starts_at_0 m.starts (λ d low. ready.emptied d) first in
        let worked : n ≡ 57 = omega (arith, m.reported) in
        (worked, plays_over (subst (λ s. Plays L D rows s m.first h.frames 57 h'.states h'.frames) at m.plays) (omega arith) (omega arith) ready)

    -- to 57 from the row of cycle 32
    pub moves_from_32 : {n : ℕ} → Holds32 h.frames → (current ≡ true → h.at < 32) → Moves L D rows h current 57 n h' → (n ≡ 25) × Holds32 h'.frames
    moves_from_32 {n} kept before m =
        let at : m.start ≡ 32 = starts_at_32 m.starts (omega arith) kept before in
        let worked : n ≡ 25 = omega (arith, m.reported) in
        (worked, subst Holds32 (sym (plays_quiet m.plays (λ c low high. omega arith))) kept)

    -- to 3, below any row
    pub moves_to_3 : {n : ℕ} → Holds32 h.frames → (current ≡ true → h.at ≡ 0) → Moves L D rows h current 3 n h' → (n ≡ 3) × Holds32 h'.frames
    moves_to_3 {n} kept first m =
        let at : m.start ≡ 0 = starts_at_0 m.starts (λ d low. no_other kept d (λ e. omega arith)) first in
        let worked : n ≡ 3 = omega (arith, m.reported) in
        (worked, subst Holds32 (sym (plays_quiet m.plays (λ c low high. omega arith))) kept)

-- changes, over stores that take the row of cycle 32 where they hold nothing
module _ {S : Type 0} (store : S → Frames) (ready : (s : S) → Emptied (store s) → Takes32 (store s)) {L : Library} {D : Drawing} {rows : ℕ → List Value} {h h' : Head} {n : ℕ} where
  -- one at cycle 10 lets the row go, and it is put again
  pub renews_from_10 : Holds32 h.frames → h.at ≡ 57 → Renews store L D rows h 10 n h' → (n ≡ 57) × Holds32 h'.frames
  renews_from_10 kept at r =
      let again = r.again (omega (arith, at)) in
      moves_from_0 (ready r.cut (cut_10 h.frames (store r.cut) kept r.is_cut)) (λ e. absurd (both_ways false refl e))
      (subst (λ t. Moves L D rows (with_frames h (store r.cut)) false t n h') at again)

  -- one at cycle 32 leaves it
  pub renews_from_32 : Holds32 h.frames → h.at ≡ 57 → Renews store L D rows h 32 n h' → (n ≡ 25) × Holds32 h'.frames
  renews_from_32 kept at r =
      let again = r.again (omega (arith, at)) in
      moves_from_32 (cut_32 h.frames (store r.cut) kept r.is_cut) (λ e. absurd (both_ways false refl e))
      (subst (λ t. Moves L D rows (with_frames h (store r.cut)) false t n h') at again)
