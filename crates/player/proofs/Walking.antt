-- Playing is walking: the states and keyframes of a player are those of the walk from cycle 0.
use Rattle.std.proofs.Common.{◌≡◌, ℕ, suc, ◌<◌, ◌≤◌, Bool, true, false, List, Some, None, Option, sym, refl, ◌∙◌, subst, ⊎_elim, arith}
use Rattle.std.proofs.lemmas.Bool.{both_ways, cases_eq, cases_lt, cases_order}
use Rattle.values.specs.declared.scalar.State.{State}
use Rattle.values.specs.declared.scalar.Value.{Value}
use Rattle.values.specs.declared.working.Row.{Row}
use Rattle.blocks.specs.Library.{Library, Sound}
use Rattle.drawing.specs.declared.drawing.Drawing.{Drawing}
use Rattle.keyframes.specs.Frames.{Frames, Holds}
use Rattle.keyframes.specs.Chain.{due}
use Rattle.walk.specs.Cycle.{Solves}
use Rattle.walk.specs.Opening.{blocks_of, fits}
use Rattle.walk.specs.Walk.{Walks, start, pass}
use Rattle.walk.proofs.Steps.{order_solves}
use Rattle.walk.proofs.Uniqueness.{causal}
use Rattle.player.specs.Play.{Head, packed, unpacked, Reaches, Plays, here, on}
use Rattle.player.specs.Moves.{Starts, playhead, keyframe, beginning, Moves}
use Rattle.player.specs.Law.{TrueFrames}
use Rattle.player.specs.Calls.{Renews}

same_row : {o : Option Row} {r s : Row} → o ≡ Some r → o ≡ Some s → r ≡ s
same_row p q = cc

none_some : {o : Option Row} {r : Row} → o ≡ None → o ≡ Some r → ⊥
none_some p q = let z : ◌≡◌ {A = ℕ} 0 1 = cc in omega arith

module _ (L : Library) (sound : Sound L) (D : Drawing) (fitting : fits L D) where
  -- a store stays true as a cycle is reached
  frames_more : (rows : ℕ → List Value) (f f' : Frames) (c : ℕ) (st : List State) → TrueFrames L D rows f → Walks L (blocks_of D) rows c st → Reaches f c st f' → TrueFrames L D rows f'
  frames_more rows f f' c st good walked r = go (due f c) refl
    where
      go : (t : Bool) → due f c ≡ t → TrueFrames L D rows f'
      go true e d row held =
          ⊎_elim
          (λ same.
          let here : packed st ≡ row = same_row (r.keeps.put e).held_now (subst (λ n. Holds f' n row) same held) in
          subst (λ n. Walks L (blocks_of D) rows n (unpacked row)) (sym same) (subst (λ x. Walks L (blocks_of D) rows c (unpacked x)) here (subst (Walks L (blocks_of D) rows c) (sym (r.back e)) walked)))
          (λ other. good d row ((r.keeps.put e).some_kept d row other held))
          (cases_eq d c)
      go false e d row held = good d row (subst (λ g. Holds g d row) (r.keeps.left e) held)

  plays_walk : (rows : ℕ → List Value) {a : ℕ} {s : List State} {f : Frames} → Walks L (blocks_of D) rows a s → TrueFrames L D rows f → {t : ℕ} {st : List State} {f' : Frames} → Plays L D rows a s f t st f' → Walks L (blocks_of D) rows t st × TrueFrames L D rows f'
  plays_walk rows walked good here = (walked, good)
  plays_walk rows walked good (on {c = c} {states = states} {after = after} {g = k} {g' = k'} before works reaches) =
      let so_far = plays_walk rows walked good before in
      let now = pass so_far.0 (order_solves L sound D fitting states (rows c)) works in
      (now, frames_more rows k k' (suc c) after so_far.1 now reaches)

  starts_walk : (rows : ℕ → List Value) {h : Head} {current : Bool} {t s : ℕ} {st : List State} → (current ≡ true → Walks L (blocks_of D) rows h.at h.states) → TrueFrames L D rows h.frames → Starts L D h current t s st → Walks L (blocks_of D) rows s st
  starts_walk rows mine good (playhead e top) = mine e
  starts_walk rows mine good (keyframe c row held below top above) = good c row held
  starts_walk rows mine good (beginning first e none begins) = start begins

  -- a player that is true to the rows
  pub record TrueHead (rows : ℕ → List Value) (h : Head) : Type 0 where
    pub states : Walks L (blocks_of D) rows h.at h.states
    pub shown : Solves L (blocks_of D) h.states (rows h.at) h.shown
    pub frames : TrueFrames L D rows h.frames

  pub moves_true : (rows : ℕ → List Value) {h h' : Head} {current : Bool} {t r : ℕ} → (current ≡ true → Walks L (blocks_of D) rows h.at h.states) → TrueFrames L D rows h.frames → Moves L D rows h current t r h' → TrueHead rows h'
  moves_true rows {h} {h'} {current} {t} {r} mine good m =
      let end = plays_walk rows (starts_walk rows mine good m.starts) good m.plays in
      record {
        states = subst (λ n. Walks L (blocks_of D) rows n h'.states) (sym m.arrived) end.0;
        shown = subst (λ n. Solves L (blocks_of D) h'.states (rows n) h'.shown) (sym m.arrived) (subst (Solves L (blocks_of D) h'.states (rows t)) (sym m.shows) (order_solves L sound D fitting h'.states (rows t)));
        frames = end.1;
      }

  -- after a change from row k on
  pub renews_true : {S : Type 0} (store : S → Frames) (rows rows' : ℕ → List Value) {h h' : Head} {k r : ℕ} → ((i : ℕ) → i < k → rows i ≡ rows' i) → TrueHead rows h → Renews store L D rows' h k r h' → TrueHead rows' h' × (h'.at ≡ h.at) × (h'.rows ≡ h.rows)
  renews_true store rows rows' {h} {h'} {k} {r} same true-head n = ⊎_elim at_k (⊎_elim below above) (cases_order k h.at)
    where
      kept : (d : ℕ) (row : Row) → Holds (store n.cut) d row → d ≤ k
      kept d row held = ⊎_elim (λ high. absurd (none_some (n.is_cut.above d high) held)) (λ low. low) (cases_lt k d)

      cut_true : TrueFrames L D rows' (store n.cut)
      cut_true d row held =
          let low = kept d row held in
          causal L (blocks_of D) rows rows' d (λ i small. same i (omega arith)) (unpacked row) (true-head.frames d row (sym (n.is_cut.below d low) ∙ held))

      stay : h.at ≤ k → Walks L (blocks_of D) rows' h.at h.states
      stay low = causal L (blocks_of D) rows rows' h.at (λ i small. same i (omega arith)) h.states true-head.states

      at_k : k ≡ h.at → TrueHead rows' h' × (h'.at ≡ h.at) × (h'.rows ≡ h.rows)
      at_k e =
          subst (λ g. TrueHead rows' g × (g.at ≡ h.at) × (g.rows ≡ h.rows)) (sym (n.renewed e).1)
          (record { states = stay (omega arith); shown = order_solves L sound D fitting h.states (rows' h.at); frames = cut_true }, refl, refl)

      below : k < h.at → TrueHead rows' h' × (h'.at ≡ h.at) × (h'.rows ≡ h.rows)
      below lt =
          let m = n.again lt in
          (moves_true rows' (λ e. absurd (both_ways false refl e)) cut_true m, m.arrived, m.same_rows)

      above : h.at < k → TrueHead rows' h' × (h'.at ≡ h.at) × (h'.rows ≡ h.rows)
      above lt =
          subst (λ g. TrueHead rows' g × (g.at ≡ h.at) × (g.rows ≡ h.rows)) (sym (n.left lt).1)
          (record { states = stay (omega arith); shown = subst (λ x. Solves L (blocks_of D) h.states x h.shown) (same h.at lt) true-head.shown; frames = cut_true }, refl, refl)
