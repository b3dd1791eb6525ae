-- The demonstration's run, call by call.
use Rattle.std.proofs.Common.{◌≡◌, ℕ, leb, List, [], ◌∷◌, length, Some, None, sym, refl, ap, ◌∙◌, subst, arith}
use Rattle.std.proofs.lemmas.Bool.{leb-true}
use Rattle.values.specs.declared.packed.Cell.{Cell}
use Rattle.blocks.specs.declared.library.BlockLibrary as BlockLibrary
use Rattle.keyframes.specs.declared.store.KeyframeStore as KeyframeStore
use Rattle.blocks.specs.Library.{Library}
use Rattle.plant.specs.Plant.{plant}
use Rattle.plant.specs.PlantLaws.{plant_sound}
use Rattle.draft.specs.Drafts.{means}
use Rattle.drawing.specs.declared.drawing.Drawing.{Drawing}
use Rattle.packed.specs.Example.{counter}
use Rattle.sheet.specs.declared.write.Write.{Write}
use Rattle.sheet.specs.Page.{Page, latest_write}
use Rattle.sheet.specs.Rows.{rows_of}
use Rattle.marks.specs.declared.table.MarkTable.{MarkTable}
use Rattle.keyframes.specs.Frames.{Frames, Emptied}
use Rattle.walk.specs.Opening.{blocks_of, columns_of}
use Rattle.walk.specs.Walk.{Finds}
use Rattle.player.specs.declared.answer.Answer.{Answer}
use Rattle.player.specs.declared.answer.Answer.TheVariants as answer
use Rattle.player.specs.Feed.{Feed}
use Rattle.player.specs.Feed as feed
use Rattle.player.specs.Play.{Head, head_of}
use Rattle.player.specs.Moves.{Moves}
use Rattle.player.specs.Walker.{Walker, walked, judge, accepted, unless}
use Rattle.player.specs.Law.{Agrees}
use Rattle.player.specs.Calls.{Renews, Outcome, Done, fault_of}
use Rattle.player.proofs.Agreeing.{judged}
use Rattle.player.proofs.Laws.{lawful}
use Rattle.runs.specs.declared.call.Call.{Call}
use Rattle.runs.specs.declared.call.Call.TheVariants as call
use Rattle.runs.specs.Session.{ground}
use Rattle.runs.specs.Chain.{Desk, MadeOf, Made, Chain, call as next, done}
use Rattle.runs.proofs.Chaining.{made_ground}
use Rattle.worked_examples.specs.Demonstration.{whole, sheet, Reads, calls, answers}
use Rattle.worked_examples.proofs.Keeping.{Holds32, Takes32, moves_from_0, moves_from_32, moves_to_3, renews_from_10, renews_from_32}
use Rattle.worked_examples.proofs.Figures.{walker, three_at_10, two_at_32, two, Shows, at_57, at_3, with_3, with_2}

-- a call that works k cycles by a move, where such a move works n
told : {X : ℕ → Type 0} {f : Frames} {r : Answer} (n : ℕ) → ((k : ℕ) × (r ≡ answer.Worked k) × X k) → ((k : ℕ) → X k → (k ≡ n) × Holds32 f) → (r ≡ answer.Worked n) × Holds32 f
told n (k, is, x) by = (is ∙ ap answer.Worked (by k x).0, (by k x).1)

module _ {L S : Type 0} {l : BlockLibrary.Ghosts L} {s : KeyframeStore.Ghosts S} (library : L → Library) (store : S → Frames) (ready : (s : S) → Emptied (store s) → Takes32 (store s)) (D : Drawing) (is : means D.draft ≡ counter) (cells : List Cell) (reads : Reads cells) where
  abbrev pub head : Desk L S l s → Head
  head d = head_of store d.player

  -- a player of the plant library on the counter's drawing, that agrees with a walker on the demonstration's sheet
  pub record At (w : Walker) (d : Desk L S l s) : Type 0 where
    pub library_is : library d.player.library ≡ plant
    pub drawing_is : d.player.drawing ≡ D
    pub agrees : Agrees plant D (head d) d.page w
    pub ground_is : ground d.page ≡ sheet cells

  pub page_is : {w : Walker} {d : Desk L S l s} → At w d → d.page ≡ walked (sheet cells) w
  page_is {w} a = a.agrees.page ∙ ap (λ p. walked p w) a.ground_is

  -- an accepted call
  made_done : (f : Feed) (c : Call) (w : Walker) (d e : Desk L S l s) (r : Answer) → judge (walked (sheet cells) w) 2 w f ≡ None → At w d → MadeOf library store (Some f) c d r e
      → Done store plant D (head d) d.page f r (head e) e.page × At (accepted w f) e
  made_done f c w d e r accepts a made =
      let p = d.page in
      let m = length (blocks_of D) in
      let same = (e.player ≡ d.player) × (e.page ≡ d.page) in
      let does : Outcome (fault_of (head d) (columns_of D) m p f) r same (Done store plant D (head d) p f r (head e) e.page) =
      subst (λ M. Outcome (fault_of (head d) (columns_of D) m p f) r same (Done store M D (head d) p f r (head e) e.page)) a.library_is
      (subst (λ E. Outcome (fault_of (head d) (columns_of E) (length (blocks_of E)) p f) r same (Done store (library d.player.library) E (head d) p f r (head e) e.page)) a.drawing_is made.0) in
      let none : judge p m w f ≡ None = ap (λ q. judge q m w f) (page_is a) ∙ ap (λ n. judge (walked (sheet cells) w) n w f) (two D is cells reads) ∙ accepts in
      let law = lawful store plant plant_sound D (head d) p f r (head e) e.page same (λ s. (ap (head_of store) s.0, s.1)) does w a.agrees in (
        subst (λ o. Outcome o r same (Done store plant D (head d) p f r (head e) e.page)) (judged a.agrees f ∙ none) does,
        record {
          library_is = ap library made.2.library ∙ a.library_is;
          drawing_is = made.2.drawing ∙ a.drawing_is;
          agrees = subst (λ o. Agrees plant D (head e) e.page (unless o w (accepted w f))) none law.0;
          ground_is = made_ground library store (Some f) c d r e made ∙ a.ground_is;
        },
      )

  -- and the store holds the row of cycle 32 alone
  pub record Stands (w : Walker) (d : Desk L S l s) : Type 0 where
    pub at : At w d
    pub keeps : Holds32 (head d).frames

  module _ (marks : MarkTable) {d e : Desk L S l s} {r : Answer} where
    jumps : (t n : ℕ) (w : Walker) → judge (walked (sheet cells) w) 2 w (feed.Jump t) ≡ None → At w d
        → ((k : ℕ) → Moves plant D (rows_of d.page) (head d) (leb (head d).at t) t k (head e) → (k ≡ n) × Holds32 (head e).frames)
        → Made library store marks (call.Jump t) d r e → (r ≡ answer.Worked n) × Stands (accepted w (feed.Jump t)) e
    jumps t n w accepts a moves made =
        let after = made_done (feed.Jump t) (call.Jump t) w d e r accepts a made in
        let kept = told n after.0.1 moves in
        (kept.0, record { at = after.1; keeps = kept.1 })

    writes : (c v n : ℕ) (w : Walker) → judge (walked (sheet cells) w) 2 w (feed.Write c 0 (whole v)) ≡ None → At w d
        → ((k : ℕ) → Renews store plant D (rows_of e.page) (head d) c k (head e) → (k ≡ n) × Holds32 (head e).frames)
        → Made library store marks (call.Write c 0 (whole v)) d r e → (r ≡ answer.Worked n) × Stands (accepted w (feed.Write c 0 (whole v))) e
    writes c v n w accepts a renews made =
        let after = made_done (feed.Write c 0 (whole v)) (call.Write c 0 (whole v)) w d e r accepts a made in
        let kept = told n after.0.1 renews in
        (kept.0, record { at = after.1; keeps = kept.1 })

    takes_back : (n : ℕ) (w : Walker) → judge (walked (sheet cells) w) 2 w feed.TakeBack ≡ None → At w d
        → ((k : ℕ) → Renews store plant D (rows_of e.page) (head d) (latest_write (walked (sheet cells) w)).cycle k (head e) → (k ≡ n) × Holds32 (head e).frames)
        → Made library store marks call.TakeBack d r e → (r ≡ answer.Worked n) × Stands (accepted w feed.TakeBack) e
    takes_back n w accepts a renews made =
        let after = made_done feed.TakeBack call.TakeBack w d e r accepts a made in
        let latest : (latest_write d.page).cycle ≡ (latest_write (walked (sheet cells) w)).cycle = ap (λ (p : Page). (latest_write p).cycle) (page_is a) in
        let kept = told n after.0.1 (λ k x. renews k (subst (λ (c : ℕ). Renews store plant D (rows_of e.page) (head d) c k (head e)) latest x)) in
        (kept.0, record { at = after.1; keeps = kept.1 })

    shows : (ws : List Write) (c n : ℕ) → Shows D is cells reads ws c n → Stands (walker ws c) d
        → Made library store marks (call.Show 0) d r e → (r ≡ answer.Value (whole n)) × Stands (walker ws c) e
    shows ws c n figure s made =
        let w = walker ws c in
        let after = made_done (feed.Show 0) (call.Show 0) w d e r refl s.at made in
        let a = s.at.agrees in
        let found : Finds plant (blocks_of D) (rows_of (walked (sheet cells) w)) c (head d).shown =
        subst (λ k. Finds plant (blocks_of D) (rows_of (walked (sheet cells) w)) k (head d).shown) a.at
        (subst (λ p. Finds plant (blocks_of D) (rows_of p) (head d).at (head d).shown) (page_is s.at) (record { states = (head d).states; walked = a.states; solved = a.shown })) in
        (after.0.2 ∙ ap answer.Value (figure (head d).shown found), record { at = after.1; keeps = subst (λ (h : Head). Holds32 h.frames) (sym after.0.0) s.keeps })

  module _ (marks : MarkTable) {end : Desk L S l s} where
    -- one call, and then the others
    follows : {d : Desk L S l s} {c : Call} {cs : List Call} {rs : List Answer} {r₀ : Answer} {rs₀ : List Answer} {Goal : Type 0} (w : Walker)
        → ((e : Desk L S l s) (r : Answer) → Made library store marks c d r e → (r ≡ r₀) × Stands w e)
        → ((e : Desk L S l s) → Stands w e → (rest : List Answer) → Chain library store marks e cs rest end → (rest ≡ rs₀) × Goal)
        → Chain library store marks d (c ∷ cs) rs end → (rs ≡ r₀ ∷ rs₀) × Goal
    follows {r₀ = r₀} {rs₀ = rs₀} w step on (next {e = e} {a = r} {rs = rest} made chain) =
        let first = step e r made in
        let others = on e first.1 rest chain in
        let is : r ≡ r₀ = first.0 in
        let are : rest ≡ rs₀ = others.0 in
        (cc, others.1)

    -- a call that works, what the delay shows then, and the others
    row : {d : Desk L S l s} {c : Call} {cs : List Call} {rs : List Answer} {k : ℕ} {rs₀ : List Answer} {Goal : Type 0} (ws : List Write) (t n : ℕ)
        → Shows D is cells reads ws t n
        → ((e : Desk L S l s) (r : Answer) → Made library store marks c d r e → (r ≡ answer.Worked k) × Stands (walker ws t) e)
        → ((e : Desk L S l s) → Stands (walker ws t) e → (rest : List Answer) → Chain library store marks e cs rest end → (rest ≡ rs₀) × Goal)
        → Chain library store marks d (c ∷ call.Show 0 ∷ cs) rs end → (rs ≡ answer.Worked k ∷ answer.Value (whole n) ∷ rs₀) × Goal
    row ws t n figure step on = follows (walker ws t) step (λ d s _. follows (walker ws t) (λ e r. shows marks ws t n figure s) on)

    ended : {d : Desk L S l s} {w : Walker} {rs : List Answer} → Stands w d → Chain library store marks d [] rs end → (rs ≡ []) × Stands w end
    ended s done = (refl, s)

    pub performs : (d : Desk L S l s) (rs : List Answer) → At (walker [] 0) d → Takes32 (head d).frames
        → Chain library store marks d calls rs end → (rs ≡ answers) × Stands (walker two_at_32 57) end
    performs d rs a new =
        row [] 57 45 (at_57 D is cells reads) (λ e r. jumps marks 57 57 (walker [] 0) refl a (λ k. moves_from_0 new (λ _. a.agrees.at)))
        (λ d s _. row [] 3 8 (at_3 D is cells reads) (λ e r. jumps marks 3 3 (walker [] 57) refl s.at (λ k. moves_to_3 s.keeps (λ e. absurd (omega (arith, leb-true (head d).at 3 e, s.at.agrees.at)))))
        (λ d s _. row [] 57 45 (at_57 D is cells reads) (λ e r. jumps marks 57 25 (walker [] 3) refl s.at (λ k. moves_from_32 s.keeps (λ _. omega (arith, s.at.agrees.at))))
        (λ d s _. row three_at_10 57 47 (with_3 D is cells reads) (λ e r. writes marks 10 3 57 (walker [] 57) refl s.at (λ k. renews_from_10 store ready s.keeps s.at.agrees.at))
        (λ d s _. row [] 57 45 (at_57 D is cells reads) (λ e r. takes_back marks 57 (walker three_at_10 57) refl s.at (λ k. renews_from_10 store ready s.keeps s.at.agrees.at))
        (λ d s _. row two_at_32 57 46 (with_2 D is cells reads) (λ e r. writes marks 32 2 25 (walker [] 57) refl s.at (λ k. renews_from_32 store ready s.keeps s.at.agrees.at))
        (λ d s _. ended s))))))
