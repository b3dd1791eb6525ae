-- Strikes undo appends. Assumes nothing.
use Rattle.std.proofs.Common.{◌≡◌, ℕ, zero, suc, ◌<◌, ◌≤◌, min, cond, not, eqb, List, [], ◌∷◌, ◌++◌, length, get_or, Some, None, Ok, Option, Result, sym, refl, ap, ◌∙◌, ⊎_elim, arith}
use Rattle.std.proofs.lemmas.List.{take_at, drop_at, append_assoc, append-nil}
use Rattle.std.proofs.lemmas.Bool.{cases_lt}
use Rattle.std.proofs.lemmas.Bool.Decides.{nat_tests}
use Rattle.faults.specs.declared.fault.Fault.{Fault}
use Rattle.faults.specs.declared.fault.Fault.TheVariants.{NoSuchTrial}
use Rattle.sheet.specs.declared.slip.Slip.{Slip}
use Rattle.sheet.specs.declared.slip.Returned.{Returned}
use Rattle.sheet.specs.declared.write.Write.{Write}
use Rattle.sheet.specs.Cells.{no_write}
use Rattle.sheet.specs.Page.{Page, with_writes, with_trial, appended, opened, struck_since, since}
use Rattle.sheet.specs.Calls.{lower, lowest, is_trial, slip_now, slip_refusal}
use Rattle.sheet.specs.Laws.{appended_all, Lowest, UndoesTrial}

pub appended_all_lem : (p : Page) (ws : List Write) → appended_all p ws ≡ with_writes p (p.writes ++ ws)
appended_all_lem p [] = ap (with_writes p) (sym (append-nil p.writes))
appended_all_lem p (w ∷ ws) = appended_all_lem (appended p w) ws ∙ ap (with_writes p) (append_assoc p.writes (w ∷ []) ws)

module _ (p : Page) (ws : List Write) where
  pub trial_undoes : p.trial ≡ None → struck_since (appended_all (opened p) ws) (length p.writes) ≡ p
  trial_undoes e =
      ap (λ q. struck_since q (length p.writes)) (appended_all_lem (opened p) ws) ∙
      ap (λ l. with_trial (with_writes p l) None) (take_at p.writes ws (length p.writes) refl) ∙ ap (with_trial p) (sym e)

  pub trial_since : since (appended_all (opened p) ws) (length p.writes) ≡ ws
  trial_since =
      ap (λ q. since q (length p.writes)) (appended_all_lem (opened p) ws) ∙ drop_at p.writes ws (length p.writes) refl

refused_not : (n : ℕ) (f : Fault) → Some f ≡ cond (not (eqb n n)) (Some NoSuchTrial) None → ⊥
refused_not n f e = grind (arith, nat_tests)

-- a bound of one write and of others
bound : (m : ℕ) (w : Write) (ws : List Write) → m ≤ w.cycle → ((i : ℕ) → i < length ws → m ≤ (get_or ws i no_write).cycle) → (i : ℕ) → i < suc (length ws) → m ≤ (get_or (w ∷ ws) i no_write).cycle
bound m w ws a b zero l = a
bound m w ws a b (suc i) l = b i (omega arith)

lowest_more : (w : Write) (ws : List Write) (low : Option ℕ) → Lowest ws low → Lowest (w ∷ ws) (Some (lower w.cycle low))
lowest_more w ws None e = (bound w.cycle w ws (omega arith) (λ i l. absurd (omega (arith, ap length e))), (0, omega arith, refl))
lowest_more w ws (Some k) h = (
  bound (min w.cycle k) w ws (omega arith) (λ i l. omega (arith, h.0 i l)),
  ⊎_elim
      (λ (l : w.cycle < k). (0, omega arith, omega arith))
      (λ (l : k ≤ w.cycle). let e : k ≡ min w.cycle k = omega arith in (suc h.1.0, omega (arith, h.1.1), h.1.2 ∙ e))
      (cases_lt w.cycle k),
)

pub lowest_is : (ws : List Write) → Lowest ws (lowest ws)
lowest_is [] = refl
lowest_is (w ∷ ws) = lowest_more w ws (lowest ws) (lowest_is ws)

-- ---- as the calls promise it

module _ (before after : Page) where
  pub undoes_trial : (slip : Slip) (r : Result (Option ℕ) Returned) → after ≡ struck_since before slip.standing → r ≡ Ok (lowest (since before slip.standing)) → UndoesTrial before slip r after
  undoes_trial slip r a b p ws none e t =
      let m = ap (λ (s : Slip). s.standing) t in (
        b ∙ ap (λ n. Ok (lowest (since before n))) m ∙ ap (λ q. Ok (lowest (since q (length p.writes)))) e ∙ ap (λ l. Ok (lowest l)) (trial_since p ws),
        a ∙ ap (struck_since before) m ∙ ap (λ q. struck_since q (length p.writes)) e ∙ trial_undoes p ws none,
      )

  pub refused_trial : (slip : Slip) (r : Result (Option ℕ) Returned) (f : Fault) → Some f ≡ slip_refusal before slip → UndoesTrial before slip r after
  refused_trial slip r f g p ws none e t =
      let o : before.trial ≡ Some (length p.writes) = ap (λ q. q.trial) (e ∙ appended_all_lem (opened p) ws) in
      let s : Some f ≡ slip_refusal (opened p) (slip_now p) = g ∙ ap (λ u. slip_refusal before u) t ∙ ap (λ u. cond (not (is_trial u (length p.writes))) (Some NoSuchTrial) None) o in
      absurd (refused_not (length p.writes) f s)
