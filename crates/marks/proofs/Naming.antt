-- A put at a name, by what the ordered table below says. Assumes nothing.
use Rattle.std.proofs.Common.{◌≡◌, ℕ, ◌+◌, Bool, true, false, cond, not, ◌&&◌, ◌⊎◌, length, is_some, is_ok, IfErr, MatchResult, Some, Ok, Err, Result, sym, refl, ap, ◌∙◌, inl, inr, ⊎_elim, subst}
use Rattle.std.specs.Result.{IsErrAnd}
use Rattle.std.proofs.lemmas.Bool.{cases_Bool, both_ways}
use Rattle.faults.specs.declared.fault.Fault.{Fault}
use Rattle.faults.specs.declared.fault.Fault.TheVariants.{MarksFull}
use Rattle.ordered.specs.declared.full.Full.{Full}
use Rattle.ordered.specs.declared.name.Name.{Name}
use Rattle.ordered.specs.Entries.{level, Placed}
use Rattle.ordered.specs.Orders.{by_name}
use Rattle.ordered.specs.Lexical.{by_name_total}
use Rattle.ordered.proofs.Lookup.{level_itself, level_apart, same_from_level}
use Rattle.marks.specs.declared.table.MarkTable.{MarkTable}
use Rattle.marks.specs.Marks.{marks_of, mark, room, Marked, Outcome}

pub cases_name : (x y : Name) → (x ≡ y) ⊎ (x ≡ y → ⊥)
cases_name x y = ⊎_elim
    (λ h. inl (same_from_level by_name by_name_total x y h))
    (λ h. inr (λ e. both_ways (level by_name x y) h (sym (ap (level by_name x) e) ∙ level_itself by_name by_name_total x)))
    (cases_Bool (level by_name x y))

same_table : (t u : MarkTable) → u.marks ≡ t.marks → u ≡ t
same_table t u e = λ i. record { marks = e i }

added : (b : Bool) (k : ℕ) → k + cond (true && not b) 1 0 ≡ k + cond b 0 1
added true k = refl
added false k = refl

module _ (t u : MarkTable) (name : Name) (cycle : ℕ) (size : room u ≡ room t) where
  marked : Placed by_name (room t) (marks_of t) (marks_of u) name cycle true → Marked t name cycle u
  marked p = record {
    there = p.values name ∙ ap (λ b. cond b (Some cycle) (mark t name)) (level_itself by_name by_name_total name);
    others = λ n apart.
        p.values n ∙ ap (λ b. cond b (Some cycle) (mark t n)) (level_apart by_name by_name_total name n (λ k. apart (sym k)));
    number = p.size ∙ added (is_some (mark t name)) (length (marks_of t));
    size = size;
  }

  -- the table's answer, with the fault of a full table
  pub outcome : (r : Result (Unit {0}) Full) (s : Result (Unit {0}) Fault) → Placed by_name (room t) (marks_of t) (marks_of u) name cycle (is_ok r)
      → IfErr r (λ _. u.marks ≡ t.marks) → MatchResult r (λ x. s ≡ Ok x) (λ _. IsErrAnd s (λ f. f ≡ MarksFull)) → Outcome t name cycle u s
  outcome (Ok x) s p same is = subst (Outcome t name cycle u) (sym is) (sym p.answer, marked p)
  outcome (Err e) (Ok x) p same is = absurd is
  outcome (Err e) (Err f) p same is = (sym p.answer, is, same_table t u same)
