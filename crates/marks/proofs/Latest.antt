-- Over any list of puts, a mark gives the cycle last put under it. Assumes nothing.
use Rattle.std.proofs.Common.{◌≡◌, ℕ, true, List, [], ◌∷◌, ◌++◌, is_ok, Some, None, Ok, Err, Option, Result, sym, refl, ap, ◌∙◌, subst, ⊎_elim, true≢false, append_assoc}
use Rattle.std.proofs.ByRecursion.{All-push}
use Rattle.faults.specs.declared.fault.Fault.{Fault}
use Rattle.ordered.specs.declared.name.Name.{Name}
use Rattle.ordered.specs.Entries.{at}
use Rattle.ordered.specs.Orders.{by_name}
use Rattle.marks.specs.declared.table.MarkTable.{MarkTable}
use Rattle.marks.specs.Marks.{mark, Blank, Outcome}
use Rattle.marks.specs.Puts.{Put, Runs, start, next, Names, Latest}
use Rattle.marks.proofs.Naming.{cases_name}

-- a put that does not name the mark leaves what was last put under it
later : (puts : List Put) (p : Put) (n : Name) → (Names n p → ⊥) → (o : Option ℕ) → Latest puts n o → Latest (puts ++ p ∷ []) n o
later puts p n apart None never = All-push (λ q. Names n q → ⊥) puts p never apart
later puts p n apart (Some c) l = record {
  front = l.front;
  last = l.last;
  rest = l.rest ++ p ∷ [];
  parts = ap (λ ps. ps ++ p ∷ []) l.parts ∙ append_assoc l.front (l.last ∷ l.rest) (p ∷ []);
  names = l.names;
  cycle = l.cycle;
  never = All-push (λ q. Names n q → ⊥) l.rest p l.never apart;
}

module _ (puts : List Put) (p : Put) (u v : MarkTable) (n : Name) where
  named : is_ok p.answer ≡ true → p.name ≡ n → mark v p.name ≡ Some p.cycle → Latest (puts ++ p ∷ []) n (mark v n)
  named ok e there =
      subst (Latest (puts ++ p ∷ []) n) (sym (ap (mark v) (sym e) ∙ there)) (record {
        front = puts;
        last = p;
        rest = [];
        parts = refl;
        names = (ok, e);
        cycle = refl;
        never = tt;
      })

  unnamed : (Names n p → ⊥) → mark v n ≡ mark u n → Latest puts n (mark u n) → Latest (puts ++ p ∷ []) n (mark v n)
  unnamed apart same l = subst (Latest (puts ++ p ∷ []) n) (sym same) (later puts p n apart (mark u n) l)

  put_on : (r : Result (Unit {0}) Fault) → p.answer ≡ r → Outcome u p.name p.cycle v r → Latest puts n (mark u n)
      → Latest (puts ++ p ∷ []) n (mark v n)
  put_on (Ok x) e o l = ⊎_elim
      (λ k. named (ap is_ok e) (sym k) o.1.there)
      (λ k. unnamed (λ q. k (sym q.1)) (o.1.others n k) l)
      (cases_name n p.name)
  put_on (Err f) e o l = unnamed (λ q. true≢false (sym q.0 ∙ ap is_ok e)) (ap (λ t. mark t n) o.2) l

pub latest : (t : MarkTable) (puts : List Put) (u : MarkTable) → Blank t → Runs t puts u → (n : Name) → Latest puts n (mark u n)
latest t puts u blank (start) n = subst (λ es. Latest [] n (at by_name es n)) (sym blank) tt
latest t puts u blank (next {puts = ps} {u = w} p runs o) n = put_on ps p w u n p.answer refl o (latest t ps w blank runs n)
