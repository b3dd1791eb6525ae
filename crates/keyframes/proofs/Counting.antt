-- How many rows a table holds: the cycles of its entries, each once. Assumes nothing.
use Rattle.std.proofs.Common.{◌≡◌, ℕ, Bool, true, false, cond, ◌||◌, eqb, ltb, List, [], ◌∷◌, map, is_some, Some, Option, sym, refl, ap, ◌∙◌, arith}
use lib.ListN.{length-map}
use Rattle.std.specs.List.{list_all, AllByRecursion, IsDistinct}
use Rattle.std.proofs.lemmas.Bool.{and_parts}
use Rattle.std.proofs.lemmas.Bool.Decides.{nat_tests}
use Rattle.values.specs.declared.working.Row.{Row}
use Rattle.ordered.specs.declared.entry.Entry.{Entry}
use Rattle.ordered.specs.Entries.{ascending, at, level}
use Rattle.ordered.specs.Table.{items}
use Rattle.keyframes.specs.declared.table.TableStore.{TableStore}
use Rattle.keyframes.specs.Frames.{among, Counts}
use Rattle.keyframes.specs.Tables.{table_frames, count}

level_eqb : (c d : ℕ) → level ltb c d ≡ eqb d c
level_eqb c d = grind (arith, nat_tests)

abbrev cycles_of : List (Entry ℕ Row) → List ℕ
cycles_of es = map (λ e. e.key) es

held_or : (b : Bool) (row : Row) (o : Option Row) → b || is_some o ≡ is_some (cond b (Some row) o)
held_or true row o = refl
held_or false row o = refl

each_cycle : (es : List (Entry ℕ Row)) (c : ℕ) → among c (cycles_of es) ≡ is_some (at ltb es c)
each_cycle [] c = refl
each_cycle (e ∷ es) c =
    ap (λ b. eqb c e.key || b) (each_cycle es c) ∙ ap (λ b. b || is_some (at ltb es c)) (sym (level_eqb e.key c))
    ∙ held_or (level ltb e.key c) e.value (at ltb es c)

apart : (k : ℕ) (es : List (Entry ℕ Row)) → list_all (λ e. ltb k e.key) es ≡ true → AllByRecursion (λ d. eqb k d ≡ false) (cycles_of es)
apart k [] h = tt
apart k (e ∷ es) h =
    let p = and_parts (ltb k e.key) (list_all (λ f. ltb k f.key) es) h in
    let below = p.0 in
    let n : eqb k e.key ≡ false = grind (arith, nat_tests) in
    (n, apart k es p.1)

once_each : (es : List (Entry ℕ Row)) → ascending ltb es ≡ true → IsDistinct eqb (cycles_of es)
unfolding IsDistinct
once_each [] h = tt
once_each (e ∷ es) h =
    let p = and_parts (list_all (λ f. ltb e.key f.key) es) (ascending ltb es) h in
    (apart e.key es p.0, once_each es p.1)

pub counted : (t : TableStore) (n : ℕ) → n ≡ count t → ascending ltb (items t.rows) ≡ true → Counts (table_frames t) n
counted t n e a = record {
  cycles = cycles_of (items t.rows);
  number = length-map (items t.rows) (λ e. e.key) ∙ sym e;
  once = once_each (items t.rows) a;
  each = each_cycle (items t.rows);
}
