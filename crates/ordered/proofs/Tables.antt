-- What is known of a table at a key, and what its memory is after each change. Assumes nothing.
use Rattle.std.proofs.Common.{◌≡◌, ℕ, ◌<◌, ◌≤◌, true, false, List, length, get_or, take, set, Some, None, Result, MatchOption, slice_get, ◌-◌, sym, subst, arith}
use lib.Seq.{take-set-lt}
use Rattle.std.specs.List.{insert}
use Rattle.std.specs.Result.{result_ok}
use Rattle.std.proofs.lemmas.List.{length-take-le, take-take}
use Rattle.ordered.specs.declared.entry.Entry.{Entry}
use Rattle.ordered.specs.declared.key.Key as Key
use Rattle.ordered.specs.declared.table.OrderedTable.{OrderedTable}
use Rattle.ordered.specs.Order.{TotalOrder}
use Rattle.ordered.specs.Entries.{at, Cut, Floor, Placed}
use Rattle.ordered.specs.Search.{Parts, Stands, Belongs, Place}
use Rattle.ordered.specs.Table.{capacity, items}
use Rattle.ordered.proofs.Lookup.{floored}
use Rattle.ordered.proofs.Placing.{cut_at, looked_up}
use Rattle.ordered.proofs.Putting.{placed_full, placed_new, placed_over}

module _ {K V : Type 0} {k : Key.Ghosts K} {o : _} {e : _} {p : _} (total : TotalOrder k.before) (t : OrderedTable K V k o e p) (q : K) where
  pub length_used : length (items t) ≡ t.len
  length_used = length-take-le t.len t.entries.now t.few

  pub value_at : (r : Result ℕ ℕ) → Place k.before (items t) q r
      → MatchOption (result_ok r) (at k.before (items t) q ≡ None) (λ i. (d : Entry K V) → at k.before (items t) q ≡ Some (get_or (items t) i d).value)
  value_at = looked_up k.before total (items t) t.sorted q

  pub floor_at : (n : ℕ) → Parts k.before (items t) q n → Floor k.before (items t) q (slice_get (take n (items t)) (length (take n (items t)) - 1))
  floor_at = floored k.before total (items t) t.sorted q

  module _ (n : ℕ) (parts : Parts k.before (items t) q n) where
    pub no_longer : n ≤ t.len
    no_longer = let u = length_used in omega (arith, parts.within)

    pub cut_to : Cut k.before (items t) (take n t.entries.now) q
    cut_to = subst (λ fs. Cut k.before (items t) fs q) (take-take n t.len t.entries.now no_longer) (cut_at k.before total (items t) t.sorted q n parts)

  module _ (v : V) (i : ℕ) where
    -- over the entry of the key
    pub overwritten : Stands k.before (items t) q i → Placed k.before (capacity t) (items t) (take t.len (set t.entries.now i (record { key = q; value = v }))) q v true
    overwritten s =
        subst (λ fs. Placed k.before (capacity t) (items t) fs q v true)
        (sym (take-set-lt t.len t.entries.now i (record { key = q; value = v }) (let u = length_used in omega (arith, s.within))))
        (placed_over k.before total (items t) t.sorted (capacity t) q v i s.within s.same)

    -- where the key is new, and there is room for one more
    pub inserted : Belongs k.before (items t) q i → t.len < capacity t → (fs : List (Entry K V)) → fs ≡ insert (items t) i (record { key = q; value = v })
        → Placed k.before (capacity t) (items t) fs q v true
    inserted b room fs is =
        subst (λ fs. Placed k.before (capacity t) (items t) fs q v true) (sym is)
        (placed_new k.before total (items t) t.sorted (capacity t) q v i b.parts b.apart (let u = length_used in omega arith))

    -- where there is none
    pub refused : Belongs k.before (items t) q i → t.len ≡ capacity t → Placed k.before (capacity t) (items t) (items t) q v false
    refused b full = placed_full k.before total (items t) t.sorted (capacity t) q v i b.parts b.apart (let u = length_used in omega arith)
