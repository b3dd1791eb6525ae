-- What an ordered table holds. Assumes nothing.
use Rattle.std.specs.Prelude.{ℕ, List, length, take}
use Rattle.ordered.specs.declared.entry.Entry.{Entry}
use Rattle.ordered.specs.declared.table.OrderedTable.{OrderedTable}

module _ {K V : Type 0} {k : _} {o : _} {e : _} {p : _} where
  -- the entries that a table holds
  abbrev pub items : OrderedTable K V k o e p → List (Entry K V)
  items t = take t.len t.entries.now

  -- how many its memory has room for
  abbrev pub capacity : OrderedTable K V k o e p → ℕ
  capacity t = length t.entries.now
