-- What a table of marks means, and what a put does. Assumes nothing.
use Rattle.std.specs.Prelude.{◌≡◌, ℕ, ◌+◌, Bool, true, false, cond, ◌||◌, List, [], length, is_some, Some, Ok, Err, Option, Result, ◌≢◌, nat_lt}
use Rattle.faults.specs.declared.fault.Fault.{Fault}
use Rattle.faults.specs.declared.fault.Fault.TheVariants.{MarksFull}
use Rattle.ordered.specs.declared.entry.Entry.{Entry}
use Rattle.ordered.specs.declared.name.Name.{Name}
use Rattle.ordered.specs.Entries.{at}
use Rattle.ordered.specs.Orders.{by_name}
use Rattle.ordered.specs.Table.{items, capacity}
use Rattle.marks.specs.declared.table.MarkTable.{MarkTable}

-- the marks, in the byte order of their names
abbrev pub marks_of : MarkTable → List (Entry Name ℕ)
marks_of t = items t.marks

-- the cycle that a name marks
abbrev pub mark : MarkTable → Name → Option ℕ
mark t n = at by_name (marks_of t) n

-- how many marks the memory was made for
abbrev pub room : MarkTable → ℕ
room t = capacity t.marks

abbrev pub Blank : MarkTable → Type 0
Blank t = marks_of t ≡ []

-- a mark that is there may be put again, and any while fewer are held than the memory was made for
abbrev pub fits : MarkTable → Name → Bool
fits t n = is_some (mark t n) || nat_lt (length (marks_of t)) (room t)

-- u is t with the name marking the cycle
pub record Marked (t : MarkTable) (name : Name) (cycle : ℕ) (u : MarkTable) : Type 0 where
  pub there : mark u name ≡ Some cycle
  pub others : (n : Name) → (n ≢ name) → mark u n ≡ mark t n
  pub number : length (marks_of u) ≡ length (marks_of t) + cond (is_some (mark t name)) 0 1
  pub size : room u ≡ room t

-- a put is accepted exactly where the mark fits; a refused one changes nothing
abbrev pub Outcome : MarkTable → Name → ℕ → MarkTable → Result (Unit {0}) Fault → Type 0
Outcome t name cycle u (Ok _) = (fits t name ≡ true) × Marked t name cycle u
Outcome t name cycle u (Err fault) = (fits t name ≡ false) × (fault ≡ MarksFull) × (u ≡ t)
