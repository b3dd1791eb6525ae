-- What a table means. Assumes nothing.
use Rattle.std.proofs.Common.{ap}
use Rattle.std.specs.Prelude.{ℕ, not, ◌||◌, length, is_some, filter, Option, nat_lt}
use Rattle.values.specs.declared.working.Row.{Row}
use Rattle.ordered.specs.Entries.{at}
use Rattle.ordered.specs.Table.{items, capacity}
use Rattle.keyframes.specs.declared.table.TableStore.{TableStore}
use Rattle.keyframes.specs.Frames.{Frames, Retakes}

-- how many rows are held
abbrev pub count : TableStore → ℕ
count t = length (items t.rows)

-- how many are held at or below a cycle
abbrev pub upto : TableStore → ℕ → ℕ
upto t c = length (filter (λ e. not (nat_lt c e.key)) (items t.rows))

-- how many there is room for
abbrev pub room : TableStore → ℕ
room t = capacity t.rows

abbrev pub kept : TableStore → ℕ → Option Row
kept t c = at nat_lt (items t.rows) c

-- a held cycle is taken, and any while there is room
abbrev pub table_frames : TableStore → Frames
table_frames t = record { held = kept t; takes = λ c. is_some (kept t c) || nat_lt (count t) (room t) }

pub table_retakes : (t : TableStore) → Retakes (table_frames t)
table_retakes t c h = ap (λ b. b || nat_lt (count t) (room t)) h
