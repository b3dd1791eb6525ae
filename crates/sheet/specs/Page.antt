-- What a sheet means: its columns, its first cells, the writes that stand over them and the open trial. Assumes nothing.
use Rattle.std.specs.Prelude.{ℕ, ◌-◌, List, [], ◌∷◌, ◌++◌, length, take, drop, Some, None, Option, slice_index_or}
use Rattle.std.specs.Option.{unwrap_or}
use Rattle.values.specs.declared.scalar.Value.{Value}
use Rattle.values.specs.declared.scalar.ValueType.{ValueType}
use Rattle.values.specs.declared.packed.Cell.{Cell}
use Rattle.values.specs.Packed.{cell_of}
use Rattle.sheet.specs.declared.write.Write.{Write}
use Rattle.sheet.specs.declared.sheet.Sheet.{Sheet}
use Rattle.sheet.specs.Cells.{no_write}
use Rattle.sheet.specs.Held.{types_of, writes_of}

pub record Page : Type 0 where
  pub columns : List ValueType
  pub rows : ℕ
  pub first : List Cell
  pub writes : List Write
  pub trial : Option ℕ

abbrev pub page : Sheet → Page
page s = record { columns = types_of s.columns; rows = s.rows; first = s.cells.now; writes = writes_of s.writes; trial = s.trial }

-- a page with no write and no trial
abbrev pub fresh : List ValueType → ℕ → List Cell → Page
fresh types rows cells = record { columns = types; rows = rows; first = cells; writes = []; trial = None }

-- the same columns, rows and first cells, with other writes or another trial
abbrev pub with_writes : Page → List Write → Page
with_writes p ws = record { columns = p.columns; rows = p.rows; first = p.first; writes = ws; trial = p.trial }

abbrev pub with_trial : Page → Option ℕ → Page
with_trial p t = record { columns = p.columns; rows = p.rows; first = p.first; writes = p.writes; trial = t }

-- ---- writes

abbrev pub write_of : ℕ → ℕ → Value → Write
write_of cycle column v = record { cycle = cycle; column = column; cell = cell_of v }

abbrev pub appended : Page → Write → Page
appended p w = with_writes p (p.writes ++ w ∷ [])

abbrev pub latest_write : Page → Write
latest_write p = slice_index_or p.writes (length p.writes - 1) no_write

abbrev pub struck_latest : Page → Page
struck_latest p = with_writes p (take (length p.writes - 1) p.writes)

-- ---- trials

-- how many writes stood when the open trial began, and 0 where none is open
abbrev pub base : Page → ℕ
base p = unwrap_or p.trial 0

abbrev pub opened : Page → Page
opened p = with_trial p (Some (length p.writes))

abbrev pub closed : Page → Page
closed p = with_trial p None

-- the writes that stand since the first n
abbrev pub since : Page → ℕ → List Write
since p n = drop n p.writes

abbrev pub struck_since : Page → ℕ → Page
struck_since p n = closed (with_writes p (take n p.writes))
