-- What the calls on a sheet answer, refuse and leave. A fault is said whole, so that `report_of` of it pins number, layer and place.
-- Assumes nothing.
use Rattle.std.specs.Prelude.{◌≡◌, ℕ, ◌<◌, min, Bool, false, cond, not, List, [], ◌∷◌, length, is_some, Some, None, Ok, Err, count_by, Option, Result, ◌==◌, nat_eq, nat_le}
use Rattle.values.specs.declared.scalar.Value.{Value}
use Rattle.values.specs.declared.scalar.ValueType.{ValueType}
use Rattle.values.specs.Values.{type_of, finite_of}
use Rattle.faults.specs.declared.fault.Fault.{Fault}
use Rattle.faults.specs.declared.fault.Fault.TheVariants.{CycleBeyond, ColumnBeyond, WrongType, NotFinite, ListFull, NothingToTakeBack, TrialOpen, NoSuchTrial, SheetSize}
use Rattle.faults.specs.declared.fault.Place.{Place}
use Rattle.sheet.specs.declared.columns.Columns.{Columns}
use Rattle.sheet.specs.declared.sheet.Sheet.{Sheet}
use Rattle.sheet.specs.declared.slip.Slip.{Slip}
use Rattle.sheet.specs.declared.slip.Returned.{Returned}
use Rattle.sheet.specs.declared.write.Write.{Write}
use Rattle.sheet.specs.Cells.{same_type, type_at}
use Rattle.sheet.specs.Held.{types_of}
use Rattle.sheet.specs.Page.{Page, base}

-- the first of some refusals whose test holds
abbrev pub first_of : List (Bool × Fault) → Option Fault
first_of [] = None
first_of (t ∷ rest) = cond t.0 (Some t.1) (first_of rest)

-- A call that may be refused: what it answers and what the page is then. A refusal changes nothing.
abbrev pub Does : {T : Type 0} → Option Fault → Page → Page → T → Result T Fault → Page → Type 0
Does None before after value r now = (r ≡ Ok value) × (now ≡ after)
Does (Some f) before after value r now = (r ≡ Err f) × (now ≡ before)

-- a refused call leaves the very sheet
abbrev pub Untouched : {T E : Type 0} → Result T E → Sheet → Sheet → Type 0
Untouched (Ok value) before now = Unit {0}
Untouched (Err e) before now = now ≡ before

-- a call that changes nothing
abbrev pub Answers : {T : Type 0} → Option Fault → T → Result T Fault → Type 0
Answers None value r = r ≡ Ok value
Answers (Some f) value r = r ≡ Err f

abbrev pub back : Fault → Slip → Returned
back f slip = record { fault = f; slip = slip }

-- A call that takes a slip. A refusal hands it back, and changes nothing.
abbrev pub Spends : {T : Type 0} → Option Fault → Slip → Page → Page → T → Result T Returned → Page → Type 0
Spends None slip before after value r now = (r ≡ Ok value) × (now ≡ after)
Spends (Some f) slip before after value r now = (r ≡ Err (back f slip)) × (now ≡ before)

-- at most eight columns
abbrev pub MadeColumns : List ValueType → Result Columns Fault → Type 0
MadeColumns types (Ok c) = types_of c ≡ types
MadeColumns types (Err f) = (8 < length types) × (f ≡ SheetSize)

-- ---- writes

abbrev pub place_of : ℕ → ℕ → Place
place_of cycle column = record { cycle = cycle; column = column }

abbrev pub append_refusal : Page → ℕ → ℕ → Value → Option Fault
append_refusal p cycle column v = first_of (
    (nat_le p.rows cycle, CycleBeyond (place_of cycle column))
    ∷ (nat_le (length p.columns) column, ColumnBeyond (place_of cycle column))
    ∷ (not (same_type (type_of v) (type_at p.columns column)), WrongType (place_of cycle column))
    ∷ (not (finite_of v), NotFinite (place_of cycle column))
    ∷ (nat_le 1024 (length p.writes), ListFull (place_of cycle column))
    ∷ [])

-- inside a trial only a write made since its begin may be struck
abbrev pub strike_refusal : Page → Option Fault
strike_refusal p = first_of ((nat_le (length p.writes) (base p), NothingToTakeBack) ∷ [])

abbrev pub tally_refusal : Page → ℕ → Option Fault
tally_refusal p column = first_of ((nat_le (length p.columns) column, ColumnBeyond (place_of 0 column)) ∷ [])

-- how many standing writes a column has
abbrev pub tally_of : Page → ℕ → ℕ
tally_of p column = count_by (λ w. nat_eq w.column column) p.writes

-- ---- trials

abbrev pub open_refusal : Page → Option Fault
open_refusal p = first_of ((is_some p.trial, TrialOpen) ∷ [])

-- the slip of a trial that begins on a page
abbrev pub slip_now : Page → Slip
slip_now p = record { standing = length p.writes }

-- whether a trial is open and has the number
abbrev pub is_trial : Option ℕ → ℕ → Bool
is_trial None n = false
is_trial (Some m) n = m == n

abbrev pub slip_refusal : Page → Slip → Option Fault
slip_refusal p slip = first_of ((not (is_trial p.trial slip.standing), NoSuchTrial) ∷ [])

-- the lower of a cycle and the lowest of others
abbrev pub lower : ℕ → Option ℕ → ℕ
lower cycle None = cycle
lower cycle (Some k) = min cycle k

-- the lowest cycle among some writes, or none
abbrev pub lowest : List Write → Option ℕ
lowest [] = None
lowest (w ∷ ws) = Some (lower w.cycle (lowest ws))
