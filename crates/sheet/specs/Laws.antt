-- What the standing rows keep, what changes to a sheet do to them, and what undoes the changes. Assumes nothing.
use Rattle.std.specs.Prelude.{◌≡◌, ℕ, ◌<◌, ◌≤◌, true, List, [], ◌∷◌, map, length, Some, None, Ok, Option, Result, ◌≢◌, slice_index_or, slice_set}
use Rattle.std.specs.List.{AllByRecursion}
use Rattle.values.specs.declared.scalar.Value.{Value}
use Rattle.values.specs.declared.scalar.ValueType.{ValueType}
use Rattle.values.specs.Values.{type_of, finite_of}
use Rattle.faults.specs.declared.fault.Fault.{Fault}
use Rattle.sheet.specs.declared.slip.Slip.{Slip}
use Rattle.sheet.specs.declared.slip.Returned.{Returned}
use Rattle.sheet.specs.declared.write.Write.{Write}
use Rattle.sheet.specs.Cells.{no_write}
use Rattle.sheet.specs.Page.{Page, base, appended, opened}
use Rattle.sheet.specs.Calls.{slip_now, lowest}

-- rows that are the same but for one cycle
abbrev pub SameBut : ℕ → (ℕ → List Value) → (ℕ → List Value) → Type 0
SameBut k before after = (cycle : ℕ) → (cycle ≢ k) → after cycle ≡ before cycle

-- rows with a value put at a cycle and a column, and otherwise the same
abbrev pub Puts : ℕ → ℕ → Value → (ℕ → List Value) → (ℕ → List Value) → Type 0
Puts cycle column v before after = SameBut cycle before after × (after cycle ≡ slice_set (before cycle) column v)

-- rows that are the same below a cycle, and everywhere where there is none
abbrev pub SameBelow : Option ℕ → (ℕ → List Value) → (ℕ → List Value) → Type 0
SameBelow None before after = (cycle : ℕ) → after cycle ≡ before cycle
SameBelow (Some k) before after = (cycle : ℕ) → cycle < k → after cycle ≡ before cycle

-- a row of values of the columns' types, reals finite
abbrev pub FitRow : List ValueType → List Value → Type 0
FitRow types values = (map type_of values ≡ types) × AllByRecursion (λ v. finite_of v ≡ true) values

-- the lowest cycle among some writes: none is below it and one has it; none where there is no write
abbrev pub Lowest : List Write → Option ℕ → Type 0
Lowest ws None = ws ≡ []
Lowest ws (Some k) =
    ((i : ℕ) → i < length ws → k ≤ (slice_index_or ws i no_write).cycle) × ((i : ℕ) × (i < length ws) × ((slice_index_or ws i no_write).cycle ≡ k))

-- Striking the latest write undoes its append: it is accepted, answers the write's cycle, and the page is what it was.
abbrev pub UndoesAppend : Page → Result ℕ Fault → Page → Type 0
UndoesAppend before r after =
    (p : Page) (w : Write) → base p ≤ length p.writes → before ≡ appended p w → (r ≡ Ok w.cycle) × (after ≡ p)

abbrev pub appended_all : Page → List Write → Page
appended_all p [] = p
appended_all p (w ∷ ws) = appended_all (appended p w) ws

-- Striking what stands since a trial was opened undoes the trial, whatever was appended: the trial's slip is accepted, the lowest
-- cycle appended is answered, and the page is what it was before the trial.
abbrev pub UndoesTrial : Page → Slip → Result (Option ℕ) Returned → Page → Type 0
UndoesTrial before slip r after =
    (p : Page) (ws : List Write) → p.trial ≡ None → before ≡ appended_all (opened p) ws → slip ≡ slip_now p → (r ≡ Ok (lowest ws)) × (after ≡ p)
