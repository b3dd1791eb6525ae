-- A list of puts, and what they leave marked. Assumes nothing.
use Rattle.std.specs.Prelude.{◌≡◌, ℕ, true, List, [], ◌∷◌, ◌++◌, is_ok, Some, None, Option, Result}
use Rattle.std.specs.List.{AllByRecursion}
use Rattle.faults.specs.declared.fault.Fault.{Fault}
use Rattle.ordered.specs.declared.name.Name.{Name}
use Rattle.marks.specs.declared.table.MarkTable.{MarkTable}
use Rattle.marks.specs.Marks.{Outcome}

-- a put and its answer
pub record Put : Type 0 where
  pub name : Name
  pub cycle : ℕ
  pub answer : Result (Unit {0}) Fault

-- the puts lead, one after another, from one table to another
pub data Runs (t : MarkTable) : List Put → MarkTable → Type 0 where
  start : Runs t [] t
  next : {puts : List Put} {u v : MarkTable} (p : Put) → Runs t puts u → Outcome u p.name p.cycle v p.answer → Runs t (puts ++ p ∷ []) v

-- an accepted put under the name
abbrev pub Names : Name → Put → Type 0
Names n p = (is_ok p.answer ≡ true) × (p.name ≡ n)

abbrev pub Never : Name → List Put → Type 0
Never n puts = AllByRecursion (λ p. Names n p → ⊥) puts

-- the cycle was put under the name, and no other after it
pub record LastPut (puts : List Put) (n : Name) (c : ℕ) : Type 0 where
  pub front : List Put
  pub last : Put
  pub rest : List Put
  pub parts : puts ≡ front ++ last ∷ rest
  pub names : Names n last
  pub cycle : last.cycle ≡ c
  pub never : Never n rest

-- what was last put under the name, of the puts that were accepted; none if there was no such put
abbrev pub Latest : List Put → Name → Option ℕ → Type 0
Latest puts n None = Never n puts
Latest puts n (Some c) = LastPut puts n c
