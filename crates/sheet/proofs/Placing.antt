-- What holds of each standing write, as the list grows and is cut, and of calls that are not refused. Assumes nothing.
use Rattle.std.proofs.Common.{◌≡◌, ℕ, ◌<◌, true, List, [], ◌∷◌, ◌++◌, length, None, ap, ◌∙◌, arith}
use Rattle.std.proofs.ByRecursion.{All-get_or, All-from_get_or, All-push}
use Rattle.std.proofs.lemmas.Bool.Decides.{nat_tests}
use Rattle.values.specs.declared.scalar.Value.{Value}
use Rattle.values.specs.declared.scalar.ValueType.{ValueType}
use Rattle.values.specs.Values.{type_of, finite_of}
use Rattle.values.specs.Packed.{value_of}
use Rattle.sheet.specs.declared.write.Write.{Write}
use Rattle.sheet.specs.Cells.{Placed, Typed, no_write, same_type, type_at}
use Rattle.sheet.specs.Page.{Page, base}
use Rattle.sheet.specs.Calls.{append_refusal, strike_refusal}

pub typed_push : (types : List ValueType) (rows : ℕ) (ws : List Write) (w : Write) → Typed types rows ws → Placed types rows w → Typed types rows (ws ++ w ∷ [])
typed_push types rows ws w typed p k l =
    All-get_or (Placed types rows) (ws ++ w ∷ []) k no_write l
    (All-push (Placed types rows) ws w (All-from_get_or (Placed types rows) ws no_write typed) p)

-- what a call that is not refused may rely on
pub record Accepted (p : Page) (cycle column : ℕ) (v : Value) : Type 0 where
  pub row : cycle < p.rows
  pub place : column < length p.columns
  pub type : same_type (type_of v) (type_at p.columns column) ≡ true
  pub finite : finite_of v ≡ true
  pub room : length p.writes < 1024

pub append_accepted : (p : Page) (cycle column : ℕ) (v : Value) → append_refusal p cycle column v ≡ None → Accepted p cycle column v
append_accepted p cycle column v e =
    record { row = grind (arith, nat_tests); place = grind (arith, nat_tests); type = grind (arith, nat_tests); finite = grind (arith, nat_tests); room = grind (arith, nat_tests) }

pub accepted_placed : (p : Page) (w : Write) (v : Value) → value_of w.cell ≡ v → Accepted p w.cycle w.column v → Placed p.columns p.rows w
accepted_placed p w v e a = (
  a.row,
  a.place,
  ap (λ u. same_type (type_of u) (type_at p.columns w.column)) e ∙ a.type,
  ap finite_of e ∙ a.finite,
)

pub strike_accepted : (p : Page) → strike_refusal p ≡ None → base p < length p.writes
strike_accepted p e = grind (arith, nat_tests)
