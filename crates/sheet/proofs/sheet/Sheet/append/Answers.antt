use Rattle.std.proofs.Common.{◌≡◌, rules, List, Err, sym, subst}
use Rattle.sheet.specs.declared.write.Write.{Write}
use Rattle.sheet.specs.Cells.{Typed}
use Rattle.sheet.specs.Held.{types_of, writes_of}
use Rattle.sheet.specs.Page.{page, write_of, appended}
use Rattle.sheet.proofs.Judging.{accepted, refused}
use Rattle.sheet.proofs.Placing.{append_accepted, accepted_placed, typed_push}
use Rattle.sheet.proofs.sheet.Sheet.append.Goals as goal

pub returns-in_err-may_append-clause-outcome : goal.returns-in_err-may_append-clause-outcome
returns-in_err-may_append-clause-outcome c =
    let p = page c.args.self.now in
    let is : c.from_residual.result ≡ Err c.in_err-may_append.field-0.0 = search rules in
    refused p (appended p (write_of c.args.cycle c.args.column c.args.value)) tt _ _ _ c.in_err-may_append.ensures is

pub invariant_of-self-clause-typed : goal.invariant_of-self-clause-typed
invariant_of-self-clause-typed c =
    let s = c.args.self.now in
    let p = page s in
    let w : Write = record { cycle = c.args.cycle; column = c.args.column; cell = c.from-cell.result } in
    let a = append_accepted p c.args.cycle c.args.column c.args.value (accepted _ c.in_ok-may_append.ensures) in
    let P : List Write → Type 0 = λ ws. Typed (types_of s.columns) s.rows ws in
    subst P (sym c.push.ensures) (typed_push (types_of s.columns) s.rows (writes_of s.writes) w s.typed (accepted_placed p w c.args.value c.from-cell.ensures.back a))
