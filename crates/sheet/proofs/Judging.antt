-- What a call tells that is judged by a refusal. Assumes nothing.
use Rattle.std.proofs.Common.{◌≡◌, Some, None, Ok, Err, Option, Result, refl, ap}
use Rattle.std.specs.Result.{result_err}
use Rattle.faults.specs.declared.fault.Fault.{Fault}
use Rattle.sheet.specs.Page.{Page}
use Rattle.sheet.specs.Calls.{Does, Answers}

pub told : (o : Option Fault) (r : Result (Unit {0}) Fault) → Answers o (tt {0}) r → result_err r ≡ o
told None r e = ap result_err e
told (Some f) r e = ap result_err e

pub accepted : (o : Option Fault) → Answers o (tt {0}) (Ok (tt {0})) → o ≡ None
accepted None e = refl
accepted (Some f) e = cc

pub refused : {T : Type 0} (before after : Page) (v : T) (o : Option Fault) (f : Fault) (r : Result T Fault) → Answers o (tt {0}) (Err f) → r ≡ Err f → Does o before after v r before
refused before after v None f r e is = cc
refused before after v (Some g) f r e is = (cc, refl)
