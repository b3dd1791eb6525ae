-- Same rows, same values.
use Rattle.std.proofs.Common.{sym, subst, arith}
use Rattle.sheet.specs.Rows.{rows_of}
use Rattle.walk.specs.Cycle.{Solves}
use Rattle.walk.specs.Opening.{blocks_of}
use Rattle.walk.specs.Walk.{Finds}
use Rattle.walk.proofs.Steps.{only_found}
use Rattle.walk.proofs.Uniqueness.{causal}
use Rattle.runs.specs.Laws.{SameValues}

pub same_values : SameValues
same_values L sound D h h' p p' w w' a a' at rows =
    let mine : Finds L (blocks_of D) (rows_of p') h.at h.shown = record {
      states = h.states;
      walked = causal L (blocks_of D) (rows_of p) (rows_of p') h.at (λ i lt. rows i (omega arith)) h.states a.states;
      solved = subst (λ row. Solves L (blocks_of D) h.states row h.shown) (rows h.at (omega arith)) a.shown;
    } in
    let other : Finds L (blocks_of D) (rows_of p') h'.at h'.shown = record { states = h'.states; walked = a'.states; solved = a'.shown } in
    only_found L sound D a.fitting (rows_of p') h.at h'.shown h.shown (subst (λ c. Finds L (blocks_of D) (rows_of p') c h'.shown) (sym at) other) mine
