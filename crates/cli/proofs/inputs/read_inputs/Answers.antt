use Rattle.std.proofs.Common.{rules, ◌≡◌, vec_items}
use Rattle.sheet.specs.Held.{types_of}
use Rattle.sheet.specs.Memory.{Passes}
use Rattle.cli.proofs.inputs.read_inputs.Goals as goal

pub invariant_of-result : goal.invariant_of-result
invariant_of-result c =
    let types = vec_items c.in_ok-types.field-0.types in
    let cells = vec_items c.in_ok-types.field-0.cells in
    let t : (types_of c.in_ok-columns.columns ≡ types) × Passes types c.unwrap_or-rows.result cells = search rules in
    record { loaded = ∣ c.in_ok-drawing.ensures ∣₁; typed = t.0; passes = ∣ t.1 ∣₁ }
