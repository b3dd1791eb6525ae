use Rattle.std.proofs.Common.{◌≡◌, pos, ◌+ℤ◌, arith, w32, to_z, of_z}
use Rattle.std.proofs.lemmas.Int.{ints}
use Rattle.plant.proofs.ops.steps.Goals as goal

pub returns : goal.returns
returns c =
    let z : to_z w32 (of_z w32 (to_z w32 (of_z w32 c.from.result) +ℤ pos 1)) ≡ c.args.m +ℤ pos 1 = omega (arith, ints) in cc
