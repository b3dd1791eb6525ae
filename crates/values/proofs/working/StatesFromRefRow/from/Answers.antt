use Rattle.std.proofs.Common.{◌≡◌, length, rules}
use Rattle.values.specs.Packed.{packed_of, state_of}
use Rattle.values.specs.Values.{idle}
use Rattle.values.proofs.Mapped.{mapped}
use Rattle.values.proofs.working.StatesFromRefRow.from.Goals as goal

pub returns : goal.returns
returns c =
    let long : length c.args.row.now.states ≡ 64 = search rules in
    mapped _ c.map.ensures.items long state_of (packed_of idle) (λ p q x y k. search rules)
