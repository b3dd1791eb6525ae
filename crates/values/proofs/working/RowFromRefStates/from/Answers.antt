use Rattle.std.proofs.Common.{rules}
use Rattle.values.specs.declared.packed.PackedState.{PackedState}
use Rattle.values.specs.Packed.{packed_of, state_of, Canonical}
use Rattle.values.specs.Values.{idle}
use Rattle.values.proofs.Mapped.{mapped, mapped_back, mapped_all}
use Rattle.values.proofs.working.RowFromRefStates.from.Goals as goal

pub returns : goal.returns
returns c =
    let m = c.map.ensures.items in
    let long = c.args.states.now.full in record {
      packed = mapped _ m long packed_of idle (λ p q x y k. search rules);
      back = mapped_back _ m long state_of (packed_of idle) (λ p q x y k. search rules);
      canonical = mapped_all _ m long (λ (p : PackedState). Canonical p.cell) idle (packed_of idle) (λ p q x y k. search rules);
    }
