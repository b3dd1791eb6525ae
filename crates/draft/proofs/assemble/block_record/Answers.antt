use Rattle.std.proofs.Common.{map, take, refl}
use Rattle.values.specs.Packed.{value_of}
use Rattle.draft.proofs.Blocks.{four}
use Rattle.draft.proofs.assemble.block_record.Goals as goal

pub returns : goal.returns
returns c =
    let s = four c.args.sources _ c.requires.0 in
    let p = four c.args.params _ c.requires.1 in
    record { places = (refl, refl, s, p); value = λ i. record { kind = c.args.head.kind; sources = take c.args.head.inputs (s i); params = map value_of (take c.args.head.params (p i)); name = c.args.name.now } }
