use Rattle.std.proofs.Common.{◌∙◌}
use Rattle.walk.proofs.Gathered.{next_is}
use Rattle.walk.proofs.machine.Machine.block_next.Goals as goal

pub returns : goal.returns
returns g c = next_is (g.L.BlockLibrary.meaning c.args.self.now.library.now) c.args.block.now c.args.state _ _ c.kind.result _ _ _ c.kind.ensures c.params.ensures c.sources.ensures (c.as_slice.ensures ∙ c.gather-inputs.ensures) _ c.next.ensures
