use Rattle.std.proofs.Common.{take, refl, ap}
use Rattle.draft.proofs.Blocks.{eight}
use Rattle.draft.proofs.assemble.columns_record.Goals as goal

pub returns : goal.returns
returns c = record { places = (refl, eight c.args.types _ c.requires); value = ap (take c.args.count) (eight c.args.types _ c.requires) }
