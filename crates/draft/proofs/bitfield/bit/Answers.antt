use Rattle.draft.proofs.BitLaws.{bit_at}
use Rattle.draft.proofs.bitfield.bit.Goals as goal

pub returns : goal.returns
returns c = bit_at c.args.file.now c.args.i c.requires
