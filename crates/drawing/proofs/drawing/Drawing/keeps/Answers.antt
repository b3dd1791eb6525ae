use Rattle.drawing.proofs.Kept.{kept_sound}
use Rattle.drawing.proofs.drawing.Drawing.keeps.Goals as goal

pub returns : goal.returns
returns c = kept_sound _ _ _ _ c.args.self.now.sound
