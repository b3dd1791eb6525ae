use Rattle.std.proofs.Common.{◌∙◌}
use Rattle.sheet.proofs.Judging.{told}
use Rattle.sheet.proofs.sheet.Sheet.append_refusal.Goals as goal

pub returns : goal.returns
returns c = c.err.ensures.value ∙ told _ _ c.may_append.ensures
