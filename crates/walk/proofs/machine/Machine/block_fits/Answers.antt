use Rattle.std.proofs.Common.{◌≡◌, rules, sym, ◌∙◌}
use Rattle.blocks.proofs.Same.{same_true}
use Rattle.walk.proofs.machine.Machine.block_fits.Goals as goal

pub returns-then-eq : goal.returns-then-eq
returns-then-eq g c = let e : c.in-Some.s ≡ c.args.signature = same_true c.in-Some.s c.args.signature (sym c.eq.ensures ∙ c.if-eq.true) in search rules
