use Rattle.std.proofs.Common.{◌≡◌, ◌*◌, ◌^◌, ◌<◌, drop, Some, fold}
use Rattle.reals.specs.Digits.{more}
use Rattle.reals.proofs.digits.read_pattern.Given as goal

-- the digits read so far, and those to come
abbrev pub invariant-loop-b : goal.invariant-loop-b
invariant-loop-b l = (l.n < 2 ^ (4 * l.b-index)) × (fold more (Some 0) l.word ≡ fold more (Some l.n) (drop l.b-index l.word))
