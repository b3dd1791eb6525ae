use Rattle.std.proofs.Common.{◌≡◌, length, vec_items}
use Rattle.hexadecimal.specs.Digits.{bytes_of}
use Rattle.hexadecimal.proofs.Following.{after}
use Rattle.hexadecimal.proofs.hex.bytes_of.Given as goal

-- the bytes of the digits read, before those of the digits to come
abbrev pub invariant-loop-rest : goal.invariant-loop-rest
invariant-loop-rest l = bytes_of l.digits ≡ after (vec_items l.bytes) (bytes_of l.rest)

abbrev pub decreases-loop-rest : goal.decreases-loop-rest
decreases-loop-rest l = length l.rest
