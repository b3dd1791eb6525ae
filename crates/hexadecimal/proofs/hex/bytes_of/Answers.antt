use Rattle.std.proofs.Common.{rules, ◌-◌, ◌∙◌, sym, vec_items, length, arith}
use Rattle.hexadecimal.proofs.Following.{after_byte}
use Rattle.hexadecimal.proofs.hex.bytes_of.Goals as goal

pub loop-rest-preserved : goal.loop-rest-preserved
loop-rest-preserved c =
    c.loop-rest.invariant ∙ after_byte c.loop-rest.rest.now (vec_items c.loop-rest.bytes) c.in-Some.b (length c.loop-rest.rest.now - 2) (omega (arith, c.in-len2-up.len_at_least)) (sym c.byte.ensures ∙ c.in-Some.is) ∙ (search rules)
