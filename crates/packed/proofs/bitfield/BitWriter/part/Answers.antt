use Rattle.std.proofs.Common.{◌≡◌, ◌+◌, ◌-◌, ◌*◌, ◌/◌, ◌%◌, ◌^◌, ◌<◌, ◌++◌, length, get_or, set, take, sym, refl, ap, ◌∙◌, arith}
use Rattle.draft.specs.Bits.{field, bits_of}
use Rattle.packed.proofs.Appending.{filled_byte, length_written, part_written}
use Rattle.packed.proofs.bitfield.BitWriter.part.Goals as goal

pub overflow_cast-self : goal.overflow_cast-self
overflow_cast-self c =
    let n = c.len-len.result in
    let free = 8 - n % 8 in
    let w = c.args.width in
    let b = get_or c.self.inside.bytes (n / 8) 0 in
    let small : b < 256 = omega (arith, c.from.ensures) in
    let is : c.from.result ≡ b = c.from.ensures in
    let byte = filled_byte c.from.result (n % 8) free w (free - w) c.args.value (omega arith) c.requires.1 (omega arith) (omega (arith, c.len-len.ensures.value)) in
    omega (arith, byte.0, byte.1)

pub returns : goal.returns
returns c =
    let bs = c.self.inside.bytes in
    let n = c.len-len.result in
    let free = 8 - n % 8 in
    let w = c.args.width in
    let v = c.args.value in
    let b = get_or bs (n / 8) 0 in
    let small : b < 256 = omega (arith, c.from.ensures) in
    let fit : w + (free - w) ≡ free = omega (arith, c.len-len.ensures.value) in
    let at : n ≡ c.self.inside.len = c.len-len.ensures.value ∙ ap length (sym c.self.view_is) ∙ length_written c.self.inside.len bs (omega arith) in
    let byte = ap (λ x. (x / 2 ^ free * 2 ^ w % 4294967296 + v) * 2 ^ (free - w) % 4294967296) c.from.ensures ∙ (filled_byte b (n % 8) free w (free - w) v small c.requires.1 (omega arith) fit).0 in
    ap (λ x. take (n + w) (bits_of (set bs (n / 8) x))) byte
    ∙ part_written bs n free w (free - w) v (omega arith) c.requires.1 refl fit
    ∙ ap (λ l. l ++ field w v) (ap (λ m. take m (bits_of bs)) at ∙ c.self.view_is)
