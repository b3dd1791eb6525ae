use Rattle.std.proofs.Common.{◌≡◌, ◌*◌, ◌/◌, length, take, sym, ap, ◌∙◌, arith}
use Rattle.draft.specs.Bits.{bits_of}
use Rattle.packed.proofs.Appending.{bits_take, length_written}
use Rattle.packed.proofs.bitfield.BitWriter.bytes.Goals as goal

pub returns : goal.returns
returns c =
    let bs = c.self.inside.bytes in
    let n = c.self.inside.len in
    let at : length c.args.self.now ≡ n = ap length (sym c.self.view_is) ∙ length_written n bs (omega arith) in
    let whole : 8 * (n / 8) ≡ n = omega (arith, at) in
    bits_take (n / 8) bs (omega arith) ∙ ap (λ m. take m (bits_of bs)) whole ∙ c.self.view_is
