use Rattle.std.proofs.Common.{◌++◌, length, ap, ◌∙◌}
use Rattle.draft.specs.Bits.{field}
use Rattle.draft.specs.File.{gap}
use Rattle.packed.proofs.Appending.{bits_zeros}
use Rattle.packed.proofs.bitfield.BitWriter.padding.Goals as goal

pub returns-clause-value : goal.returns-clause-value
returns-clause-value c =
    let s = c.args.self.now in
    c.field.ensures.value ∙ ap (λ n. s ++ field (gap n) 0) c.len.ensures.value ∙ ap (λ l. s ++ l) (bits_zeros (length s) (gap (length s)))
