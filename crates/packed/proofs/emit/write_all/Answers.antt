use Rattle.std.proofs.Common.{◌≡◌, ◌+◌, [], ◌∷◌, ◌++◌, length, take, sym, ap, ◌∙◌, arith}
use Rattle.std.proofs.lemmas.List.{take_more}
use Rattle.packed.specs.Appends.{bits_each}
use Rattle.packed.proofs.Appending.{each_more}
use Rattle.packed.proofs.emit.write_all.Goals as goal

pub loop-value-preserved : goal.loop-value-preserved
loop-value-preserved g c =
    let x = c.args.file.now in
    let xs = c.args.values.now in
    let i = c.loop-value.value-index in
    let a = c.value-item.result in
    let f = g.T.Field.bits in
    let more : take (i + 1) xs ≡ take i xs ++ a ∷ [] = take_more xs i a c.loop-value-test.true ∙ ap (λ y. take i xs ++ y ∷ []) (sym c.value-item.is) in
    let written = each_more f (take i xs) a x c.loop-value.file c.write.new.file c.loop-value.invariant.written c.write.ensures.value in
    record {
      written = written ∙ ap (λ ys. x ++ bits_each f (length x) ys) (sym more);
      near = omega (arith, c.write.ensures.near, c.loop-value.invariant.near);
    }
