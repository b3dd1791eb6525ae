use Rattle.std.proofs.Common.{◌≡◌, ◌-◌, [], ◌∷◌, take, ◌∙◌, arith}
use Rattle.std.proofs.lemmas.Result.{IfOk-weaker}
use Rattle.values.specs.Packed.{value_of}
use Rattle.draft.proofs.Params.{take_map}
use Rattle.draft.proofs.reading.params_of.Goals as goal

pub returns : goal.returns
returns c =
    let b = c.args.block.now in
    let all : c.from-5.result - 0 ≡ b.params = omega arith in
    let a0 = c.from.ensures.value in
    let a1 = c.from-2.ensures.value in
    let a2 = c.from-3.ensures.value in
    let a3 = c.from-4.ensures.value in
    IfOk-weaker c.from_slice.result _ _
    (λ v h. h ∙ (λ i. take (all i) (a0 i ∷ a1 i ∷ a2 i ∷ a3 i ∷ [])) ∙ take_map value_of b.params (b.param0 ∷ b.param1 ∷ b.param2 ∷ b.param3 ∷ []))
    c.from_slice.ensures.items
