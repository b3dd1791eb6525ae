-- A block that is given by its kind, parameters and sources fits the plant library.
use Rattle.std.proofs.Common.{◌≡◌, ℕ, true, List, map, length, Some, vec_items, ap, ◌∙◌}
use Rattle.values.specs.Values.{type_of}
use Rattle.values.specs.declared.scalar.Value.{Value}
use Rattle.blocks.specs.Library.{listed}
use Rattle.blocks.specs.declared.library.Signature.{Signature}
use Rattle.plant.specs.Plant.{plant}
use Rattle.draft.specs.declared.source.Source.{Source}
use Rattle.draft.specs.declared.draft.Block.{Block}
use Rattle.drawing.specs.Suits.{Fits}
use Rattle.drawing_examples.specs.Inverters.{Is}

pub fits : (b : Block) (kind : ℕ) (ps : List Value) (xs : List Source) (s : Signature) → Is b kind ps xs
    → plant.signature kind ≡ Some s → length xs ≡ length (listed s.inputs) → map type_of ps ≡ listed s.params
    → plant.lawful kind ps ≡ true → Fits plant b s
fits b kind ps xs s is known inputs params lawful = record {
  signs = ap plant.signature is.kind_is ∙ known;
  inputs = ap length is.sources_are ∙ inputs;
  params = ap (map type_of) is.params_are ∙ params;
  lawful = ap (λ k. plant.lawful k (vec_items b.params)) is.kind_is ∙ ap (plant.lawful kind) is.params_are ∙ lawful;
}
