-- The connections of a drawing's blocks.
use Rattle.std.specs.Prelude.{ℕ, false, List, [], ◌∷◌, map, length, vec_items, slice_index_or}
use Rattle.draft.specs.declared.source.Source.{Source}
use Rattle.draft.specs.declared.source.Source.TheVariants.{Column, Block as Output}
use Rattle.draft.specs.declared.draft.Block.{Block}
use Rattle.blocks.specs.declared.library.Signature.{Signature}
use Rattle.drawing.specs.Net.{Net}

-- the blocks among the sources
abbrev pub feeders : List Source → List ℕ
feeders [] = []
feeders (Column c ∷ ss) = feeders ss
feeders (Output b ∷ ss) = b ∷ feeders ss

abbrev pub net : List Block → List Signature → Net
net bs ss =
    record {
      size = length bs;
      delays = λ v. slice_index_or (map (λ s. s.delaying) ss) v false;
      sources = λ v. slice_index_or (map (λ b. feeders (vec_items b.sources)) bs) v [];
    }
