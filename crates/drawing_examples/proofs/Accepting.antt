-- The plant library accepts the built-in draft, as the built-in drawing.
use Rattle.std.proofs.Common.{◌≡◌, false, [], ◌∷◌, vec_items, sym, refl, ap, subst₂}
use Rattle.values.specs.declared.scalar.Value.TheVariants as Values
use Rattle.plant.specs.Plant.{plant}
use Rattle.draft.specs.Drafts.{block_means}
use Rattle.draft.specs.File.{BlockOf, DraftOf}
use Rattle.draft.specs.declared.source.Source.TheVariants.{Block as Output}
use Rattle.draft.specs.declared.draft.Block.{Block}
use Rattle.drawing.specs.declared.drawing.Drawing.{Drawing}
use Rattle.drawing.specs.BuiltIn.{binary_delay, BuiltIn}
use Rattle.drawing.specs.Suits.{AllFit}
use Rattle.drawing.proofs.Accepting.{accepts}
use Rattle.drawing.proofs.BuiltIn.{one_block}
use Rattle.drawing.proofs.Kept.{kept_sound}
use Rattle.drawing.proofs.Pairs.{pairs_fit}
use Rattle.drawing.proofs.Suiting.{suits_kept}
use Rattle.drawing_examples.specs.Accepted.{BuiltInAccepted}
use Rattle.drawing_examples.proofs.Fitting.{fits}

fit : (d : Drawing) → BuiltIn d → AllFit plant (vec_items d.draft.blocks) (vec_items d.signatures)
fit d h = go (one_block (vec_items d.draft.blocks) _ (ap (λ (m : DraftOf). m.blocks) h.draft))
  where
    go : (b : Block) × (vec_items d.draft.blocks ≡ b ∷ []) × (block_means b ≡ record { kind = 1; sources = Output 0 ∷ []; params = Values.Binary false ∷ []; name = [] })
        → AllFit plant (vec_items d.draft.blocks) (vec_items d.signatures)
    go b =
        subst₂ (AllFit plant) (sym b.1) (sym h.signatures)
        (pairs_fit plant (b.0 ∷ []) (binary_delay ∷ []) refl (
          fits b.0 1 (Values.Binary false ∷ []) (Output 0 ∷ []) binary_delay (record {
            kind_is = ap (λ (m : BlockOf). m.kind) b.2;
            params_are = ap (λ (m : BlockOf). m.params) b.2;
            sources_are = ap (λ (m : BlockOf). m.sources) b.2;
          }) refl refl refl refl,
          tt,
        ))

pub built_in_accepted : BuiltInAccepted
built_in_accepted d h =
    accepts plant d.draft _ _ refl refl d refl (record {
      suits = suits_kept plant _ _ _ _ (fit d h) (kept_sound _ _ _ _ d.sound);
      signatures = fit d h;
      keeps = kept_sound _ _ _ _ d.sound;
    })
