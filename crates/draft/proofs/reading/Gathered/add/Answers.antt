use Rattle.std.proofs.Common.{◌≡◌, cond, [], ◌∷◌, ◌++◌, map, is_ok, vec_items, sym, ap, ◌∙◌, append-nil}
use Rattle.std.proofs.lemmas.List.{map_push}
use Rattle.draft.specs.Drafts.{block_means}
use Rattle.draft.specs.Runs.{columns_in, blocks_in}
use Rattle.draft.proofs.reading.Gathered.add.Goals as goal

pub returns-in_ok-push-in-Block : goal.returns-in_ok-push-in-Block
returns-in_ok-push-in-Block c =
    let new = c.in_ok-block-in-Block.block in
    let old = vec_items c.args.self.now.blocks in
    let pushed : vec_items c.push.new.self ≡ old ++ new ∷ [] =
    c.push.ensures.items ∙ ap (λ r. cond (is_ok r) (old ++ new ∷ []) old) c.in_ok-push-in-Block.was in (
      sym (append-nil (vec_items c.args.self.now.columns)) ∙ ap (λ r. vec_items c.args.self.now.columns ++ columns_in r) (sym c.in-Block.is),
      ap (map block_means) pushed ∙ map_push block_means old new ∙ ap (λ b. map block_means old ++ b ∷ []) c.in_ok-block-in-Block.ensures
          ∙ ap (λ r. map block_means old ++ blocks_in r) (sym c.in-Block.is),
    )
