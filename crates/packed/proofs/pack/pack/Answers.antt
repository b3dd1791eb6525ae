use Rattle.std.proofs.Common.{◌++◌, map, length, sym, ap, ◌∙◌}
use Rattle.std.proofs.lemmas.List.{length-map, map-id}
use Rattle.draft.specs.Drafts.{block_means, means}
use Rattle.draft.specs.Format.{times}
use Rattle.draft.specs.File.{type_format, padding_format, block_format, draft_format}
use Rattle.draft.proofs.Exact.{times_exact}
use Rattle.draft.proofs.FileLaws.{type_exact}
use Rattle.draft.proofs.Whole.{block_exact}
use Rattle.packed.proofs.Appending.{appends_then, each_written}
use Rattle.packed.proofs.Packing.{draft_written}
use Rattle.packed.proofs.pack.pack.Goals as goal

pub returns : goal.returns
returns c =
    let d = means c.args.draft.now in
    let ts = c.columns-types.result.now in
    let bs = c.blocks-blocks.result.now in
    let n = length d.columns in
    let x = c.args.file.now in
    let y = c.write_header.new.file in
    let z = c.padding.new.self in
    let w = c.write_all-2.new.file in
    let types = each_written type_format type_exact (λ t. t) ts d.columns y c.write_all.new.file (map-id ts ∙ c.columns-types.ensures) c.write_all.ensures.value in
    let columns = appends_then (times n type_format) (λ _. padding_format) (times_exact n type_format type_exact) d.columns tt y c.write_all.new.file z types c.padding.ensures.value in
    let blocks = each_written block_format block_exact block_means bs d.blocks z w (ap (map block_means) c.blocks-blocks.ensures) c.write_all-2.ensures.value in
    let long = ap (λ xs. length xs) c.blocks-blocks.ensures ∙ sym (length-map _ block_means) in
    draft_written d.columns d.blocks x y z w _ (λ i. record { columns = length (c.columns-types.ensures i); blocks = long i }) c.write_header.ensures.value columns blocks
    ∙ ap (λ l. l ++ draft_format.bits (length l) d) c.requires
