use Rattle.std.proofs.Common.{◌++◌, length, ap, ◌∙◌}
use Rattle.std.proofs.lemmas.List.{map-id}
use Rattle.draft.specs.Bits.{field}
use Rattle.draft.specs.Drafts.{block_means}
use Rattle.draft.specs.Format.{times}
use Rattle.draft.specs.File.{block_head, block_rest, block_params, block_name, source_format, param_format, padding_format, name_byte}
use Rattle.packed.specs.Appends.{Appends}
use Rattle.draft.proofs.Exact.{times_exact}
use Rattle.draft.proofs.FileLaws.{head_exact, source_exact, padding_exact, name_byte_exact}
use Rattle.draft.proofs.Params.{param_exact}
use Rattle.packed.proofs.Appending.{appends_then, each_written, four_written}
use Rattle.packed.proofs.emit.BlockField.write.Goals as goal

pub returns-clause-value : goal.returns-clause-value
returns-clause-value c =
    let b = block_means c.args.self.now in
    let ni = length b.sources in
    let np = length b.params in
    let nl = length b.name in
    let o0 = c.args.file.now in
    let o1 = c.field-4.new.self in
    let o2 = c.write_all.new.file in
    let o3 = c.write_all-2.new.file in
    let o4 = c.padding.new.self in
    let o5 = c.write_all-3.new.file in
    let head : Appends block_head (b.kind, (ni, (np, nl))) o0 o1 =
    four_written (field 6 b.kind) (field 3 ni) (field 3 np) (field 4 nl) o0 c.field.new.self c.field-2.new.self c.field-3.new.self o1
    (c.field.ensures.value ∙ ap (λ n. o0 ++ field 6 n) (c.from.ensures ∙ c.kind.ensures))
    (c.field-2.ensures.value ∙ ap (λ xs. c.field.new.self ++ field 3 (length xs)) c.sources-sources.ensures)
    (c.field-3.ensures.value ∙ ap (λ xs. c.field-2.new.self ++ field 3 (length xs)) c.params-params.ensures)
    (c.field-4.ensures.value ∙ ap (λ xs. c.field-3.new.self ++ field 4 (length xs)) c.name-name.ensures) in
    let sources = each_written source_format source_exact (λ x. x) c.sources-sources.result.now b.sources o1 o2 (map-id c.sources-sources.result.now ∙ c.sources-sources.ensures) c.write_all.ensures.value in
    let params = each_written param_format param_exact (λ x. x) c.params-params.result.now b.params o2 o3 (map-id c.params-params.result.now ∙ c.params-params.ensures) c.write_all-2.ensures.value in
    let name = each_written name_byte name_byte_exact (λ x. x) c.name-name.result.now b.name o4 o5 (map-id c.name-name.result.now ∙ c.name-name.ensures) c.write_all-3.ensures.value in
    appends_then block_head block_rest head_exact (b.kind, (ni, (np, nl))) (b.sources, (b.params, (tt, b.name))) o0 o1 o5 head
    (appends_then (times ni source_format) (λ _. block_params np nl) (times_exact ni source_format source_exact) b.sources (b.params, (tt, b.name)) o1 o2 o5 sources
    (appends_then (times np param_format) (λ _. block_name nl) (times_exact np param_format param_exact) b.params (tt, b.name) o2 o3 o5 params
    (appends_then padding_format (λ _. times nl name_byte) padding_exact tt b.name o3 o4 o5 c.padding.ensures.value name)))
