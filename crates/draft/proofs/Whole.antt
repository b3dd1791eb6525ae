-- Blocks and drafts are read exactly where their bits stand.
use Rattle.draft.specs.File.{block_format, draft_format, source_format, param_format, name_byte}
use Rattle.draft.proofs.Exact.{Exact, then_exact, times_exact, via_exact}
use Rattle.draft.proofs.Params.{param_exact}
use Rattle.draft.proofs.FileLaws.{head_exact, source_exact, padding_exact, name_byte_exact, header_exact, columns_exact}

pub block_exact : Exact block_format
block_exact =
    via_exact _ _ _
    (then_exact _ _ head_exact (λ h.
    then_exact _ _ (times_exact h.1.0 source_format source_exact) (λ _.
    then_exact _ _ (times_exact h.1.1.0 param_format param_exact) (λ _.
    then_exact _ _ padding_exact (λ _.
    times_exact h.1.1.1 name_byte name_byte_exact)))))
    (λ a t. λ i. ((a.0.0, (t.1.0.0 i, (t.1.1.0.0 i, t.1.1.1.1.0 i))), a.1))

pub draft_exact : Exact draft_format
draft_exact =
    via_exact _ _ _
    (then_exact _ _ header_exact (λ h.
    then_exact _ _ (columns_exact h.columns) (λ _.
    times_exact h.blocks block_format block_exact)))
    (λ a t. λ i. (record { columns = t.1.0.0.0.0 i; blocks = t.1.1.0 i }, a.1))
