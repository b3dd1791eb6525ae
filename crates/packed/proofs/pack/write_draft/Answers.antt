use Rattle.std.proofs.Common.{◌<◌, ap, ◌∙◌, arith}
use Rattle.std.proofs.ByRecursion.{All-from_get_or}
use Rattle.draft.specs.Drafts.{means}
use Rattle.draft.proofs.EveryDraft.{every_draft_fits}
use Rattle.draft.proofs.Whole.{draft_exact}
use Rattle.packed.proofs.Packing.{whole_draft, delivered, reads_back, rewritten}
use Rattle.packed.proofs.pack.write_draft.Goals as goal
use Rattle.std.proofs.Common.{length}

pub bytes-requires : goal.bytes-requires
bytes-requires c =
    let d = means c.args.draft.now in
    omega (arith, ap length c.pack.ensures, draft_exact.long 0 d, whole_draft d)

pub returns : goal.returns
returns c =
    let d = means c.args.draft.now in
    let x = c.args.out.now in
    let y = c.deliver.new.out in
    let r = c.deliver.result in
    let w = delivered d c.bytes.result.now x y r (c.bytes.ensures ∙ c.pack.ensures) c.deliver.ensures in
    record {
      value = w;
      back = reads_back d x y r (every_draft_fits c.args.draft.now) w;
      again = rewritten d x y r (All-from_get_or (λ b. b < 256) _ 0 (λ i _. (c.type_inv.out i).fits)) w;
    }
