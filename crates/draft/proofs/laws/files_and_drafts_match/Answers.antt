use Rattle.draft.proofs.EveryDraft.{every_draft_fits}
use Rattle.draft.proofs.RoundTrip.{reads_written, writes_read, one_file, first_fault}
use Rattle.draft.proofs.laws.files_and_drafts_match.Goals as goal

pub returns : goal.returns
returns c = record { read = reads_written; write = writes_read; one = one_file; first = first_fault; every = every_draft_fits }
