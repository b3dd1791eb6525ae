use Rattle.std.proofs.Common.{◌≡◌, map, vec_items}
use Rattle.draft.specs.Bits.{bits_of}
use Rattle.draft.specs.Drafts.{block_means}
use Rattle.draft.specs.File.{read_file}
use Rattle.draft.proofs.Steps.{rest, left}
use Rattle.draft.proofs.reading.read_draft.Given as goal

abbrev pub invariant-loop-gathered : goal.invariant-loop-gathered
invariant-loop-gathered l = (read_file l.file ≡ rest (bits_of l.file) l.reader.stage l.reader.cursor.at (vec_items l.gathered.columns) (map block_means (vec_items l.gathered.blocks))) × (l.reader.cursor.file.now ≡ l.file)

abbrev pub decreases-loop-gathered : goal.decreases-loop-gathered
decreases-loop-gathered l = left l.reader.stage
