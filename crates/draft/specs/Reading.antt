-- What the reader hands out at each stage.
use Rattle.std.specs.Prelude.{◌≡◌, ℕ, suc, ◌+◌, ◌-◌, ◌*◌, ◌≤◌, ◌⊎◌, List, length, Some, None, Ok, Err, Option}
use Rattle.draft.specs.declared.fault.ReadFault.{ReadFault}
use Rattle.draft.specs.declared.fault.ReadFault.TheVariants.{LeftOver}
use Rattle.draft.specs.declared.record.Record.{Record}
use Rattle.draft.specs.declared.record.Record.TheVariants.{Header as HeaderRecord, Columns, Block}
use Rattle.draft.specs.declared.record.Stage.{Stage}
use Rattle.draft.specs.declared.record.Stage.TheVariants.{Start, Types, Blocks}
use Rattle.draft.specs.File.{header_format, columns_format, block_format}
use Rattle.draft.specs.Records.{block_of, columns_of, BlockPlain, ColumnsPlain}

-- the bit of the header, the number of columns, and a bound on the last bit of the records to come, at each stage
abbrev pub header_bit : Stage → ℕ → ℕ
header_bit Start at = at
header_bit (Types h) at = 0
header_bit (Blocks n) at = 0

abbrev pub column_count : Stage → ℕ
column_count Start = 0
column_count (Types h) = h.columns
column_count (Blocks n) = 0

abbrev pub farthest : Stage → ℕ → ℕ
farthest Start at = at
farthest (Types h) at = at + 23 + 256 * h.blocks
farthest (Blocks n) at = at + 256 * n

-- the records, by the stage before and after and the bits at which they begin and end
abbrev pub HandsOut : List ℕ → Stage → ℕ → Option Record → Stage → ℕ → Type 0
HandsOut file Start p (Some (HeaderRecord h)) st q = (header_format.read file p ≡ Ok h) × (st ≡ Types h) × (q ≡ p + header_format.size p h)
HandsOut file Start p (Some (Columns c)) st q = ⊥
HandsOut file Start p (Some (Block b)) st q = ⊥
HandsOut file Start p None st q = ⊥
HandsOut file (Types h) p (Some (Columns c)) st q = ((columns_format h.columns).read file p ≡ Ok (columns_of c)) × (st ≡ Blocks h.blocks) × (q ≡ p + (columns_format h.columns).size p (columns_of c)) × ColumnsPlain c
HandsOut file (Types h) p (Some (HeaderRecord g)) st q = ⊥
HandsOut file (Types h) p (Some (Block b)) st q = ⊥
HandsOut file (Types h) p None st q = ⊥
HandsOut file (Blocks n) p (Some (Block b)) st q = (1 ≤ n) × (block_format.read file p ≡ Ok (block_of b)) × (st ≡ Blocks (n - 1)) × (q ≡ p + block_format.size p (block_of b)) × BlockPlain b
HandsOut file (Blocks n) p None st q = (n ≡ 0) × (length file ≤ p) × (st ≡ Blocks n) × (q ≡ p)
HandsOut file (Blocks n) p (Some (HeaderRecord g)) st q = ⊥
HandsOut file (Blocks n) p (Some (Columns c)) st q = ⊥

-- the fault at each stage
abbrev pub Refuses : List ℕ → Stage → ℕ → ReadFault → Type 0
Refuses file Start p e = header_format.read file p ≡ Err e
Refuses file (Types h) p e = (columns_format h.columns).read file p ≡ Err e
Refuses file (Blocks n) p e = ((1 ≤ n) × (block_format.read file p ≡ Err e)) ⊎ ((n ≡ 0) × (suc p ≤ length file) × (e ≡ LeftOver p))
