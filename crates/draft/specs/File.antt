-- The packed file of a drawing.
use Rattle.std.specs.Prelude.{◌≡◌, ℕ, ◌-◌, ◌/◌, ◌%◌, ◌<◌, Bool, true, cond, not, ◌&&◌, leb, List, length, replicate, Ok, Err, Result, ◌==◌, nat_eq, nat_le}
use Rattle.std.specs.List.{AllByRecursion}
use Rattle.std.specs.Int.{w16}
use Rattle.std.proofs.Common.{to_z, of_z}
use Rattle.draft.specs.declared.fault.ReadFault.{ReadFault}
use Rattle.draft.specs.declared.fault.ReadFault.TheVariants.{CutShort, Edition, Count, NoType, ZeroBit, NotFinite, NameByte, LeftOver}
use Rattle.values.specs.declared.scalar.ValueType.{ValueType}
use Rattle.values.specs.declared.scalar.ValueType.TheVariants.{Binary, Whole, Real}
use Rattle.values.specs.declared.packed.Cell.{Cell}
use Rattle.values.specs.declared.packed.Cell.TheVariants as Cells
use Rattle.values.specs.declared.scalar.Value.{Value}
use Rattle.values.specs.Packed.{value_of, cell_of}
use Rattle.draft.specs.declared.source.Source.{Source}
use Rattle.draft.specs.declared.source.Source.TheVariants.{Column, Block}
use Rattle.draft.specs.declared.record.Header.{Header}
use Rattle.draft.specs.Bits.{bits_of}
use Rattle.draft.specs.Format.{Format, bind, number, then, times, via}

-- zero bits
abbrev pub zero_bit : Format ℕ
zero_bit = number 1 (λ v. nat_eq v 0) ZeroBit

abbrev pub zeros_format : ℕ → Format (Unit {0})
zeros_format n = via (λ _. tt) (λ _. replicate n 0) (times n zero_bit)

-- how many bits are left of the byte of bit p, none where p begins one
abbrev pub gap : ℕ → ℕ
gap p = (8 - p % 8) % 8

abbrev pub padding_format : Format (Unit {0})
padding_format = record {
  fits = λ _. Unit {0};
  bits = λ p x. (zeros_format (gap p)).bits p x;
  size = λ p x. (zeros_format (gap p)).size p x;
  read = λ file p. (zeros_format (gap p)).read file p;
}

-- a count of w bits, at most n
abbrev pub up_to : ℕ → ℕ → Format ℕ
up_to w n = number w (λ v. leb v n) Count

-- edition, numbers of columns and blocks, five zero bits
abbrev pub edition : Format ℕ
edition = number 8 (λ v. nat_eq v 1) Edition

abbrev pub block_count : Format ℕ
block_count = number 7 (λ v. nat_le 1 v && nat_le v 64) Count

abbrev pub header_format : Format Header
header_format =
    via (λ x. record { columns = x.1.0; blocks = x.1.1.0 }) (λ h. (1, (h.columns, (h.blocks, tt))))
    (then edition (λ _. then (up_to 4 8) (λ _. then block_count (λ _. zeros_format 5))))

-- a type
abbrev pub type_from : ℕ → ValueType
type_from t = cond (t == 1) Binary (cond (t == 2) Whole Real)

abbrev pub tag_of : ValueType → ℕ
tag_of Binary = 1
tag_of Whole = 2
tag_of Real = 3

abbrev pub tag : Format ℕ
tag = number 2 (λ t. not (t == 0)) NoType

abbrev pub type_format : Format ValueType
type_format = via type_from tag_of tag

-- the columns' types, then zero bits to a byte
abbrev pub columns_format : ℕ → Format (List ValueType)
columns_format n = via (λ x. x.0) (λ xs. (xs, tt)) (then (times n type_format) (λ _. padding_format))

-- a source: 1 and a block's number, or 0 and a column's
abbrev pub source_of : ℕ × ℕ → Source
source_of x = cond (x.0 == 1) (Block x.1) (Column x.1)

abbrev pub source_parts : Source → ℕ × ℕ
source_parts (Column n) = (0, n)
source_parts (Block n) = (1, n)

-- a field in which every number is allowed
abbrev pub free : ℕ → Format ℕ
free w = number w (λ _. true) CutShort

abbrev pub source_format : Format Source
source_format = via source_of source_parts (then (free 1) (λ _. free 7))

-- a parameter: its type and its value, a real as its pattern
abbrev pub width_of : ValueType → ℕ
width_of Binary = 1
width_of Whole = 16
width_of Real = 32

-- the exponent of a real that is not finite is all ones
abbrev pub finite : ℕ → Bool
finite v = not (v / 0x80_0000 % 256 == 255)

abbrev pub good : ValueType → ℕ → Bool
good Binary v = true
good Whole v = true
good Real v = finite v

abbrev pub cell_from : ValueType × ℕ → Cell
cell_from x = elim x.0 [ Binary ↦ Cells.Binary (x.1 == 1) | Whole ↦ Cells.Whole (to_z w16 x.1) | Real ↦ Cells.Real x.1 ]

abbrev pub cell_parts : Cell → ValueType × ℕ
cell_parts (Cells.Binary b) = (Binary, cond b 1 0)
cell_parts (Cells.Whole z) = (Whole, of_z w16 z)
cell_parts (Cells.Real v) = (Real, v)

abbrev pub pattern : ValueType → Format ℕ
pattern t = number (width_of t) (good t) NotFinite

abbrev pub cell_format : Format Cell
cell_format = via cell_from cell_parts (then type_format pattern)

-- the value of a parameter
abbrev pub param_format : Format Value
param_format = via value_of cell_of cell_format

abbrev pub name_byte : Format ℕ
name_byte = number 8 (λ b. nat_le 32 b && nat_le b 126) NameByte

-- a block as it is meant
pub record BlockOf : Type 0 where
  pub kind : ℕ
  pub sources : List Source
  pub params : List Value
  pub name : List ℕ

-- kind, numbers of inputs and parameters, length of the name
abbrev pub block_head : Format (ℕ × (ℕ × (ℕ × ℕ)))
block_head = then (free 6) (λ _. then (up_to 3 4) (λ _. then (up_to 3 4) (λ _. up_to 4 8)))

-- the rest of a block with the counts of its head
abbrev pub block_name : ℕ → Format (Unit {0} × List ℕ)
block_name n = then padding_format (λ _. times n name_byte)

abbrev pub block_params : ℕ → ℕ → Format (List Value × (Unit {0} × List ℕ))
block_params np n = then (times np param_format) (λ _. block_name n)

abbrev pub block_rest : ℕ × (ℕ × (ℕ × ℕ)) → Format (List Source × (List Value × (Unit {0} × List ℕ)))
block_rest h = then (times h.1.0 source_format) (λ _. block_params h.1.1.0 h.1.1.1)

abbrev pub to_block : (ℕ × (ℕ × (ℕ × ℕ))) × (List Source × (List Value × (Unit {0} × List ℕ))) → BlockOf
to_block x = record { kind = x.0.0; sources = x.1.0; params = x.1.1.0; name = x.1.1.1.1 }

abbrev pub from_block : BlockOf → (ℕ × (ℕ × (ℕ × ℕ))) × (List Source × (List Value × (Unit {0} × List ℕ)))
from_block b = ((b.kind, (length b.sources, (length b.params, length b.name))), (b.sources, (b.params, (tt, b.name))))

abbrev pub block_format : Format BlockOf
block_format = via to_block from_block (then block_head block_rest)

-- a drawing as it is meant
pub record DraftOf : Type 0 where
  pub columns : List ValueType
  pub blocks : List BlockOf

abbrev pub draft_rest : Header → Format (List ValueType × List BlockOf)
draft_rest h = then (columns_format h.columns) (λ _. times h.blocks block_format)

abbrev pub to_draft : Header × (List ValueType × List BlockOf) → DraftOf
to_draft x = record { columns = x.1.0; blocks = x.1.1 }

abbrev pub from_draft : DraftOf → Header × (List ValueType × List BlockOf)
from_draft d = (record { columns = length d.columns; blocks = length d.blocks }, (d.columns, d.blocks))

abbrev pub draft_format : Format DraftOf
draft_format = via to_draft from_draft (then header_format draft_rest)

-- the drawing of a file, with no byte left over
abbrev pub read_file : List ℕ → Result DraftOf ReadFault
read_file bytes =
    bind (draft_format.read (bits_of bytes) 0) (λ d.
    cond (nat_le (length (bits_of bytes)) (draft_format.size 0 d)) (Ok d) (Err (LeftOver (draft_format.size 0 d))))

-- a drawing within the limits of the format, and its file
abbrev pub Writable : DraftOf → Type 0
Writable d = draft_format.fits d

abbrev pub FileOf : DraftOf → List ℕ → Type 0
FileOf d bytes = bits_of bytes ≡ draft_format.bits 0 d

-- Written and read match both ways: what is written of a drawing is read as that drawing, and what is read as a drawing is what is written of it.
abbrev pub ReadsWhatIsWritten : Type 0
ReadsWhatIsWritten = (d : DraftOf) (bytes : List ℕ) → Writable d → FileOf d bytes → read_file bytes ≡ Ok d

abbrev pub WritesWhatIsRead : Type 0
WritesWhatIsRead = (d : DraftOf) (bytes : List ℕ) → read_file bytes ≡ Ok d → Writable d × FileOf d bytes

-- a drawing has one file
abbrev pub OneFile : Type 0
OneFile = (d : DraftOf) (b c : List ℕ) → AllByRecursion (λ x. x < 256) b → AllByRecursion (λ x. x < 256) c → FileOf d b → FileOf d c → b ≡ c
