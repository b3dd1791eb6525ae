-- What a refusal tells of a file: the fault is the first, and it shows at its place.
use Rattle.std.specs.Prelude.{◌≡◌, ℕ, ◌+◌, ◌<◌, ◌≤◌, false, ◌⊎◌, List, length, take, Err, ◌≢◌}
use Rattle.draft.specs.declared.fault.ReadFault.{ReadFault}
use Rattle.draft.specs.declared.fault.ReadFault.TheVariants.{CutShort, Edition, Count, NoType, ZeroBit, NotFinite, NameByte, LeftOver}
use Rattle.draft.specs.Bits.{bits_of, value_at}
use Rattle.draft.specs.Faults.{read_report}
use Rattle.draft.specs.Limits.{printable}
use Rattle.draft.specs.File.{DraftOf, draft_format, read_file, FileOf, Writable, finite}

-- the bit at which a fault is told
abbrev pub place_of : ReadFault → ℕ
place_of e = (read_report e).place.0

-- the w bits at p are there, and the number in them is as P says
abbrev pub Field : List ℕ → ℕ → ℕ → (ℕ → Type 0) → Type 0
Field file p w P = (p + w ≤ length file) × P (value_at file p w)

-- what each fault says of the bits of a file; no field is wider than 32 bits
abbrev pub Shows : List ℕ → ReadFault → Type 0
Shows file (CutShort p) = length file < p + 32
Shows file (Edition p) = Field file p 8 (λ v. v ≢ 1)
-- of columns or bytes of a name, of inputs or parameters, of blocks
Shows file (Count p) = Field file p 4 (λ v. 8 < v) ⊎ (Field file p 3 (λ v. 4 < v) ⊎ Field file p 7 (λ v. (v ≡ 0) ⊎ (64 < v)))
Shows file (NoType p) = Field file p 2 (λ v. v ≡ 0)
Shows file (ZeroBit p) = Field file p 1 (λ v. v ≢ 0)
Shows file (NotFinite p) = Field file p 32 (λ v. finite v ≡ false)
Shows file (NameByte p) = Field file p 8 (λ v. printable v ≡ false)
Shows file (LeftOver p) = p < length file

-- No draft has this file. Up to the bit that is told it is the front of some draft's file, and at that bit the fault shows.
pub record FirstFault (bytes : List ℕ) (e : ReadFault) : Type 0 where
  pub none : (d : DraftOf) → Writable d → FileOf d bytes → ⊥
  pub within : place_of e ≤ length (bits_of bytes)
  pub front : (d : DraftOf) × Writable d × (take (place_of e) (bits_of bytes) ≡ take (place_of e) (draft_format.bits 0 d))
  pub shows : Shows (bits_of bytes) e

abbrev pub RefusalsTellTheFirstFault : Type 0
RefusalsTellTheFirstFault = (bytes : List ℕ) (e : ReadFault) → read_file bytes ≡ Err e → FirstFault bytes e
