-- The number, the layer and the place of each fault of a file.
use Rattle.std.specs.Prelude.{ℕ}
use Rattle.faults.specs.declared.report.Report.{Report}
use Rattle.draft.specs.declared.fault.ReadFault.{ReadFault}
use Rattle.draft.specs.declared.fault.ReadFault.TheVariants.{CutShort, Edition, Count, NoType, ZeroBit, NotFinite, NameByte, LeftOver}

-- by the file: layer 1, at the first bit of the field
abbrev pub by_file : ℕ → ℕ → Report
by_file n bit = record { number = n; layer = 1; place = (bit, 0) }

abbrev pub read_report : ReadFault → Report
read_report (CutShort b) = by_file 1 b
read_report (Edition b) = by_file 2 b
read_report (Count b) = by_file 3 b
read_report (NoType b) = by_file 4 b
read_report (ZeroBit b) = by_file 5 b
read_report (NotFinite b) = by_file 6 b
read_report (NameByte b) = by_file 7 b
read_report (LeftOver b) = by_file 8 b
