-- The number, the layer and the place of each refusal of layer 3. Assumes nothing.
use Rattle.std.specs.Prelude.{ℕ}
use Rattle.faults.specs.declared.fault.Fault.{Fault}
use Rattle.faults.specs.declared.fault.Fault.TheVariants.{CycleBeyond, ColumnBeyond, WrongType, NotFinite, ListFull, NothingToTakeBack, TrialOpen, NoSuchTrial, NoSuchMark, NotOpened, SheetSize, NoSuchBlock, OutputShort, MarksFull, LibraryDiffers}
use Rattle.faults.specs.declared.fault.Place.{Place}
use Rattle.faults.specs.declared.report.Report.{Report}

abbrev pub at : ℕ → Place → Report
at n p = record { number = n; layer = 3; place = (p.cycle, p.column) }

abbrev pub nowhere : ℕ → Report
nowhere n = record { number = n; layer = 3; place = (0, 0) }

abbrev pub report_of : Fault → Report
-- by the user: the cycle and the column wanted
report_of (CycleBeyond p) = at 21 p
report_of (ColumnBeyond p) = at 22 p
report_of (WrongType p) = at 23 p
report_of (NotFinite p) = at 24 p
report_of (ListFull p) = at 25 p
report_of NothingToTakeBack = nowhere 26
report_of TrialOpen = nowhere 27
report_of NoSuchTrial = nowhere 28
report_of NoSuchMark = nowhere 29
-- by the programmer
report_of NotOpened = nowhere 31
report_of SheetSize = nowhere 32
report_of NoSuchBlock = nowhere 33
report_of OutputShort = nowhere 34
report_of MarksFull = nowhere 35
report_of LibraryDiffers = nowhere 36
