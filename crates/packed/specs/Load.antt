-- Loading: the drawing of a file's draft, or the lower layer's fault.
use Rattle.std.specs.Prelude.{◌≡◌, ℕ, List, Ok, Err, vec_items}
use Rattle.faults.specs.declared.failure.Failure.{Failure}
use Rattle.faults.specs.declared.failure.Failure.TheVariants.{Fault, NoMemory}
use Rattle.faults.specs.declared.report.Report.{Report}
use Rattle.blocks.specs.Library.{Library}
use Rattle.draft.specs.declared.draft.Draft.{Draft}
use Rattle.draft.specs.declared.fault.ReadFault.{ReadFault}
use Rattle.draft.specs.Drafts.{means, TheDraft}
use Rattle.draft.specs.Faults.{read_report}
use Rattle.draft.specs.File.{read_file}
use Rattle.draft.specs.Refused.{FirstFault}
use Rattle.drawing.specs.declared.drawing.Drawing.{Drawing}
use Rattle.drawing.specs.declared.fault.CheckFault.{CheckFault}
use Rattle.drawing.specs.Accept.{Accepts}
use Rattle.drawing.specs.Faults.{First, check_report}
use Rattle.packed.specs.declared.load_fault.LoadFault.{LoadFault}
use Rattle.packed.specs.declared.load_fault.LoadFault.TheVariants.{Read, Check}

-- the same number and place, told by layer 4
abbrev pub relayed : Report → Report
relayed r = record { number = r.number; layer = 4; place = r.place }

abbrev pub load_report : LoadFault → Report
load_report (Read e) = relayed (read_report e)
load_report (Check e) = relayed (check_report e)

abbrev pub from_read : Failure ReadFault → Failure LoadFault
from_read (Fault e) = Fault (Read e)
from_read NoMemory = NoMemory

abbrev pub from_check : Failure CheckFault → Failure LoadFault
from_check (Fault e) = Fault (Check e)
from_check NoMemory = NoMemory

-- the drawing is the one draft that the file encodes, accepted
pub record Loads (L : Library) (bytes : List ℕ) (d : Drawing) : Type 0 where
  pub read : read_file bytes ≡ Ok (means d.draft)
  pub encoded : TheDraft bytes (means d.draft)
  pub accepted : Accepts L d.draft d

-- why nothing is loaded: the first fault of the file, or of the draft that it gives; memory may be wanting at any file
abbrev pub Unloaded : Library → List ℕ → Failure LoadFault → Type 0
Unloaded L bytes (Fault (Read e)) = (read_file bytes ≡ Err e) × FirstFault bytes e
Unloaded L bytes (Fault (Check e)) = (d : Draft) × (read_file bytes ≡ Ok (means d)) × First L (vec_items d.columns) (vec_items d.blocks) e
Unloaded L bytes NoMemory = Unit {0}
