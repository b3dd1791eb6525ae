-- A refusal of the check, told by load.
use Rattle.std.proofs.Common.{◌≡◌, ℕ, List, Ok, vec_items}
use Rattle.blocks.specs.Library.{Library}
use Rattle.draft.specs.declared.draft.Draft.{Draft}
use Rattle.draft.specs.Drafts.{means}
use Rattle.draft.specs.File.{read_file}
use Rattle.drawing.specs.declared.fault.CheckFault.{CheckFault}
use Rattle.faults.specs.declared.failure.Failure.{Failure}
use Rattle.faults.specs.declared.failure.Failure.TheVariants.{Fault, NoMemory}
use Rattle.drawing.specs.Faults.{Refuses}
use Rattle.packed.specs.Load.{from_check, Unloaded}

pub relays : (L : Library) (bytes : List ℕ) (d : Draft) (e : Failure CheckFault) → read_file bytes ≡ Ok (means d) → Refuses L (vec_items d.columns) (vec_items d.blocks) e → Unloaded L bytes (from_check e)
relays L bytes d (Fault e) read h = (d, read, h)
relays L bytes d NoMemory read h = tt
