-- When a drawing can be run over a sheet with a library.
use Rattle.std.specs.Prelude.{◌≡◌, ◌<◌, List, vec_items, ◌≢◌}
use Rattle.faults.specs.declared.fault.Fault.{Fault}
use Rattle.faults.specs.declared.fault.Fault.TheVariants.{NotOpened, SheetSize, LibraryDiffers}
use Rattle.values.specs.declared.scalar.ValueType.{ValueType}
use Rattle.blocks.specs.Library.{Library}
use Rattle.draft.specs.declared.draft.Block.{Block}
use Rattle.drawing.specs.declared.drawing.Drawing.{Drawing}
use Rattle.sheet.specs.Page.{Page}
use Rattle.walk.specs.Cycle.{Fitting}

abbrev pub blocks_of : Drawing → List Block
blocks_of d = vec_items d.draft.blocks

abbrev pub columns_of : Drawing → List ValueType
columns_of d = vec_items d.draft.columns

abbrev pub fits : Library → Drawing → Type 0
fits L d = Fitting L (blocks_of d) (vec_items d.signatures)

-- the sheet has rows and the drawing's columns, and the library finds every block as it was checked
pub record Openable (L : Library) (d : Drawing) (p : Page) : Type 0 where
  pub rows : 0 < p.rows
  pub columns : p.columns ≡ columns_of d
  pub fitting : fits L d

-- why not, in the order of the tests
pub data Unopenable (L : Library) (d : Drawing) (p : Page) : Fault → Type 0 where
  no_rows : p.rows ≡ 0 → Unopenable L d p SheetSize
  other_columns : 0 < p.rows → (p.columns ≢ columns_of d) → Unopenable L d p NotOpened
  other_library : 0 < p.rows → p.columns ≡ columns_of d → (fits L d → ⊥) → Unopenable L d p LibraryDiffers
