-- What a walk answers, and when it is refused.
use Rattle.std.specs.Prelude.{◌≡◌, ℕ, ◌<◌, ◌≤◌, List, replicate, vec_items}
use Rattle.faults.specs.declared.fault.Fault.{Fault}
use Rattle.faults.specs.declared.fault.Fault.TheVariants.{CycleBeyond}
use Rattle.values.specs.declared.scalar.Value.{Value}
use Rattle.values.specs.declared.scalar.State.{State}
use Rattle.values.specs.Values.{absent}
use Rattle.blocks.specs.Library.{Library}
use Rattle.drawing.specs.declared.drawing.Drawing.{Drawing}
use Rattle.drawing.specs.Net.{Orders}
use Rattle.drawing.specs.Wiring.{net}
use Rattle.sheet.specs.Calls.{place_of}
use Rattle.sheet.specs.Page.{Page}
use Rattle.sheet.specs.Rows.{rows_of}
use Rattle.walk.specs.Cycle.{Solves, worked}
use Rattle.walk.specs.Opening.{blocks_of, Openable, Unopenable}
use Rattle.walk.specs.Walk.{Walks, Finds}

-- working each cycle's blocks in another order that respects the connections gives the same values
abbrev pub AnyOrder : Library → Drawing → (ℕ → List Value) → Type 0
AnyOrder L d rows = (order : List ℕ) → Orders (net (blocks_of d) (vec_items d.signatures)) order → (c : ℕ) (states : List State) (vs : List Value)
    → Walks L (blocks_of d) rows c states → Solves L (blocks_of d) states (rows c) vs → worked L (blocks_of d) states (rows c) order (replicate 64 absent) ≡ vs

-- the cycle is on the sheet, and the values are the only ones that the walk over its standing rows finds
pub record Found (L : Library) (d : Drawing) (p : Page) (c : ℕ) (vs : List Value) : Type 0 where
  pub opening : Openable L d p
  pub inside : c < p.rows
  pub found : Finds L (blocks_of d) (rows_of p) c vs
  pub only : (ws : List Value) → Finds L (blocks_of d) (rows_of p) c ws → ws ≡ vs
  pub any_order : AnyOrder L d (rows_of p)

-- the opening is tested first, then the cycle
pub data Refuses (L : Library) (d : Drawing) (p : Page) (c : ℕ) : Fault → Type 0 where
  closed : {f : Fault} → Unopenable L d p f → Refuses L d p c f
  beyond : Openable L d p → p.rows ≤ c → Refuses L d p c (CycleBeyond (place_of c 0))
