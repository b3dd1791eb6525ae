-- What users feel of the law over runs. Assumes nothing.
use Rattle.std.specs.Prelude.{◌≡◌, ℕ, ◌≤◌, Some, ◌≢◌}
use Rattle.faults.specs.declared.fault.Fault.TheVariants.{NotOpened}
use Rattle.blocks.specs.Library.{Library, Sound}
use Rattle.drawing.specs.declared.drawing.Drawing.{Drawing}
use Rattle.sheet.specs.Page.{Page}
use Rattle.sheet.specs.Rows.{rows_of}
use Rattle.player.specs.Feed.{Feed}
use Rattle.player.specs.Play.{Head}
use Rattle.player.specs.Walker.{Walker, judge}
use Rattle.player.specs.Law.{Agrees}

-- Two players of one library and one drawing, at the same cycle, whose sheets have the same standing rows up to there, show the
-- same values, whatever calls led there and whichever stores stand below.
abbrev pub SameValues : Type 0
SameValues = (L : Library) → Sound L → (D : Drawing) (h h' : Head) (p p' : Page) (w w' : Walker) → Agrees L D h p w → Agrees L D h' p' w'
    → h.at ≡ h'.at → ((c : ℕ) → c ≤ h.at → rows_of p c ≡ rows_of p' c) → h.shown ≡ h'.shown

-- in a run on the sheet that the player was opened on, the fault that it is not opened never comes
abbrev pub NeverUnopened : Type 0
NeverUnopened = (p : Page) (m : ℕ) (w : Walker) (f : Feed) → judge p m w f ≢ Some NotOpened
