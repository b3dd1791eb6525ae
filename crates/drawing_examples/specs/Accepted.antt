-- The built-in drawing is the built-in draft, accepted by the plant library.
use Rattle.plant.specs.Plant.{plant}
use Rattle.drawing.specs.declared.drawing.Drawing.{Drawing}
use Rattle.drawing.specs.Accept.{Accepts}
use Rattle.drawing.specs.BuiltIn.{BuiltIn}

abbrev pub BuiltInAccepted : Type 0
BuiltInAccepted = (d : Drawing) → BuiltIn d → Accepts plant d.draft d
