-- A lower layer's failure, carried up whole.
use Rattle.std.specs.Prelude.{◌≡◌}
use Rattle.faults.specs.declared.failure.Failure.{Failure}
use Rattle.faults.specs.declared.failure.Failure.TheVariants.{Fault, NoMemory}

-- the upper fault is made of the lower one by a relation, and want of memory stays what it is
abbrev pub Carries : {F G : Type 0} → (F → G → Type 0) → Failure F → Failure G → Type 0
Carries made (Fault f) r = (g : _) × (r ≡ Fault g) × made f g
Carries made NoMemory r = r ≡ NoMemory
