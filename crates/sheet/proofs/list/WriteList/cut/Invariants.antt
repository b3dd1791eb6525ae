use Rattle.std.proofs.Common.{◌≡◌, ◌≤◌, min, length, take, drop}
use Rattle.sheet.specs.Held.{writes_of}
use Rattle.sheet.specs.Calls.{lowest}
use Rattle.sheet.proofs.list.WriteList.cut.Given as goal

abbrev pub invariant-loop-self : goal.invariant-loop-self
invariant-loop-self l =
    (min l.n (length (writes_of l.initial.self)) ≤ length (writes_of l.self)) ×
    (writes_of l.self ≡ take (length (writes_of l.self)) (writes_of l.initial.self)) ×
    (l.low ≡ lowest (drop (length (writes_of l.self)) (writes_of l.initial.self)))

abbrev pub decreases-loop-self : goal.decreases-loop-self
decreases-loop-self l = length (writes_of l.self)
