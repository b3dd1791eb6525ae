-- The standing writes in the words of a run: the accepted ones that no later call struck out. Assumes nothing.
use Rattle.std.specs.Prelude.{◌≡◌, ℕ, ◌<◌, ◌⊎◌, List, [], ◌∷◌, length, slice_index_or}
use Rattle.sheet.specs.declared.write.Write.{Write}
use Rattle.sheet.specs.Cells.{no_write}
use Rattle.sheet.specs.Page.{write_of}
use Rattle.player.specs.declared.answer.Answer.{Answer}
use Rattle.player.specs.declared.answer.Answer.TheVariants as answer
use Rattle.runs.specs.declared.call.Call.{Call}
use Rattle.runs.specs.declared.call.Call.TheVariants as call

-- what a call did to the writes
pub data Event : Type 0 where
  wrote : Write → Event
  took_back : Event
  began : Event
  dropped : Event
  nothing : Event

-- where it was accepted
abbrev pub did : Call → Event
did call.Step = nothing
did (call.Jump t) = nothing
did (call.Goto name) = nothing
did (call.Write c i v) = wrote (write_of c i v)
did call.TakeBack = took_back
did call.Begin = began
did (call.Confirm i) = nothing
did (call.Drop i) = dropped
did (call.Show b) = nothing
did (call.Tally i) = nothing

-- a refused call did nothing, and where the slip was wanting none was made
abbrev pub event_of : Call → Answer → Event
event_of c (answer.Worked n) = did c
event_of c (answer.Slip n) = did c
event_of c (answer.Value v) = did c
event_of c (answer.Count n) = did c
event_of c (answer.Refused f) = nothing
event_of c answer.NoSlip = nothing

-- the events of a run after those of the past, the latest first; an event's place is the number of events before it
abbrev pub history : List Event → List Call → List Answer → List Event
history past [] rs = past
history past (c ∷ cs) [] = past
history past (c ∷ cs) (a ∷ rs) = history (event_of c a ∷ past) cs rs

-- the place of the latest begin
abbrev pub begun : List Event → ℕ
begun [] = 0
begun (wrote w ∷ past) = begun past
begun (took_back ∷ past) = begun past
begun (began ∷ past) = length past
begun (dropped ∷ past) = begun past
begun (nothing ∷ past) = begun past

-- The write made at a place stands. A take back strikes out the latest one standing, so that one stays after which another stands;
-- a drop strikes out every one standing since its begin.
abbrev pub Stands : List Event → ℕ → Write → Type 0
Stands [] i w = ⊥
Stands (wrote u ∷ past) i w = ((i ≡ length past) × (w ≡ u)) ⊎ Stands past i w
Stands (took_back ∷ past) i w = Stands past i w × ((j : ℕ) × ((u : Write) × ((i < j) × Stands past j u)))
Stands (began ∷ past) i w = Stands past i w
Stands (dropped ∷ past) i w = Stands past i w × (i < begun past)
Stands (nothing ∷ past) i w = Stands past i w

-- a list of writes is exactly those that stand, each made at its place, in the order of the places
pub record StandingAt (place : ℕ → ℕ) (events : List Event) (writes : List Write) : Type 0 where
  pub rising : (k l : ℕ) → k < l → l < length writes → place k < place l
  pub each : (k : ℕ) → k < length writes → Stands events (place k) (slice_index_or writes k no_write)
  pub all : (i : ℕ) (w : Write) → Stands events i w → (k : ℕ) × ((k < length writes) × ((place k ≡ i) × (slice_index_or writes k no_write ≡ w)))

abbrev pub Standing : List Event → List Write → Type 0
Standing events writes = (place : ℕ → ℕ) × StandingAt place events writes
