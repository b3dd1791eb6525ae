-- The walker of a run, and beside it the slips in the hand. Assumes nothing.
use Rattle.std.specs.Prelude.{ℕ, cond, List, [], ◌∷◌, ◌++◌, length, Some, None, Option, nat_lt, slice_index_or}
use Rattle.std.specs.List.{remove}
use Rattle.faults.specs.declared.fault.Fault.{Fault}
use Rattle.sheet.specs.declared.slip.Slip.{Slip}
use Rattle.sheet.specs.Page.{Page, fresh}
use Rattle.marks.specs.declared.table.MarkTable.{MarkTable}
use Rattle.marks.specs.Marks.{mark}
use Rattle.player.specs.Feed.{Feed}
use Rattle.player.specs.Feed as feed
use Rattle.player.specs.Walker.{Walker, slip_of, judge, stepped}
use Rattle.runs.specs.declared.call.Call.{Call}
use Rattle.runs.specs.declared.call.Call.TheVariants as call

-- the number of the slip at a place of the hand
abbrev pub held : List Slip → ℕ → ℕ
held hand i = (slice_index_or hand i (slip_of 0)).standing

-- a place past the hand feeds nothing
abbrev pub with_slip : (ℕ → Feed) → List Slip → ℕ → Option Feed
with_slip F hand i = cond (nat_lt i (length hand)) (Some (F (held hand i))) None

-- what the walker is fed of a call: a mark by what its table gives, a slip by its number
abbrev pub fed : MarkTable → List Slip → Call → Option Feed
fed marks hand call.Step = Some feed.Step
fed marks hand (call.Jump t) = Some (feed.Jump t)
fed marks hand (call.Goto name) = Some (feed.Goto (mark marks name))
fed marks hand (call.Write c i v) = Some (feed.Write c i v)
fed marks hand call.TakeBack = Some feed.TakeBack
fed marks hand call.Begin = Some feed.Begin
fed marks hand (call.Confirm i) = with_slip feed.Confirm hand i
fed marks hand (call.Drop i) = with_slip feed.Drop hand i
fed marks hand (call.Show b) = Some (feed.Show b)
fed marks hand (call.Tally i) = Some (feed.Tally i)

-- the hand after an accepted call with n writes standing before it: a begin adds its slip, and a slip that is spent leaves
abbrev pub handed : Call → ℕ → List Slip → List Slip
handed call.Step n hand = hand
handed (call.Jump t) n hand = hand
handed (call.Goto name) n hand = hand
handed (call.Write c i v) n hand = hand
handed call.TakeBack n hand = hand
handed call.Begin n hand = hand ++ slip_of n ∷ []
handed (call.Confirm i) n hand = remove hand i
handed (call.Drop i) n hand = remove hand i
handed (call.Show b) n hand = hand
handed (call.Tally i) n hand = hand

-- a refused call leaves the hand
abbrev pub hand_after : Option Fault → Call → ℕ → List Slip → List Slip
hand_after (Some f) c n hand = hand
hand_after None c n hand = handed c n hand

pub record Session : Type 0 where
  pub walker : Walker
  pub hand : List Slip

abbrev pub session : Walker → List Slip → Session
session w hand = record { walker = w; hand = hand }

-- the page that a sheet began with: its columns, its rows and its first cells
abbrev pub ground : Page → Page
ground p = fresh p.columns p.rows p.first

-- the walker at cycle 0 of a page; where no write and no trial is there yet, it keeps none
abbrev pub walker_on : Page → Walker
walker_on p = record { writes = p.writes; trial = p.trial; cycle = 0 }

abbrev pub fed_with : Page → ℕ → Session → Call → Option Feed → Session
fed_with g m x c None = x
fed_with g m x c (Some f) = session (stepped g m x.walker f) (hand_after (judge g m x.walker f) c (length x.walker.writes) x.hand)

-- after one call, on a ground and with m blocks
abbrev pub after : Page → ℕ → MarkTable → Session → Call → Session
after g m marks x c = fed_with g m x c (fed marks x.hand c)

-- after a list of calls
abbrev pub after_all : Page → ℕ → MarkTable → Session → List Call → Session
after_all g m marks x [] = x
after_all g m marks x (c ∷ cs) = after_all g m marks (after g m marks x c) cs

-- after a run from cycle 0 of a page
abbrev pub replayed : Page → ℕ → MarkTable → List Slip → List Call → Session
replayed p m marks hand calls = after_all (ground p) m marks (session (walker_on p) hand) calls
