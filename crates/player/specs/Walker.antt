-- The walker, to which every run is held. It has the library, the drawing and the first rows; it keeps a list of writes, a trial and a
-- cycle; it is fed each call's arguments and sees no answer. Assumes nothing.
use Rattle.std.specs.Prelude.{ℕ, ◌+◌, ◌-◌, List, [], ◌∷◌, ◌++◌, length, take, Some, None, Option, nat_le}
use Rattle.faults.specs.declared.fault.Fault.{Fault}
use Rattle.faults.specs.declared.fault.Fault.TheVariants.{CycleBeyond, NoSuchMark, NoSuchBlock}
use Rattle.sheet.specs.declared.slip.Slip.{Slip}
use Rattle.sheet.specs.declared.write.Write.{Write}
use Rattle.sheet.specs.Page.{Page, write_of}
use Rattle.sheet.specs.Calls.{first_of, place_of, append_refusal, strike_refusal, open_refusal, slip_refusal, tally_refusal}
use Rattle.player.specs.Feed.{Feed}
use Rattle.player.specs.Feed as feed

pub record Walker : Type 0 where
  pub writes : List Write
  pub trial : Option ℕ
  pub cycle : ℕ

abbrev pub fresh : Walker
fresh = record { writes = []; trial = None; cycle = 0 }

-- the page that the walker has before it: the first rows of a page, with its own writes and its own trial
abbrev pub walked : Page → Walker → Page
walked p w = record { columns = p.columns; rows = p.rows; first = p.first; writes = w.writes; trial = w.trial }

abbrev pub slip_of : ℕ → Slip
slip_of k = record { standing = k }

abbrev pub beyond : ℕ → ℕ → Option Fault
beyond rows t = first_of ((nat_le rows t, CycleBeyond (place_of t 0)) ∷ [])

-- the fault of a call on a page and m blocks, or none
abbrev pub judge : Page → ℕ → Walker → Feed → Option Fault
judge p m w feed.Step = beyond p.rows (w.cycle + 1)
judge p m w (feed.Jump t) = beyond p.rows t
judge p m w (feed.Goto None) = Some NoSuchMark
judge p m w (feed.Goto (Some t)) = beyond p.rows t
judge p m w (feed.Write c i v) = append_refusal (walked p w) c i v
judge p m w feed.TakeBack = strike_refusal (walked p w)
judge p m w feed.Begin = open_refusal (walked p w)
judge p m w (feed.Confirm k) = slip_refusal (walked p w) (slip_of k)
judge p m w (feed.Drop k) = slip_refusal (walked p w) (slip_of k)
judge p m w (feed.Show b) = first_of ((nat_le m b, NoSuchBlock) ∷ [])
judge p m w (feed.Tally i) = tally_refusal (walked p w) i

-- what an accepted call changes
abbrev pub accepted : Walker → Feed → Walker
accepted w feed.Step = record { writes = w.writes; trial = w.trial; cycle = w.cycle + 1 }
accepted w (feed.Jump t) = record { writes = w.writes; trial = w.trial; cycle = t }
accepted w (feed.Goto None) = w
accepted w (feed.Goto (Some t)) = record { writes = w.writes; trial = w.trial; cycle = t }
accepted w (feed.Write c i v) = record { writes = w.writes ++ write_of c i v ∷ []; trial = w.trial; cycle = w.cycle }
accepted w feed.TakeBack = record { writes = take (length w.writes - 1) w.writes; trial = w.trial; cycle = w.cycle }
accepted w feed.Begin = record { writes = w.writes; trial = Some (length w.writes); cycle = w.cycle }
accepted w (feed.Confirm k) = record { writes = w.writes; trial = None; cycle = w.cycle }
accepted w (feed.Drop k) = record { writes = take k w.writes; trial = None; cycle = w.cycle }
accepted w (feed.Show b) = w
accepted w (feed.Tally i) = w

abbrev pub unless : Option Fault → Walker → Walker → Walker
unless (Some f) w w' = w
unless None w w' = w'

-- show and refused calls change nothing
abbrev pub stepped : Page → ℕ → Walker → Feed → Walker
stepped p m w c = unless (judge p m w c) w (accepted w c)
