-- The demonstration: its drawing, its sheet, a run of calls on the player just opened, and what they answer. Assumes nothing.
use Rattle.std.specs.Prelude.{◌≡◌, ℕ, ◌<◌, true, cond, List, [], ◌∷◌, get_or, pos, nat_lt, slice_index_or}
use Rattle.values.specs.declared.scalar.Value.{Value}
use Rattle.values.specs.declared.scalar.Value.TheVariants.{Whole}
use Rattle.values.specs.declared.scalar.ValueType.TheVariants as T
use Rattle.values.specs.declared.packed.Cell.{Cell}
use Rattle.values.specs.declared.working.Row.{Row}
use Rattle.values.specs.Values.{absent, idle}
use Rattle.blocks.specs.declared.library.BlockLibrary as BlockLibrary
use Rattle.blocks.specs.Library.{Library}
use Rattle.plant.specs.contracts.plant.PlantBlockLibrary.TheImpl as Plants
use Rattle.plant.specs.declared.plant.Plant.{Plant}
use Rattle.plant.specs.Plant.{plant}
use Rattle.draft.specs.Drafts.{means}
use Rattle.drawing.specs.declared.drawing.Drawing.{Drawing}
use Rattle.packed.specs.Example.{counter}
use Rattle.sheet.specs.declared.slip.Slip.{Slip}
use Rattle.sheet.specs.Page.{Page, fresh, write_of}
use Rattle.sheet.specs.Rows.{rows_of}
use Rattle.marks.specs.declared.table.MarkTable.{MarkTable}
use Rattle.keyframes.specs.contracts.one.OneStoreKeyframeStore.TheImpl as Ones
use Rattle.keyframes.specs.declared.one.OneStore.{OneStore}
use Rattle.keyframes.specs.declared.store.KeyframeStore as KeyframeStore
use Rattle.keyframes.specs.Frames.{Frames, Only, Emptied}
use Rattle.keyframes.specs.Stores.{one_frames}
use Rattle.player.specs.declared.answer.Answer.{Answer}
use Rattle.player.specs.declared.answer.Answer.TheVariants as answer
use Rattle.player.specs.declared.player.Player.{Player}
use Rattle.player.specs.Opens.{Opens}
use Rattle.player.specs.Play.{unpacked}
use Rattle.runs.specs.declared.call.Call.{Call}
use Rattle.runs.specs.declared.call.Call.TheVariants.{Jump, Show, Write, TakeBack}
use Rattle.runs.specs.Chain.{Desk, desk, Chain}

abbrev pub whole : ℕ → Value
whole n = Whole (pos n)

-- the demonstration's sheet, just made: one whole column and 100 rows
abbrev pub sheet : List Cell → Page
sheet cells = fresh (T.Whole ∷ []) 100 cells

-- 1 in cycles 0 to 39, then 0
abbrev pub cell : ℕ → Value
cell c = whole (cond (nat_lt c 40) 1 0)

abbrev pub Reads : List Cell → Type 0
Reads cells = (c : ℕ) → c < 100 → slice_index_or (rows_of (sheet cells) c) 0 absent ≡ cell c

-- block 0 is the delay
abbrev pub calls : List Call
calls =
    Jump 57 ∷ Show 0 ∷ Jump 3 ∷ Show 0 ∷ Jump 57 ∷ Show 0
    ∷ Write 10 0 (whole 3) ∷ Show 0 ∷ TakeBack ∷ Show 0 ∷ Write 32 0 (whole 2) ∷ Show 0 ∷ []

-- each move and each change by the cycles worked, and what the delay shows then
abbrev pub answers : List Answer
answers =
    answer.Worked 57 ∷ answer.Value (whole 45) ∷ answer.Worked 3 ∷ answer.Value (whole 8) ∷ answer.Worked 25 ∷ answer.Value (whole 45)
    ∷ answer.Worked 57 ∷ answer.Value (whole 47) ∷ answer.Worked 57 ∷ answer.Value (whole 45) ∷ answer.Worked 25 ∷ answer.Value (whole 46) ∷ []

-- the answers; one write stands; and the row of cycle 32 is held alone, in which the delay has 37
pub record Demonstrated {L S : Type 0} {l : BlockLibrary.Ghosts L} {s : KeyframeStore.Ghosts S} (store : S → Frames) (rs : List Answer) (end : Desk L S l s) : Type 0 where
  pub answered : rs ≡ answers
  pub standing : end.page.writes ≡ write_of 32 0 (whole 2) ∷ []
  pub row : Row
  pub held : Only 32 row (store end.player.store)
  pub delay : get_or (unpacked row) 0 idle ≡ record { value = whole 37; count = 0 }

-- a store with room for a row: whenever it holds none, it takes the row of cycle 32
abbrev pub TakesWhenEmpty : {S : Type 0} → (S → Frames) → Type 0
TakesWhenEmpty {S} store = (s : S) → Emptied (store s) → (store s).takes 32 ≡ true

-- the types of a player's library and store that the demonstration has: the plant library, and stores with room for a row
pub record Meant {L S : Type 0} (library : L → Library) (store : S → Frames) : Type 0 where
  pub plants : (l : L) → library l ≡ plant
  pub takes : TakesWhenEmpty store

-- A player, whose store may have been used, is opened on a drawing of the counter and a sheet just made.
-- Then the calls, made in turn, give these answers and this end. (A player's type names its bounds' ghost members, l and s; nothing
-- is asked of them.)
abbrev pub Demonstrates : {L S : Type 0} (l : BlockLibrary.Ghosts L) (s : KeyframeStore.Ghosts S) → (L → Library) → (S → Frames) → Type 0
Demonstrates {L} {S} l s library store =
    (D : Drawing) → means D.draft ≡ counter → (cells : List Cell) → Reads cells
    → (q q' : Player L S l s) → Opens library store q D (sheet cells) q'
    → (marks : MarkTable) (hand : List Slip) (rs : List Answer) (end : Desk L S l s)
    → Chain library store marks (desk q' (sheet cells) hand) calls rs end → Demonstrated store rs end

-- so it is with the library itself and the store that keeps one row
abbrev pub OneDemonstrates : Type 0
OneDemonstrates = Demonstrates {L = Plant} {S = OneStore} Plants.ghosts Ones.ghosts (λ _. plant) one_frames
