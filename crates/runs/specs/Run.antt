-- The law over whole runs. Assumes nothing.
use Rattle.std.specs.Prelude.{◌≡◌, ℕ, ◌+◌, ◌<◌, ◌⊎◌, List, [], ◌∷◌, ◌++◌, length, Some, None, vec_len, vec_capacity, Option, Vec}
use Rattle.std.specs.declared.alloc.Global.{Global}
use Rattle.values.specs.declared.scalar.Value.{Value}
use Rattle.blocks.specs.declared.library.BlockLibrary as BlockLibrary
use Rattle.blocks.specs.Library.{Library}
use Rattle.drawing.specs.declared.drawing.Drawing.{Drawing}
use Rattle.keyframes.specs.declared.store.KeyframeStore as KeyframeStore
use Rattle.keyframes.specs.Frames.{Frames}
use Rattle.sheet.specs.declared.slip.Slip.{Slip}
use Rattle.sheet.specs.Page.{Page}
use Rattle.sheet.specs.Rows.{rows_of}
use Rattle.marks.specs.declared.table.MarkTable.{MarkTable}
use Rattle.walk.specs.Opening.{blocks_of, Unopenable}
use Rattle.walk.specs.Outcome.{AnyOrder}
use Rattle.player.specs.declared.player.Player.{Player}
use Rattle.player.specs.declared.answer.Answer.{Answer}
use Rattle.player.specs.declared.answer.Answer.TheVariants as answer
use Rattle.player.specs.Feed.{Feed}
use Rattle.player.specs.Play.{head_of}
use Rattle.player.specs.Moves.{Stays}
use Rattle.player.specs.Walker.{Walker, fresh, walked, judge}
use Rattle.player.specs.Law.{FindsOnly, Agrees, Answered}
use Rattle.player.specs.Opens.{Opens}
use Rattle.runs.specs.declared.call.Call.{Call}
use Rattle.runs.specs.declared.halt.Halt.{Halt}
use Rattle.runs.specs.declared.halt.Halt.TheVariants as halt
use Rattle.runs.specs.Session.{Session, session, ground, walker_on, fed, after, after_all, replayed}
use Rattle.runs.specs.Chain.{Desk, desk, Chain, Tells}
use Rattle.runs.specs.Standing.{history, Standing}

-- a call is answered as the walker has it; without a slip no call was made
abbrev pub AnsweredFed : Library → Drawing → Page → Session → Option Feed → Answer → Type 0
AnsweredFed L D g x None a = a ≡ answer.NoSlip
AnsweredFed L D g x (Some f) a = Answered L D g x.walker f (judge g (length (blocks_of D)) x.walker f) a

-- each call is answered as the walker, fed the calls before it, has it
abbrev pub Answers : Library → Drawing → Page → MarkTable → Session → List Call → List Answer → Type 0
Answers L D g marks x [] [] = Unit {0}
Answers L D g marks x [] (a ∷ rs) = ⊥
Answers L D g marks x (c ∷ cs) [] = ⊥
Answers L D g marks x (c ∷ cs) (a ∷ rs) = AnsweredFed L D g x (fed marks x.hand c) a × Answers L D g marks (after g (length (blocks_of D)) marks x c) cs rs

-- player, sheet and hand agree with the walker and the hand beside it
abbrev pub Agreed : {L S : Type 0} {l : BlockLibrary.Ghosts L} {s : KeyframeStore.Ghosts S} → (S → Frames) → Library → Drawing → Desk L S l s → Session → Type 0
Agreed store L D d x = Agrees L D (head_of store d.player) d.page x.walker × (d.hand ≡ x.hand)

-- from agreement with any walker to agreement with the walker fed the same calls, and each answer is the walker's
abbrev pub FollowsBy : {L S : Type 0} {l : BlockLibrary.Ghosts L} {s : KeyframeStore.Ghosts S} → (S → Frames) → Library → Drawing → Page → MarkTable → Desk L S l s → List Call → List Answer → Desk L S l s → Type 0
FollowsBy store L D g marks d calls rs d' = (x : Session) → Agreed store L D d x
    → Agreed store L D d' (after_all g (length (blocks_of D)) marks x calls) × Answers L D g marks x calls rs

abbrev pub Follows : {L S : Type 0} {l : BlockLibrary.Ghosts L} {s : KeyframeStore.Ghosts S} → (L → Library) → (S → Frames) → MarkTable → Desk L S l s → List Call → List Answer → Desk L S l s → Type 0
Follows library store marks d calls rs d' = FollowsBy store (library d.player.library) d.player.drawing (ground d.page) marks d calls rs d'

-- a run after another is one run of both lists of calls
abbrev pub Continues : {L S : Type 0} {l : BlockLibrary.Ghosts L} {s : KeyframeStore.Ghosts S} → (L → Library) → (S → Frames) → MarkTable → Desk L S l s → List Call → List Answer → Desk L S l s → Type 0
Continues {L} {S} {l} {s} library store marks e calls rs d' = (d : Desk L S l s) (before : List Call) (told : List Answer)
    → Chain library store marks d before told e → Chain library store marks d (before ++ calls) (told ++ rs) d' × Follows library store marks d (before ++ calls) (told ++ rs) d'

-- a run: each call's outcome, the law, and what it leaves as it was
pub record Runs {L S : Type 0} {l : BlockLibrary.Ghosts L} {s : KeyframeStore.Ghosts S} (library : L → Library) (store : S → Frames) (marks : MarkTable) (d : Desk L S l s) (calls : List Call) (before now : List Answer) (d' : Desk L S l s) : Type 0 where
  pub tells : Tells library store marks d calls before now d'
  pub law : Follows library store marks d calls tells.told d'
  pub continues : Continues library store marks d calls tells.told d'
  pub stays : Stays d.player d'.player
  pub same_ground : ground d'.page ≡ ground d.page

-- the walker at the end of a run, against the playhead, the shown values and the page
pub record Ends (L : Library) (D : Drawing) (g : Page) (w : Walker) (at : ℕ) (shown : List Value) (p : Page) : Type 0 where
  -- the first rows with the walker's writes applied in order, and the walker's trial
  pub page : p ≡ walked g w
  pub playhead : at ≡ w.cycle
  -- each block shows what the walker finds there, and there is one such value
  pub shows : FindsOnly L D (rows_of p) at shown
  -- any other order that respects the connections gives the values of each cycle
  pub any_order : AnyOrder L D (rows_of p)

-- a player opened on a sheet, and then a run: every answer is the walker's, and so is the end
pub record Replays {L S : Type 0} {l : BlockLibrary.Ghosts L} {s : KeyframeStore.Ghosts S} (library : L → Library) (store : S → Frames) (marks : MarkTable) (D : Drawing) (d : Desk L S l s) (calls : List Call) (before now : List Answer) (d' : Desk L S l s) : Type 0 where
  pub opened : Player L S l s
  pub opens : Opens library store d.player D d.page opened
  pub runs : Runs library store marks (desk opened d.page d.hand) calls before now d'
  -- the walker begins at cycle 0, and on a sheet just made with no write and no trial
  pub begins : d.page ≡ ground d.page → walker_on d.page ≡ fresh
  pub answers : Answers (library d.player.library) D (ground d.page) marks (session (walker_on d.page) d.hand) calls runs.tells.told
  pub ends : Ends (library d.player.library) D (ground d.page) (replayed d.page (length (blocks_of D)) marks d.hand calls).walker d'.player.at d'.player.shown.all d'.page
  pub slips : d'.hand ≡ (replayed d.page (length (blocks_of D)) marks d.hand calls).hand
  -- the standing writes are, in order, the accepted ones that no later call struck out
  pub standing : d.page ≡ ground d.page → Standing (history [] calls runs.tells.told) d'.page.writes

-- the lists lent have no room for n answers more, or for n slips more
abbrev pub Short : Vec Answer Global → Vec Slip Global → ℕ → Type 0
Short answers hand n = (vec_capacity answers < vec_len answers + n) ⊎ (vec_capacity hand < vec_len hand + n)

-- why no call was made; the drawing comes back
abbrev pub Halts : Library → Drawing → Page → Type 0 → Halt → Type 0
Halts L D p short (halt.NoMemory d) = short × (d ≡ D)
Halts L D p short (halt.Refused u) = Unopenable L D p u.fault × (u.drawing ≡ D)
