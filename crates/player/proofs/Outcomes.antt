-- From what a call found to its outcome, and from its outcome to the law.
use Rattle.std.proofs.Common.{◌≡◌, ℕ, Bool, true, cond, length, Some, None, Err, Option, sym, refl, ap, subst, arith}
use Rattle.faults.specs.declared.fault.Fault.{Fault}
use Rattle.faults.specs.declared.fault.Fault.TheVariants.{NotOpened}
use Rattle.blocks.specs.Library.{Library, Sound}
use Rattle.keyframes.specs.Frames.{Frames}
use Rattle.sheet.specs.Page.{Page}
use Rattle.sheet.specs.Calls as sheet
use Rattle.walk.specs.Opening.{blocks_of, columns_of}
use Rattle.blocks.specs.declared.library.BlockLibrary as BlockLibrary
use Rattle.keyframes.specs.declared.store.KeyframeStore as KeyframeStore
use Rattle.player.specs.declared.answer.Answer.{Answer}
use Rattle.player.specs.declared.answer.Answer.TheVariants as answer
use Rattle.player.specs.declared.player.Player.{Player}
use Rattle.player.specs.Feed.{Feed}
use Rattle.player.specs.Play.{head_of}
use Rattle.player.specs.Law.{Obeys}
use Rattle.player.specs.Calls.{Outcome, Does, fault_of}
use Rattle.player.proofs.Laws.{lawful}

-- a call that was refused
pub refused_by : (fault : Option Fault) (f : Fault) (same done : Type 0) → fault ≡ Some f → same → Outcome fault (answer.Refused f) same done
refused_by fault f same done e s = subst (λ o. Outcome o (answer.Refused f) same done) (sym e) (refl, s)

-- the test that comes first
pub tested : (b : Bool) (own : Option Fault) → b ≡ true → cond b own (Some NotOpened) ≡ own
tested b own e = ap (λ t. cond t own (Some NotOpened)) e

-- a call obeys the law by its outcome
pub obeys : {L S : Type 0} {l : BlockLibrary.Ghosts L} {s : KeyframeStore.Ghosts S} (library : L → Library) (store : S → Frames) (q : Player L S l s) → Sound (library q.library) → (p : Page) (c : Feed) (a : Answer) (q' : Player L S l s) (p' : Page)
    → Does library store q p c a q' p' → Obeys library store q p c a q' p'
obeys library store q sound p c a q' p' o =
    lawful store (library q.library) sound q.drawing (head_of store q) p c a (head_of store q') p' _ (λ s. (ap (head_of store) s.0, s.1)) o

-- what a refused call on the sheet tells
pub sheet_refused : (T : Type 0) (o : Option Fault) (before after : Page) (value : T) (now : Page) (f : Fault) → sheet.Does o before after value (Err f) now → (o ≡ Some f) × (now ≡ before)
sheet_refused T o before after value now f d = go o refl d
  where
    go : (q : Option Fault) → o ≡ q → sheet.Does q before after value (Err f) now → (o ≡ Some f) × (now ≡ before)
    go None is (e, same) = let z : ◌≡◌ {A = ℕ} 0 1 = cc in absurd (omega arith)
    go (Some g) is (e, same) = (cc, same)

-- the outcome of a call and its law, by the fault found
module _ {L S : Type 0} {l : BlockLibrary.Ghosts L} {s : KeyframeStore.Ghosts S} (library : L → Library) (store : S → Frames) (sound : (l : L) → Sound (library l)) (q : Player L S l s) (p : Page) (c : Feed) where
  pub refusal : (f : Fault) (p' : Page) → p' ≡ p → fault_of (head_of store q) (columns_of q.drawing) (length (blocks_of q.drawing)) p c ≡ Some f
      → Does library store q p c (answer.Refused f) q p' × Obeys library store q p c (answer.Refused f) q p'
  refusal f p' same e =
      let o : Does library store q p c (answer.Refused f) q p' = refused_by _ _ _ _ e (refl, same) in
      (o, obeys library store q (sound q.library) p c (answer.Refused f) q p' o)
