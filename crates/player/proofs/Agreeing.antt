-- A player that agrees with the walker serves the sheet, and both find the same fault.
use Rattle.std.proofs.Common.{◌≡◌, ℕ, ◌+◌, ◌<◌, Bool, true, false, cond, leb, [], ◌∷◌, length, Some, None, Option, refl, ap, ◌∙◌, arith}
use Rattle.std.proofs.lemmas.Bool.{lt-ltb, eq-eqb, and_from, leb-false}
use Rattle.faults.specs.declared.fault.Fault.{Fault}
use Rattle.faults.specs.declared.fault.Fault.TheVariants.{CycleBeyond, NotOpened, NoSuchBlock}
use Rattle.blocks.specs.Library.{Library}
use Rattle.drawing.specs.declared.drawing.Drawing.{Drawing}
use Rattle.sheet.specs.Page.{Page}
use Rattle.sheet.specs.Calls.{first_of, place_of, append_refusal, strike_refusal, open_refusal, slip_refusal, tally_refusal}
use Rattle.walk.specs.Opening.{blocks_of, columns_of}
use Rattle.player.specs.Feed.{Feed}
use Rattle.player.specs.Feed as feed
use Rattle.player.specs.Play.{Head}
use Rattle.player.specs.Walker.{Walker, slip_of, beyond, judge}
use Rattle.player.specs.Law.{Agrees}
use Rattle.player.specs.Calls.{serves, ready, fault_of}
use Rattle.player.proofs.Alike.{alike_same}

module _ {L : Library} {D : Drawing} {h : Head} {p : Page} {w : Walker} (a : Agrees L D h p w) where
  opened : 0 < h.rows
  opened = omega (arith, a.rows, a.inside)

  agreeing_serves : serves h.rows (columns_of D) p ≡ true
  agreeing_serves = and_from _ _ (lt-ltb 0 h.rows opened) (and_from _ _ (eq-eqb h.rows p.rows a.rows) (alike_same p.columns (columns_of D) a.columns))

  readied : (own : Option Fault) → ready h.rows (columns_of D) p own ≡ own
  readied own = ap (λ b. cond b own (Some NotOpened)) agreeing_serves

  pub judged : (c : Feed) → fault_of h (columns_of D) (length (blocks_of D)) p c ≡ judge p (length (blocks_of D)) w c
  judged feed.Step = readied _ ∙ ap (λ n. beyond p.rows (n + 1)) a.at
  judged (feed.Jump t) = readied _
  judged (feed.Goto None) = refl
  judged (feed.Goto (Some t)) = readied _
  judged (feed.Write c i v) = readied _ ∙ ap (λ q. append_refusal q c i v) a.page
  judged feed.TakeBack = readied _ ∙ ap strike_refusal a.page
  judged feed.Begin = readied _ ∙ ap open_refusal a.page
  judged (feed.Confirm k) = readied _ ∙ ap (λ q. slip_refusal q (slip_of k)) a.page
  judged (feed.Drop k) = readied _ ∙ ap (λ q. slip_refusal q (slip_of k)) a.page
  judged (feed.Show b) = ap (λ t. cond t (first_of ((leb (length (blocks_of D)) b, NoSuchBlock) ∷ [])) (Some NotOpened)) (lt-ltb 0 h.rows opened)
  judged (feed.Tally i) = ap (λ q. tally_refusal q i) a.page

-- a cycle that is not refused is on the sheet
pub within : (rows t : ℕ) → beyond rows t ≡ None → t < rows
within rows t e = go (leb rows t) refl e
  where
    go : (b : Bool) → leb rows t ≡ b → cond b (Some (CycleBeyond (place_of t 0))) None ≡ None → t < rows
    go true is none = let z : ◌≡◌ {A = ℕ} 0 1 = cc in absurd (omega arith)
    go false is none = leb-false rows t is
