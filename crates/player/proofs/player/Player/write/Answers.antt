use Rattle.std.proofs.Common.{◌≡◌, Err, ◌∙◌, rules}
use Rattle.sheet.specs.Page.{page, write_of, appended}
use Rattle.sheet.specs.Calls.{append_refusal}
use Rattle.player.specs.Feed.{Write}
use Rattle.player.proofs.Playing.{stays_refl}
use Rattle.player.proofs.Outcomes.{tested, obeys, sheet_refused, refusal}
use Rattle.player.proofs.player.Player.write.Goals as goal

pub returns-in_err-serves-clause-law : goal.returns-in_err-serves-clause-law
returns-in_err-serves-clause-law g c = obeys g.L.BlockLibrary.meaning g.S.KeyframeStore.means c.args.self.now (g.met.L.BlockLibrary.sound c.args.self.now.library) (page c.args.sheet.now) (Write c.args.cycle c.args.column c.args.value) _ c.args.self.now (page c.args.sheet.now) (search rules)

pub returns-clause-law : goal.returns-clause-law
returns-clause-law g c = obeys g.L.BlockLibrary.meaning g.S.KeyframeStore.means c.args.self.now (g.met.L.BlockLibrary.sound c.args.self.now.library) (page c.args.sheet.now) (Write c.args.cycle c.args.column c.args.value) _ c.renew.new.self (page c.append.new.self) (search rules)

pub returns-in_err-append : goal.returns-in_err-append
returns-in_err-append g c =
    let is : c.from_residual-in_err-append.result ≡ Err c.in_err-append.field-0.0 = search rules in
    let q = c.args.self.now in
    let p = page c.args.sheet.now in
    let not = sheet_refused (Unit {0}) (append_refusal p c.args.cycle c.args.column c.args.value) p (appended p (write_of c.args.cycle c.args.column c.args.value)) tt (page c.append.new.self) c.in_err-append.field-0.0 c.in_err-append.ensures.outcome in
    let both = refusal g.L.BlockLibrary.meaning g.S.KeyframeStore.means g.met.L.BlockLibrary.sound q p (Write c.args.cycle c.args.column c.args.value) c.in_err-append.field-0.0 (page c.append.new.self) not.1 (tested _ _ c.in_ok-serves.ensures ∙ not.0) in
    rw is (record { outcome = both.0; law = both.1; untouched = c.in_err-append.ensures.untouched; stays = stays_refl _ })
