use Rattle.std.proofs.Common.{◌≡◌, false, vec_items, is_ok, Ok, Err, MatchResult, Result, sym, refl, ap, ◌∙◌}
use Rattle.std.proofs.lemmas.Bool.{both_ways}
use Rattle.sheet.specs.Page.{page}
use Rattle.walk.specs.Opening.{Unopenable}
use Rattle.player.specs.Opens.{Opens}
use Rattle.runs.specs.Chain.{desk}
use Rattle.runs.proofs.Replaying.{lent, replays}
use Rattle.runs.proofs.runs.replay.Goals as goal

-- what holds of an Ok whose Err was mapped
of_ok : {T E D : Type 0} (P : Type 0) (Q : E → Type 0) (r : Result T E) (m : Result T D) (x : T) → m ≡ Ok x → is_ok m ≡ is_ok r → MatchResult r (λ _. P) Q → P
of_ok P Q (Ok y) m x was same holds = holds
of_ok P Q (Err e) m x was same holds = absurd (both_ways false refl (sym (sym (ap is_ok was) ∙ same)))

pub returns : goal.returns
returns g c =
    let q = c.args.player.now in
    let p = page c.args.sheet.now in
    let hand = vec_items c.args.hand.now in
    let before = vec_items c.args.answers.now in
    let end = desk c.follow.new.player (page c.follow.new.sheet) (vec_items c.follow.new.hand) in
    let opens = of_ok (Opens g.L.BlockLibrary.meaning g.S.KeyframeStore.means q c.args.drawing p c.open.new.self) (λ e. Unopenable (g.L.BlockLibrary.meaning q.library) c.args.drawing p e.fault × (e.drawing ≡ c.args.drawing) × (c.open.new.self ≡ q)) c.open.result c.map_err.result _ c.in_ok-map_err.was c.map_err.ensures.variant c.open.ensures in
    replays g.L.BlockLibrary.meaning g.S.KeyframeStore.means g.met.L.BlockLibrary.sound c.args.marks.now q c.open.new.self c.args.drawing p hand c.args.calls.now before (vec_items c.follow.new.answers) end opens
    (lent g.L.BlockLibrary.meaning g.S.KeyframeStore.means g.met.L.BlockLibrary.sound c.args.marks.now c.open.new.self p hand (vec_items c.reserve.new.hand) c.args.calls.now before (vec_items c.reserve.new.answers) (vec_items c.follow.new.answers) end c.reserve.ensures.hand c.reserve.ensures.answers c.follow.ensures)
