use Rattle.std.proofs.Common.{vec_items, rules}
use Rattle.std.proofs.lemmas.Iterator.{cases_from_all, YieldsList-from_slice, YieldsList-from_zip}
use borrow.Author.Tests.{tests}
use Rattle.drawing.proofs.Kept.{kept_count}
use Rattle.walk.proofs.Matching.{FitsAt, fits_decided}
use Rattle.walk.proofs.machine.Machine.library_fits.Goals as goal

pub returns : goal.returns
returns g c =
    let L = g.L.BlockLibrary.meaning c.args.self.now.library.now in
    let d = c.args.self.now.drawing.now in
    let bs = vec_items d.draft.blocks in
    let ss = vec_items d.signatures in
    fits_decided L bs ss (kept_count _ _ _ _ d.sound) _ (cases_from_all c.all.new.self _ c.all.result (FitsAt L) (λ p. FitsAt L p → ⊥) c.all.ensures.ran
    (YieldsList-from_zip (YieldsList-from_slice bs (search (rules, c.iter.ensures, c.zip.ensures))) (YieldsList-from_slice ss (search (rules, c.iter.ensures, c.zip.ensures)))) (λ x q k. search (rules, tests)) (λ x q k. search (rules, tests)))
