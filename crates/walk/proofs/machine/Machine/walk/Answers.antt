use Rattle.std.proofs.Common.{◌≡◌, ap, ◌∙◌, subst, arith}
use Rattle.std.proofs.lemmas.Result.{err_from_is_err_and}
use Rattle.sheet.specs.Page.{page}
use Rattle.sheet.specs.Rows.{rows_of}
use Rattle.walk.specs.Opening.{blocks_of}
use Rattle.walk.specs.Outcome.{closed, beyond}
use Rattle.walk.specs.Walk.{start, Walks, values_in}
use Rattle.walk.proofs.Steps.{walks_on, finds_here, only_found, any_order}
use Rattle.walk.proofs.machine.Machine.walk.Goals as goal

pub returns-in_err-opens : goal.returns-in_err-opens
returns-in_err-opens g c =
    let p = err_from_is_err_and c.from_residual.result c.from_residual.ensures.1 in
    rw (p.1, p.2) (closed c.in_err-opens.ensures)

pub returns-then-cycle-rows : goal.returns-then-cycle-rows
returns-then-cycle-rows g c = beyond c.in_ok-opens.ensures (omega (arith, c.rows.ensures, c.if-cycle-rows.true))

pub loop-c-init : goal.loop-c-init
loop-c-init g c = start c.begin-states.ensures

pub loop-c-preserved : goal.loop-c-preserved
loop-c-preserved g c =
    walks_on (g.L.BlockLibrary.meaning c.args.self.now.library.now) (g.met.L.BlockLibrary.sound c.args.self.now.library.now) c.args.self.now.drawing.now c.in_ok-opens.ensures.fitting
    (rows_of (page c.args.sheet.now)) c.as_slice.result.now c.loop-c.c (ap values_in c.as_slice.ensures ∙ c.row-row.ensures.values) c.loop-c.states.all _ c.loop-c.invariant c.step-states.ensures

pub returns : goal.returns
returns g c =
    let L = g.L.BlockLibrary.meaning c.args.self.now.library.now in
    let sound = g.met.L.BlockLibrary.sound c.args.self.now.library.now in
    let d = c.args.self.now.drawing.now in
    let rows = rows_of (page c.args.sheet.now) in
    let opened = c.in_ok-opens.ensures in
    let end : c.loop-c.c ≡ c.args.cycle = omega arith in
    let here =
    finds_here L sound d opened.fitting rows c.as_slice-2.result.now c.args.cycle (ap values_in c.as_slice-2.ensures ∙ c.row-row-2.ensures.values) c.loop-c.states.all c.work.result.all
    (subst (λ n. Walks L (blocks_of d) rows n c.loop-c.states.all) end c.loop-c.invariant) c.work.ensures in
    record {
      opening = opened;
      inside = omega (arith, c.rows.ensures, c.if-cycle-rows.false);
      found = here;
      only = λ ws b. only_found L sound d opened.fitting rows c.args.cycle c.work.result.all ws here b;
      any_order = any_order L sound d opened.fitting rows;
    }
