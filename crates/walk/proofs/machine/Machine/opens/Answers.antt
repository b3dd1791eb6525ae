use Rattle.std.proofs.Common.{sym, refl, ◌∙◌, arith}
use borrow.Author.Tests.{both_ways}
use Rattle.walk.specs.Opening.{no_rows, other_columns, other_library}
use Rattle.walk.proofs.machine.Machine.opens.Goals as goal

pub returns-then-rows-eq0 : goal.returns-then-rows-eq0
returns-then-rows-eq0 g c = no_rows (omega (arith, c.rows.ensures, c.if-rows-eq0.true))

pub returns-then-not-same : goal.returns-then-not-same
returns-then-not-same g c =
    other_columns (omega (arith, c.rows.ensures, c.if-rows-eq0.false))
    (λ e. both_ways _ refl (c.if-not-same.ensures.1 (c.columns.ensures ∙ e ∙ sym c.columns-2.ensures)))

pub returns-then-not-library_fits : goal.returns-then-not-library_fits
returns-then-not-library_fits g c =
    other_library (omega (arith, c.rows.ensures, c.if-rows-eq0.false))
    (sym c.columns.ensures ∙ c.if-not-same.ensures.0 refl ∙ c.columns-2.ensures)
    (λ f. both_ways _ refl (c.if-not-library_fits.ensures.1 f))
