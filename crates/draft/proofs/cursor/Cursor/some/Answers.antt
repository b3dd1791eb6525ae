use Rattle.std.proofs.Common.{◌≡◌, ◌+◌, ◌++◌, length, take, drop, replicate, Ok, sym, refl, ap, ◌∙◌, subst, arith}
use Rattle.std.proofs.lemmas.Result.{err_from_is_err_and}
use Rattle.std.proofs.lemmas.List.{length-replicate, length-take-le}
use Rattle.draft.specs.Bits.{bits_of}
use Rattle.draft.specs.Format.{ReadsArray}
use Rattle.draft.proofs.Loops.{Filled, read_same, filled_none, filled_more, filled_fails, filled_all}
use Rattle.draft.proofs.cursor.Cursor.some.Goals as goal

pub loop-field-init : goal.loop-field-init
loop-field-init g c =
    let long : length (take c.from.result (replicate g.row.N c.args.plain)) ≡ c.args.count =
    length-take-le c.from.result (replicate g.row.N c.args.plain) (omega (arith, length-replicate g.row.N c.args.plain)) ∙ c.from.ensures in
    record {
      same = refl;
      filled = filled_none g.T.Field.format (bits_of c.args.self.now.file.now) c.args.count c.args.self.now.at _ long;
      near = omega arith;
    }

pub returns-in_err-field : goal.returns-in_err-field
returns-in_err-field g c =
    let p = err_from_is_err_and c.from_residual.result c.from_residual.ensures.1 in
    rw (p.1, p.2) (record {
      same = c.loop-field.invariant.same;
      value = filled_fails g.T.Field.format (bits_of c.args.self.now.file.now) c.args.count c.args.self.now.at c.loop-field.field-index _ _ _ (omega (arith, c.loop-field.invariant.filled.long)) c.loop-field.invariant.filled (read_same g.T.Field.format _ _ _ c.read.result c.loop-field.invariant.same c.read.ensures ∙ c.in_err-field.was);
      near = tt;
    })

pub skip-requires : goal.skip-requires
skip-requires g c = omega (arith, c.loop-field.invariant.near, c.loop-field.invariant.filled.long, c.size.ensures.small)

pub loop-field-preserved : goal.loop-field-preserved
loop-field-preserved g c = record {
  same = c.skip.ensures.0 ∙ c.loop-field.invariant.same;
  filled =
      subst (Filled _ _ _ _ (c.loop-field.field-index + 1) _) (ap (λ n. c.loop-field.self.at + n) (c.size.ensures.same c.loop-field.self.at) ∙ sym c.skip.ensures.1)
      (filled_more g.T.Field.format (bits_of c.args.self.now.file.now) c.args.count c.args.self.now.at c.loop-field.field-index c.loop-field.meant c.loop-field.self.at c.in_ok-field.field-0 (omega (arith, c.loop-field.invariant.filled.long)) c.loop-field.invariant.filled (read_same g.T.Field.format _ _ _ c.read.result c.loop-field.invariant.same c.read.ensures ∙ c.in_ok-field.was));
  near = omega (arith, c.loop-field.invariant.near, c.size.ensures.small, c.skip.ensures.1);
}

pub returns : goal.returns
returns g c = record {
  same = c.loop-field.invariant.same;
  value = subst (λ n. ReadsArray g.T.Field.format g.row.N c.args.plain c.args.count (bits_of c.args.self.now.file.now) c.args.self.now.at (Ok (c.loop-field.meant ++ drop n (replicate g.row.N c.args.plain))) c.loop-field.self.at) (sym c.from.ensures)
      (filled_all g.T.Field.format (bits_of c.args.self.now.file.now) c.args.count c.args.self.now.at g.row.N c.args.plain c.loop-field.field-index c.loop-field.meant c.loop-field.self.at c.requires.0 (omega (arith, c.loop-field.invariant.filled.long)) c.loop-field.invariant.filled);
  near = omega (arith, c.loop-field.invariant.near, c.loop-field.invariant.filled.long);
}
