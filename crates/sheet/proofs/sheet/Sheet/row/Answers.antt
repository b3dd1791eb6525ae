use Rattle.std.proofs.Common.{◌≡◌, ◌+◌, ◌-◌, ◌*◌, ◌≤◌, map, length, take, drop, sym, ap, ◌∙◌, subst, arith}
use Rattle.std.proofs.lemmas.Nat.{mul-le}
use Rattle.values.specs.Packed.{value_of}
use Rattle.sheet.specs.Held.{types_of, writes_of, cells_of}
use Rattle.sheet.specs.Page.{page}
use Rattle.sheet.specs.Rows.{first_rows, rows_of}
use Rattle.sheet.specs.Laws.{FitRow}
use Rattle.sheet.proofs.Fitting.{standing_fit}
use Rattle.sheet.proofs.Overlays.{rows_over, row_past}
use Rattle.sheet.proofs.sheet.Sheet.row.Goals as goal

pub returns-then-cycle-self : goal.returns-then-cycle-self
returns-then-cycle-self c =
    let s = c.args.self.now in
    let cycle = c.args.cycle in
    let width = length (types_of s.columns) in
    let past : length s.cells.now ≤ cycle * width = omega (arith, s.filled, mul-le s.rows width cycle width c.if-cycle-self.true (omega arith)) in
    record {
      values = ap (map value_of) c.new.ensures ∙ row_past (page s) cycle past;
      fits = λ l. absurd (omega (arith, l, c.if-cycle-self.true));
    }

pub returns : goal.returns
returns c =
    let s = c.args.self.now in
    let types = types_of s.columns in
    let cycle = c.args.cycle in
    let width = length types in
    let start = cycle * c.len-width.result in
    let part : start + c.len-width.result - start ≡ width = omega (arith, c.len-width.ensures) in
    let e : take width (drop (cycle * width) s.cells.now) ≡ take (start + c.len-width.result - start) (drop start s.cells.now) =
    ap (λ n. take n (drop (cycle * width) s.cells.now)) (sym part) ∙ ap (λ n. take (start + c.len-width.result - start) (drop (cycle * n) s.cells.now)) (sym c.len-width.ensures) in
    let v : map value_of (cells_of c.over_row.result) ≡ rows_of (page s) cycle =
    ap (map value_of) c.over_row.ensures ∙ sym (rows_over (writes_of s.writes) (first_rows width s.cells.now) cycle _ (ap (map value_of) e)) in
    record {
      values = v;
      fits = λ l. subst (FitRow types) (sym v) (standing_fit types s.cells.now s.rows cycle (writes_of s.writes) s.filled s.sound s.typed l);
    }
