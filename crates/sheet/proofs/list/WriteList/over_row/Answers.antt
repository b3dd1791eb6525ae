use Rattle.std.proofs.Common.{◌≡◌, ℕ, suc, ◌≤◌, length, get_or, Some, None, fold, Option, sym, ap, ◌∙◌, subst, arith}
use Rattle.std.proofs.lemmas.List.{length-map, take_all}
use Rattle.values.specs.declared.packed.Cell.{Cell}
use Rattle.sheet.specs.declared.overlay.Overlay.{Overlay}
use Rattle.sheet.specs.declared.write.Standing.{Standing}
use Rattle.sheet.specs.Chains.{written, up_to, through}
use Rattle.sheet.specs.Held.{cells_of}
use Rattle.sheet.specs.Rows.{over}
use Rattle.sheet.proofs.Chaining.{up_to_le, no_standing, link_at, write_at}
use Rattle.sheet.proofs.Layers.{Layered, layered_start, layered_end, layered_next}
use Rattle.sheet.proofs.list.WriteList.over_row.Goals as goal

pub loop-at-init : goal.loop-at-init
loop-at-init c =
    let s = c.args.self.now in
    let ws = written s.standing.items in
    let n = length s.standing.items in
    let at = get_or s.latest c.args.cycle None in
    rw (c.new-row.ensures.cells, c.new-row.ensures.given)
    (layered_start c.args.cycle c.args.first.now ws n at c.requires.few (omega (arith, length-map s.standing.items (λ (t : Standing). t.write))) (s.chained.headed c.args.cycle (omega arith)))

pub loop-at-smaller : goal.loop-at-smaller
loop-at-smaller c =
    let s = c.args.self.now in
    let i = c.in-Some.i in
    let ws = written s.standing.items in
    let P : Option ℕ → Type 0 = λ at. Layered c.args.cycle c.args.first.now ws (length s.standing.items) at (cells_of c.loop-at.row.row) c.loop-at.row.given in
    let h : P (Some i) = subst P c.in-Some.is c.loop-at.invariant in
    let e : through c.loop-at.at ≡ suc i = ap through c.in-Some.is in
    let read = ap (λ xs. through (get_or xs i no_standing).previous) c.as_slice.ensures.value in
    omega (arith, e, read, link_at s.standing.items s.latest s.chained i h.hit.0, up_to_le ws (get_or s.standing.items i no_standing).write.cycle i)

pub loop-at-preserved : goal.loop-at-preserved
loop-at-preserved c =
    let s = c.args.self.now in
    let i = c.in-Some.i in
    let items = s.standing.items in
    let ws = written items in
    let n = length items in
    let P : Option ℕ → Type 0 = λ at. Layered c.args.cycle c.args.first.now ws n at (cells_of c.loop-at.row.row) c.loop-at.row.given in
    let h : P (Some i) = subst P c.in-Some.is c.loop-at.invariant in
    let x = get_or c.as_slice.result.now i no_standing in
    let read : x ≡ get_or items i no_standing = ap (λ xs. get_or xs i no_standing) c.as_slice.ensures.value in
    let Q : Standing → Type 0 = λ y. through y.previous ≡ up_to ws y.write.cycle i in
    let long : n ≤ length ws = omega (arith, length-map items (λ (t : Standing). t.write)) in
    let give = c.give.ensures in
    layered_next c.args.cycle c.args.first.now ws n i x.previous x.write (cells_of c.loop-at.row.row) c.loop-at.row.given c.requires.few long
    (ap (λ (y : Standing). y.write) read ∙ write_at items i h.hit.0) (subst Q (sym read) (link_at items s.latest s.chained i h.hit.0)) h (cells_of c.give.new.self.row) c.give.new.self.given
    (λ l. let e = give.past l in (ap (λ (o : Overlay). cells_of o.row) e, ap (λ (o : Overlay). o.given) e))
    (λ y. let e = give.kept y in (ap (λ (o : Overlay). cells_of o.row) e, ap (λ (o : Overlay). o.given) e))
    (λ l no. (give.cells l no, give.given l no))

pub returns : goal.returns
returns c =
    let s = c.args.self.now in
    let first = c.args.first.now in
    let ws = written s.standing.items in
    let n = length s.standing.items in
    let P : Option ℕ → Type 0 = λ at. Layered c.args.cycle first ws n at (cells_of c.loop-at.row.row) c.loop-at.row.given in
    ap cells_of c.into_row.ensures ∙
    layered_end c.args.cycle first ws n (cells_of c.loop-at.row.row) c.loop-at.row.given (subst P c.in_default.is c.loop-at.invariant) ∙
    ap (fold (over c.args.cycle) first) (take_all n ws (omega (arith, length-map s.standing.items (λ (t : Standing). t.write))))
