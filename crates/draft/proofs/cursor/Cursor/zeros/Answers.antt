use Rattle.std.proofs.Common.{◌≡◌, suc, ◌+◌, ◌-◌, sym, refl, ap, ◌∙◌, arith}
use Rattle.std.proofs.lemmas.Result.{err_from_is_err_and}
use Rattle.draft.specs.Bits.{bits_of}
use Rattle.draft.specs.File.{zero_bit, zeros_format}
use Rattle.draft.proofs.Loops.{read_same, zeros_more, zeros_fails, size_all_zeros}
use Rattle.draft.proofs.cursor.Cursor.zeros.Goals as goal

pub loop-init : goal.loop-init
loop-init c =
    let all : c.args.count ≡ c.args.count - 0 = omega arith in
    record { same = refl; left = ap (λ n. (zeros_format n).read (bits_of c.args.self.now.file.now) c.args.self.now.at) all; place = omega arith }

pub returns-in_err-zero : goal.returns-in_err-zero
returns-in_err-zero c =
    let p = err_from_is_err_and c.from_residual.result c.from_residual.ensures.1 in
    let one : suc (c.args.count - (c.loop.counter + 1)) ≡ c.args.count - c.loop.counter = omega arith in
    rw (p.1, p.2) (record {
      same = c.loop.invariant.same;
      value = c.loop.invariant.left ∙ zeros_fails (bits_of c.args.self.now.file.now) _ _ _ _ one (read_same zero_bit _ _ _ c.zero.result c.loop.invariant.same c.zero.ensures ∙ c.in_err-zero.was);
      near = tt;
    })

pub skip-requires : goal.skip-requires
skip-requires c = omega (arith, c.loop.invariant.place)

pub loop-preserved : goal.loop-preserved
loop-preserved c =
    let one : suc (c.args.count - (c.loop.counter + 1)) ≡ c.args.count - c.loop.counter = omega arith in
    record {
      same = c.skip.ensures.0 ∙ c.loop.invariant.same;
      left =
          c.loop.invariant.left ∙ zeros_more (bits_of c.args.self.now.file.now) _ _ _ _ one (read_same zero_bit _ _ _ c.zero.result c.loop.invariant.same c.zero.ensures ∙ c.in_ok-zero.was)
          ∙ ap ((zeros_format (c.args.count - (c.loop.counter + 1))).read (bits_of c.args.self.now.file.now)) (sym c.skip.ensures.1);
      place = omega (arith, c.skip.ensures.1, c.loop.invariant.place);
    }

pub returns : goal.returns
returns c =
    let none : c.args.count - c.loop.counter ≡ 0 = omega arith in
    let size = size_all_zeros c.args.self.now.at c.args.count in
    record {
      same = c.loop.invariant.same;
      value = (c.loop.invariant.left ∙ ap (λ n. (zeros_format n).read (bits_of c.args.self.now.file.now) c.loop.self.at) none, omega (arith, c.loop.invariant.place, size));
      near = omega (arith, c.loop.invariant.place);
    }
