use Rattle.std.proofs.Common.{rules, ◌≡◌, ◌+◌, ◌^◌, ◌<◌, [], get_or, drop, Some, None, fold, sym, ap, ◌∙◌, arith}
use Rattle.std.proofs.lemmas.List.{drop_all}
use Rattle.hexadecimal.specs.Digits.{digit_of}
use Rattle.reals.specs.Digits.{more}
use Rattle.reals.proofs.Folds.{none_stays, digit_small, read_more, whole, small, small_more}
use Rattle.reals.proofs.digits.read_pattern.Goals as goal

is_digit : (c : goal.After-from) → digit_of (get_or c.args.word.now c.loop-b.b-index 0) ≡ Some c.in_ok-digit.field-0
is_digit c = sym c.digit.ensures ∙ c.in_ok-digit.was

digit_bound : (c : goal.After-from) → c.in_ok-digit.field-0 < 16
digit_bound c = digit_small (get_or c.args.word.now c.loop-b.b-index 0) c.in_ok-digit.field-0 (is_digit c)

pub overflow_mul-n : goal.overflow_mul-n
overflow_mul-n c = let b : c.loop-b.n < 2 ^ 28 = small c.loop-b.n c.loop-b.b-index c.loop-b.invariant.0 (omega arith) in omega (arith, b)

pub overflow_add-n : goal.overflow_add-n
overflow_add-n c =
    let b : c.loop-b.n < 2 ^ 28 = small c.loop-b.n c.loop-b.b-index c.loop-b.invariant.0 (omega arith) in
    let d = digit_bound c in
    omega (arith, b, d)

pub returns-in_err-digit : goal.returns-in_err-digit
returns-in_err-digit c =
    let none : c.from_residual.result ≡ None = search rules in
    none ∙ sym (read_more c.args.word.now c.loop-b.n c.loop-b.b-index _ None c.loop-b-test.true (sym c.digit.ensures ∙ c.in_err-digit.was) c.loop-b.invariant.1
    ∙ none_stays (drop (c.loop-b.b-index + 1) c.args.word.now))
    ∙ whole c.args.word.now (omega arith)

pub loop-b-preserved : goal.loop-b-preserved
loop-b-preserved c = rw c.from.ensures (
  small_more c.loop-b.n c.in_ok-digit.field-0 c.loop-b.b-index c.loop-b.invariant.0 (digit_bound c),
  read_more c.args.word.now c.loop-b.n c.loop-b.b-index _ (Some c.in_ok-digit.field-0) c.loop-b-test.true (is_digit c) c.loop-b.invariant.1,
)

pub returns : goal.returns
returns c =
    let end : drop c.loop-b.b-index c.args.word.now ≡ [] = drop_all c.loop-b.b-index c.args.word.now (omega arith) in
    sym (c.loop-b.invariant.1 ∙ ap (fold more (Some c.loop-b.n)) end) ∙ whole c.args.word.now (omega arith)
