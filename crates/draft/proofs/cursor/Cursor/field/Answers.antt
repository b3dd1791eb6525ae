use Rattle.std.proofs.Common.{◌≡◌, ◌+◌, ◌*◌, ◌≤◌, get_or, Ok, sym, ap, ◌∙◌, arith, pow_mono}
use Rattle.draft.specs.Bits.{bits_of, value_at}
use Rattle.draft.proofs.BitLaws.{length_bits_of, under_bits_of}
use Rattle.draft.proofs.Fields.{value_at_none, value_at_more, value_at_lt, read_field_cut, read_field_whole}
use Rattle.draft.proofs.cursor.Cursor.field.Goals as goal

pub returns-then-div_ceil-self : goal.returns-then-div_ceil-self
returns-then-div_ceil-self c = record {
  value = sym (read_field_cut (bits_of c.args.self.now.file.now) (c.args.self.now.at + c.args.offset) c.args.width (omega (arith, length_bits_of c.args.self.now.file.now)));
  small = tt;
}

pub loop-i-init : goal.loop-i-init
loop-i-init c = value_at_none (bits_of c.args.self.now.file.now) (c.args.self.now.at + c.args.offset)

-- the value with the next bit, and its bound
next : (c : goal.After-from) → c.loop-i.value * 2 + c.from.result ≡ value_at (bits_of c.args.self.now.file.now) (c.args.self.now.at + c.args.offset) (c.loop-i.i + 1)
next c =
    let bits = bits_of c.args.self.now.file.now in
    let b : c.from.result ≡ get_or bits ((c.args.self.now.at + c.args.offset) + c.loop-i.i) 0 = c.from.ensures ∙ c.bit.ensures in
    (λ k. (c.loop-i.invariant k) * 2 + b k)
    ∙ value_at_more bits (c.args.self.now.at + c.args.offset) c.loop-i.i (omega (arith, length_bits_of c.args.self.now.file.now))

pub overflow_mul-value : goal.overflow_mul-value
overflow_mul-value c =
    let few : c.loop-i.i ≤ 31 = omega arith in
    omega (arith, c.loop-i.invariant, value_at_lt (bits_of c.args.self.now.file.now) (c.args.self.now.at + c.args.offset) c.loop-i.i (under_bits_of c.args.self.now.file.now), pow_mono few)

pub overflow_add-value : goal.overflow_add-value
overflow_add-value c =
    let few : c.loop-i.i + 1 ≤ 32 = omega arith in
    omega (arith, next c, value_at_lt (bits_of c.args.self.now.file.now) (c.args.self.now.at + c.args.offset) (c.loop-i.i + 1) (under_bits_of c.args.self.now.file.now), pow_mono few)

pub loop-i-preserved : goal.loop-i-preserved
loop-i-preserved c = next c

pub returns : goal.returns
returns c =
    let bits = bits_of c.args.self.now.file.now in
    let all : c.loop-i.i ≡ c.args.width = omega arith in
    let value = c.loop-i.invariant ∙ ap (value_at bits (c.args.self.now.at + c.args.offset)) all in
    record {
      value = ap Ok value ∙ sym (read_field_whole bits (c.args.self.now.at + c.args.offset) c.args.width (omega (arith, length_bits_of c.args.self.now.file.now)));
      small = omega (arith, value, value_at_lt bits (c.args.self.now.at + c.args.offset) c.args.width (under_bits_of c.args.self.now.file.now));
    }
