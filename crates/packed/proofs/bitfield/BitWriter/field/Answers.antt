use Rattle.std.proofs.Common.{◌≡◌, ◌+◌, ◌-◌, ◌/◌, ◌%◌, ◌^◌, ◌<◌, ◌≤◌, ◌++◌, length, ap, ◌∙◌, subst, sym, append_assoc, append-nil, arith, length-append, pow_pos}
use Rattle.std.proofs.lemmas.Nat.{one_shl, mod_below}
use Rattle.draft.specs.Bits.{field}
use Rattle.draft.proofs.BitLaws.{length_field}
use Rattle.packed.proofs.Appending.{field_grows}
use Rattle.packed.proofs.bitfield.BitWriter.field.Goals as goal

pub loop-left-init : goal.loop-left-init
loop-left-init c =
    let w = c.args.width in
    let none : w - w ≡ 0 = omega arith in
    record {
      written = sym (append-nil c.args.self.now) ∙ ap (λ n. c.args.self.now ++ field n (c.args.value / 2 ^ w)) (sym none);
      few = omega arith;
    }

pub part-requires : goal.part-requires
part-requires c =
    let s = c.args.self.now in
    let done = c.args.width - c.loop-left.left in
    let next = c.min-next.result in
    let long = ap length c.loop-left.invariant.written ∙ length-append s _ ∙ ap (λ n. length s + n) (length_field done (c.args.value / 2 ^ c.loop-left.left)) in
    let unit = one_shl next 32 (omega (arith, c.min-next.ensures)) in
    let u = c.args.value / 2 ^ (c.loop-left.left - next) in (
      omega (arith, c.min-next.ensures),
      subst (λ n. u % n < 2 ^ next) (sym unit) (mod_below u (2 ^ next) (pow_pos next)),
      omega (arith, c.min-next.ensures, c.len.ensures.value),
      omega (arith, c.min-next.ensures, long),
    )

pub loop-left-preserved : goal.loop-left-preserved
loop-left-preserved c =
    let s = c.args.self.now in
    let w = c.args.width in
    let v = c.args.value in
    let left = c.loop-left.left in
    let next = c.min-next.result in
    let unit = one_shl next 32 (omega (arith, c.min-next.ensures)) in
    let few : next ≤ left = omega (arith, c.min-next.ensures) in
    record {
      written =
          c.part.ensures ∙ (λ i. c.loop-left.invariant.written i ++ field next (v / 2 ^ (left - next) % unit i))
          ∙ append_assoc s (field (w - left) (v / 2 ^ left)) _ ∙ ap (λ l. s ++ l) (field_grows w left next v few c.loop-left.invariant.few);
      few = omega arith;
    }

pub returns : goal.returns
returns c =
    let s = c.args.self.now in
    let w = c.args.width in
    let v = c.args.value in
    let none : c.loop-left.left ≡ 0 = omega arith in
    let full : w - 0 ≡ w = omega arith in
    let one : v / 1 ≡ v = omega arith in
    let all : c.loop-left.self ≡ s ++ field w v = c.loop-left.invariant.written ∙ ap (λ n. s ++ field (w - n) (v / 2 ^ n)) none ∙ (λ i. s ++ field (full i) (one i)) in
    record {
      value = all;
      end = ap length all ∙ length-append s (field w v) ∙ ap (λ n. length s + n) (length_field w v);
    }
