use Rattle.std.proofs.Common.{◌≡◌, ℕ, true, List, length, sym, ap, subst, arith}
use Rattle.values.specs.declared.scalar.Value.{Value}
use Rattle.draft.specs.declared.source.Source.{Source}
use Rattle.draft.specs.Limits.{every, printable, holdable, numbered}
use Rattle.draft.specs.Records.{block_of}
use Rattle.draft.proofs.Bounds.{block_in}
use Rattle.draft.proofs.reading.block_from.Goals as goal

pub invariant_of-result : goal.invariant_of-result
invariant_of-result c =
    let w = block_in (block_of c.args.block.now) c.requires.0 in
    let n = c.in_ok-name.ensures in
    let p = c.in_ok-params.ensures in
    let s = c.in_ok-sources.ensures in
    record {
      known = w.known;
      short = omega (arith, n.len, w.short);
      text = subst (λ (xs : List ℕ). every printable xs ≡ true) (sym n.items) w.text;
      few_params = omega (arith, c.in_ok-params.params.ok.0, ap length p, w.few_params);
      sound = subst (λ (xs : List Value). every holdable xs ≡ true) (sym p) w.sound;
      few_sources = omega (arith, c.in_ok-sources.sources.ok.0, ap length s, w.few_sources);
      within = subst (λ (xs : List Source). every numbered xs ≡ true) (sym s) w.within;
    }
