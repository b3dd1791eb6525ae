-- Not-a-number in the plant's blocks. Assumes nothing.
use Rattle.std.proofs.Common.{ap, ◌∙◌}
use lib.Ieee.{nan}
use Rattle.std.proofs.lemmas.Bool.{or_from}
use Rattle.values.specs.declared.scalar.Value.TheVariants.{Real}
use Rattle.plant.specs.Laws.{NanCompares, NanShown, NanUnlawful}
use Rattle.plant.proofs.Limits.{lawful_limit, limit_through}
use Rattle.plant.proofs.RealOrder.{lt_nan, nan_lt, le_nan, nan_le, eq_nan, nan_eq}
use Rattle.plant.proofs.Sequences.{sequence_nan}

pub nan_compares : NanCompares
nan_compares x = (nan_lt x, lt_nan x, nan_le x, le_nan x, nan_eq x, eq_nan x)

pub nan_shown : NanShown
nan_shown = (λ low high s h. lawful_limit low high nan s h ∙ ap Real (limit_through low high nan (nan_lt low) (lt_nan high)), sequence_nan)

pub nan_unlawful : NanUnlawful
nan_unlawful x ps = (nan_le x, le_nan x, or_from _ _ (nan_lt x) (lt_nan x), or_from _ _ (lt_nan x) (nan_lt x))
