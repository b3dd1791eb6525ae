-- What the walker is fed: a call's arguments, a slip by its number and a mark by what its table gives. Assumes nothing.
use Rattle.std.specs.Prelude.{ℕ, Option}
use Rattle.values.specs.declared.scalar.Value.{Value}

pub data Feed : Type 0 where
  Step : Feed
  Jump : ℕ → Feed
  Goto : Option ℕ → Feed
  Write : ℕ → ℕ → Value → Feed
  TakeBack : Feed
  Begin : Feed
  Confirm : ℕ → Feed
  Drop : ℕ → Feed
  Show : ℕ → Feed
  Tally : ℕ → Feed
