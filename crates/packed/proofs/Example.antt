-- The examples' files, by computation.
use Rattle.std.proofs.Common.{refl}
use Rattle.draft.specs.Bits.{bits_of, value_at}
use Rattle.packed.specs.Example.{counter, counter_file, CounterFile, built_in_file, BuiltInFile}

pub counter_stands : CounterFile
unfolding counter counter_file bits_of value_at
counter_stands = (refl, refl)

pub built_in_stands : BuiltInFile
unfolding built_in_file bits_of value_at
built_in_stands = (refl, refl)
