-- What truth tables show, above their definitions. Assumes nothing.
use Rattle.std.specs.Prelude.{◌≡◌, ℕ, ◌+◌, ◌*◌, ◌/◌, ◌%◌, ◌^◌, ◌<◌, ◌≤◌, Bool, true, false, cond, ◌⊎◌, List, [], ◌∷◌, map, length, take, replicate, None, Option, ◌==◌, slice_index_or}
use Rattle.values.specs.declared.scalar.State.{State}
use Rattle.values.specs.declared.scalar.Value.{Value}
use Rattle.values.specs.declared.scalar.Value.TheVariants.{Binary}
use Rattle.values.specs.declared.scalar.ValueType.TheVariants as T
use Rattle.values.specs.Values.{idle}
use Rattle.blocks.specs.declared.library.Signature.{Signature}
use Rattle.blocks.specs.Library.{inputs_of, params_of, output_of, delays}
use Rattle.blocks.specs.Response.{response}
use Rattle.truth_tables.specs.declared.entries.Entry.{Entry}
use Rattle.truth_tables.specs.Tables.{blank, tables}

-- the entry of a table
abbrev pub entry : List Entry → ℕ → Entry
entry es k = slice_index_or es k blank

-- bit number i of n, bit 0 lowest
abbrev pub bit : ℕ → ℕ → Bool
bit n i = n / 2 ^ i % 2 == 1

-- i1 + 2 × i2 + 4 × i3 + 8 × i4, as far as there are inputs
abbrev pub number : List Bool → ℕ
number [] = 0
number (i ∷ is) = cond i 1 0 + 2 * number is

-- a table shows the bit that its inputs number
abbrev pub ShowsBit : Type 0
ShowsBit = (es : List Entry) (k : ℕ) → k < 32 → (is : List Bool) → 1 ≤ length is → length is ≤ 4 → (entry es k).inputs ≡ length is
    → (ps : List Value) (s : State) → (tables es).out k ps s (map Binary is) ≡ Binary (bit (entry es k).bits (number is))

-- its delayed form shows the table's results one cycle late, and 0 at cycle 0
abbrev pub ShowsLate : Type 0
ShowsLate = (es : List Entry) (k : ℕ) → k < 32 → (ps : List Value) (rows : List (List Value))
    → response (tables es) (k + 32) ps rows ≡ take (length rows) (Binary false ∷ map (λ is. (tables es).out k ps idle is) rows)

-- n binary inputs, no parameter, a binary output
abbrev pub Ports : ℕ → Bool → Option Signature → Type 0
Ports n late g = (inputs_of g ≡ replicate n T.Binary) × (params_of g ≡ []) × (output_of g ≡ T.Binary) × (delays g ≡ late)

-- a table of 1 to 4 inputs is known, and so is its delayed form; any other is not, nor is its delayed form
abbrev pub KnownTables : Type 0
KnownTables = (es : List Entry) (k n : ℕ) → k < 32 → (entry es k).inputs ≡ n
    → (1 ≤ n → n ≤ 4 → Ports n false ((tables es).signature k) × Ports n true ((tables es).signature (k + 32)))
    × ((n ≡ 0) ⊎ (4 < n) → ((tables es).signature k ≡ None) × ((tables es).signature (k + 32) ≡ None))
