-- What truth tables show. Assumes nothing.
use Rattle.std.proofs.Common.{◌≡◌, ℕ, zero, suc, ◌+◌, ◌%◌, ◌<◌, ◌≤◌, Bool, true, false, cond, ◌&&◌, ◌⊎◌, List, [], ◌∷◌, map, length, get_or, take, None, sym, refl, ap, ◌∙◌, subst, inl, inr, arith}
use Rattle.std.proofs.lemmas.Bool.Decides.{nat_tests}
use Rattle.values.specs.declared.scalar.State.{State}
use Rattle.values.specs.declared.scalar.Value.{Value}
use Rattle.values.specs.declared.scalar.Value.TheVariants.{Binary}
use Rattle.values.specs.Values.{idle, binary_of}
use Rattle.blocks.specs.Response.{response_from}
use Rattle.truth_tables.specs.declared.entries.Entry.{Entry}
use Rattle.truth_tables.specs.Laws.{entry, bit, number, ShowsBit, ShowsLate, Ports, KnownTables}
use Rattle.truth_tables.specs.Tables.{binaries, index, looked, blank, late, entry_of, ports_by, known, shown, later, tables}

-- ---- a kind's entry, and whether it is late

entry_now : (es : List Entry) (k : ℕ) → k < 32 → entry_of es k ≡ entry es k
entry_now es k h =
    let same : k % 32 ≡ k = omega arith in
    let e : entry_of es k ≡ get_or es (k % 32) blank = grind (arith, nat_tests) in e ∙ ap (λ i. get_or es i blank) same

entry_late : (es : List Entry) (k : ℕ) → k < 32 → entry_of es (k + 32) ≡ entry es k
entry_late es k h =
    let same : (k + 32) % 32 ≡ k = omega arith in
    let e : entry_of es (k + 32) ≡ get_or es ((k + 32) % 32) blank = grind (arith, nat_tests) in e ∙ ap (λ i. get_or es i blank) same

is_now : (k : ℕ) → k < 32 → late k ≡ false
is_now k h = grind (arith, nat_tests)

is_late : (k : ℕ) → late (k + 32) ≡ true
is_late k = grind (arith, nat_tests)

-- ---- the bit

index_is : (is : List Bool) → length is ≤ 4 → index (length is) (map Binary is) ≡ number is
index_is [] h = refl
index_is (a ∷ []) h = omega arith
index_is (a ∷ (b ∷ [])) h = omega arith
index_is (a ∷ (b ∷ (c ∷ []))) h = omega arith
index_is (a ∷ (b ∷ (c ∷ (d ∷ [])))) h = omega arith
index_is (a ∷ (b ∷ (c ∷ (d ∷ (e ∷ is))))) h = absurd (omega arith)

known_one : (n : ℕ) → 1 ≤ n → n ≤ 4 → known n ≡ true
known_one zero l h = absurd (omega arith)
known_one (suc zero) l h = refl
known_one (suc (suc zero)) l h = refl
known_one (suc (suc (suc zero))) l h = refl
known_one (suc (suc (suc (suc zero)))) l h = refl
known_one (suc (suc (suc (suc (suc n))))) l h = absurd (omega arith)

-- out of a kind whose entry and lateness are known
abbrev out_by : Entry → Bool → State → List Value → Value
out_by e d s is = Binary (known e.inputs && shown e d s is)

pub shows_bit : ShowsBit
shows_bit es k h is l m e ps s =
    ap (λ (x : Entry). out_by x (late k) s (map Binary is)) (entry_now es k h) ∙ ap (λ d. out_by (entry es k) d s (map Binary is)) (is_now k h)
    ∙ ap (λ n. Binary (known n && bit (entry es k).bits (index n (map Binary is)))) e
    ∙ ap (λ b. Binary (b && bit (entry es k).bits (index (length is) (map Binary is)))) (known_one (length is) l m)
    ∙ ap (λ i. Binary (bit (entry es k).bits i)) (index_is is m)

-- ---- one cycle late

abbrev kept : Bool → State
kept b = record { value = Binary b; count = 0 }

-- what the delayed form keeps: the table's result, or 0 where the table is unknown
abbrev result : Entry → List Value → Bool
result e is = known e.inputs && looked e is

keeps : (b r : Bool) → cond b (kept r) idle ≡ kept (b && r)
keeps true r = refl
keeps false r = refl

-- what it keeps from an input it shows
repeats : (b r : Bool) → (b && (b && r)) ≡ (b && r)
repeats true r = refl
repeats false r = refl

shown_now : (es : List Entry) (k : ℕ) → k < 32 → (ps : List Value) (s : State) (is : List Value) → (tables es).out k ps s is ≡ Binary (result (entry es k) is)
shown_now es k h ps s is = ap (λ (x : Entry). out_by x (late k) s is) (entry_now es k h) ∙ ap (λ d. out_by (entry es k) d s is) (is_now k h)

shown_late : (es : List Entry) (k : ℕ) → k < 32 → (ps : List Value) (s : State) (is : List Value) → (tables es).out (k + 32) ps s is ≡ Binary (known (entry es k).inputs && binary_of s.value)
shown_late es k h ps s is = ap (λ (x : Entry). out_by x (late (k + 32)) s is) (entry_late es k h) ∙ ap (λ d. out_by (entry es k) d s is) (is_late k)

taken : (es : List Entry) (k : ℕ) → k < 32 → (ps : List Value) (s : State) (is : List Value) → (tables es).next (k + 32) ps s is ≡ kept (result (entry es k) is)
taken es k h ps s is =
    ap (λ (x : Entry). cond (known x.inputs) (later x (late (k + 32)) is) idle) (entry_late es k h)
    ∙ ap (λ d. cond (known (entry es k).inputs) (later (entry es k) d is) idle) (is_late k)
    ∙ keeps (known (entry es k).inputs) (looked (entry es k) is)

abbrev results : List Entry → ℕ → List Value → List (List Value) → List Value
results es k ps rows = map (λ is. (tables es).out k ps idle is) rows

-- from a state that keeps what the table shows
from : (es : List Entry) (k : ℕ) → k < 32 → (ps : List Value) (v : Bool) → (known (entry es k).inputs && v) ≡ v → (rows : List (List Value))
    → response_from (tables es) (k + 32) ps (kept v) rows ≡ take (length rows) (Binary v ∷ results es k ps rows)
from es k h ps v e [] = refl
from es k h ps v e (is ∷ rows) =
    let a = shown_late es k h ps (kept v) is in
    let b = taken es k h ps (kept v) is in
    let c = shown_now es k h ps idle is in
    let d = from es k h ps (result (entry es k) is) (repeats (known (entry es k).inputs) (looked (entry es k) is)) rows in cc

none : (b : Bool) → (b && false) ≡ false
none true = refl
none false = refl

pub shows_late : ShowsLate
shows_late es k h ps rows = from es k h ps false (none (known (entry es k).inputs)) rows

-- ---- signatures

ports : (n : ℕ) (d : Bool) → 1 ≤ n → n ≤ 4 → Ports n d (ports_by (binaries n) d)
ports zero d l h = absurd (omega arith)
ports (suc zero) d l h = (refl, refl, refl, refl)
ports (suc (suc zero)) d l h = (refl, refl, refl, refl)
ports (suc (suc (suc zero))) d l h = (refl, refl, refl, refl)
ports (suc (suc (suc (suc zero)))) d l h = (refl, refl, refl, refl)
ports (suc (suc (suc (suc (suc n))))) d l h = absurd (omega arith)

no_ports : (n : ℕ) → (n ≡ 0) ⊎ (4 < n) → binaries n ≡ None
no_ports n (inl e) = grind (arith, nat_tests)
no_ports n (inr l) = grind (arith, nat_tests)

signed_now : (es : List Entry) (k n : ℕ) → k < 32 → (entry es k).inputs ≡ n → ports_by (binaries n) false ≡ (tables es).signature k
signed_now es k n h e =
    sym (ap (λ (x : Entry). ports_by (binaries x.inputs) (late k)) (entry_now es k h) ∙ ap (ports_by (binaries (entry es k).inputs)) (is_now k h) ∙ ap (λ m. ports_by (binaries m) false) e)

signed_late : (es : List Entry) (k n : ℕ) → k < 32 → (entry es k).inputs ≡ n → ports_by (binaries n) true ≡ (tables es).signature (k + 32)
signed_late es k n h e =
    sym (ap (λ (x : Entry). ports_by (binaries x.inputs) (late (k + 32))) (entry_late es k h) ∙ ap (ports_by (binaries (entry es k).inputs)) (is_late k) ∙ ap (λ m. ports_by (binaries m) true) e)

pub known_tables : KnownTables
known_tables es k n h e = (
  λ l m. (subst (Ports n false) (signed_now es k n h e) (ports n false l m), subst (Ports n true) (signed_late es k n h e) (ports n true l m)),
  λ u. (sym (signed_now es k n h e) ∙ ap (λ o. ports_by o false) (no_ports n u), sym (signed_late es k n h e) ∙ ap (λ o. ports_by o true) (no_ports n u)),
)
