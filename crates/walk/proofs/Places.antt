-- The places of a drawing: one that is lent, and one with no block.
use Rattle.std.proofs.Common.{◌≡◌, ℕ, ◌<◌, ◌≤◌, List, length, get_or, Some, vec_items, sym, refl, ap, ◌∙◌}
use Rattle.std.specs.List.{slice_get}
use Rattle.std.proofs.lemmas.Option.{slice_get_past, slice_get_read}
use Rattle.values.specs.declared.scalar.State.{State}
use Rattle.values.specs.declared.scalar.Value.{Value}
use Rattle.values.specs.Values.{absent, idle}
use Rattle.blocks.specs.Library.{Library}
use Rattle.draft.specs.declared.draft.Block.{Block}
use Rattle.walk.specs.Cycle.{out_at, next_at, first_at}

-- an element of a list that is lent as a slice
pub lent_at : {A : Type 0} (slice items : List A) (i : ℕ) (x : A) → slice ≡ items → i < length slice → x ≡ get_or slice i x → slice_get items i ≡ Some x
lent_at slice items i x same inside is = ap (λ l. slice_get l i) (sym same) ∙ slice_get_read slice (length slice) i x refl inside is

module _ (L : Library) (bs : List Block) (k : ℕ) (past : length bs ≤ k) where
  pub next_past : (s : State) (row : List Value) (x : ℕ → Value) → next_at L (slice_get bs k) s row x ≡ idle
  unfolding next_at
  next_past s row x = ap (λ o. next_at L o s row x) (slice_get_past bs k past)

  pub first_past : first_at L (slice_get bs k) ≡ idle
  unfolding first_at
  first_past = ap (first_at L) (slice_get_past bs k past)

  pub out_past : (s : State) (row : List Value) (x : ℕ → Value) → out_at L (slice_get bs k) s row x ≡ absent
  unfolding out_at
  out_past s row x = ap (λ o. out_at L o s row x) (slice_get_past bs k past)

-- first, of a block whose parameters were lent
pub first_is : (L : Library) (b : Block) (kind : ℕ) (params : List Value) (s : State) → kind ≡ b.kind → params ≡ vec_items b.params → s ≡ L.first kind params → s ≡ first_at L (Some b)
unfolding first_at
first_is L b kind params s k e is = is ∙ ap (λ n. L.first n params) k ∙ ap (L.first b.kind) e
