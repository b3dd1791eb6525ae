-- What a drawing keeps, out of its truncated invariant: each part is a proposition.
use Rattle.std.proofs.Common.{◌≡◌, ℕ, ◌<◌, false, List, length, get_or, take, Some, vec_items, sym, ap, ◌∙◌, subst}
use mathlib.Core.Bool.{Bool-set}
use mathlib.Core.Logic.{∥∥₁_elim}
use Rattle.std.specs.List.{slice_get}
use Rattle.std.proofs.lemmas.Bool.{eqb-true, eq-eqb, ltb-true, lt-ltb}
use Rattle.values.specs.declared.scalar.ValueType.{ValueType}
use Rattle.blocks.specs.Library.{listed}
use Rattle.blocks.specs.declared.library.Signature.{Signature}
use Rattle.draft.specs.declared.draft.Block.{Block}
use Rattle.drawing.specs.Members.{In}
use Rattle.drawing.specs.Net.{Direct, Before, Orders, Placing}
use Rattle.drawing.specs.Wiring.{net}
use Rattle.drawing.specs.Sound.{RightTypes, Sound}
use Rattle.drawing.proofs.Members.{in_at, in_place}
use Rattle.drawing.proofs.Solution.{fed_before}
use Rattle.drawing.proofs.Types.{types_set, maybe_set}

nothing : (x y : ⊥) → x ≡ y
nothing x y = absurd x

module _ (cs : List ValueType) (bs : List Block) (ss : List Signature) (order : List ℕ) (kept : ∥ Sound cs bs ss order ∥₁) where
  pub kept_count : length ss ≡ length bs
  kept_count = eqb-true (length ss) (length bs) (∥∥₁_elim kept (Bool-set _ _) (λ k. eq-eqb (length ss) (length bs) k.count))

  pub kept_block : (v : ℕ) → In v order → v < length bs
  kept_block v h = ltb-true v (length bs) (∥∥₁_elim kept (Bool-set _ _) (λ k. lt-ltb v (length bs) (k.orders.blocks v h)))

  kept_all : (v : ℕ) → v < length bs → In v order
  kept_all v h = ∥∥₁_elim kept (Bool-set _ _) (λ k. k.orders.all v h)

  kept_before : (j : ℕ) → j < length order → (net bs ss).delays (get_or order j 0) ≡ false → (u : ℕ)
      → In u ((net bs ss).sources (get_or order j 0)) → In u (take j order)
  kept_before j h d u s = ∥∥₁_elim kept (Bool-set _ _) (λ k. fed_before (net bs ss) order k.orders j h d u s)

  kept_respects : (u v : ℕ) → Direct (net bs ss) v → In u ((net bs ss).sources v) → Before order u v
  kept_respects u v d s = go (in_place v order (kept_all v d.0))
    where
      go : (j : ℕ) × (j < length order) × (get_or order j 0 ≡ v) → Before order u v
      go p = (p.0, p.1, p.2, kept_before p.0 p.1 (ap (net bs ss).delays p.2 ∙ d.1) u (subst (λ w. In u ((net bs ss).sources w)) (sym p.2) s))

  -- the order of a checked drawing
  pub kept_orders : Orders (net bs ss) order
  kept_orders = record {
    blocks = kept_block;
    all = kept_all;
    once = λ i j lt h e. ∥∥₁_elim kept nothing (λ k. k.orders.once i j lt h e);
    respects = kept_respects;
  }

  kept_placing : Placing (net bs ss) order
  kept_placing i h = (
    record {
      block = kept_block (get_or order i 0) (in_at order i h);
      fresh = ∥∥₁_elim kept (Bool-set _ _) (λ k. (k.placing i h).0.fresh);
      allowed = λ d u s. ∥∥₁_elim kept (Bool-set _ _) (λ k. (k.placing i h).0.allowed d u s);
    },
    λ u lt r. ∥∥₁_elim kept nothing (λ k. (k.placing i h).1 u lt r),
  )

  kept_typed : (b : ℕ) (k : Block) (s : Signature) → slice_get bs b ≡ Some k → slice_get ss b ≡ Some s → RightTypes cs ss k s
  kept_typed b k s at is = record {
    inputs = eqb-true (length (vec_items k.sources)) (length (listed s.inputs))
        (∥∥₁_elim kept (Bool-set _ _) (λ h. eq-eqb (length (vec_items k.sources)) (length (listed s.inputs))
        (h.typed b k s at is).inputs));
    params = ∥∥₁_elim kept (types_set _ _) (λ h. (h.typed b k s at is).params);
    joined = λ i x src. ∥∥₁_elim kept (maybe_set _ _) (λ h. (h.typed b k s at is).joined i x src);
  }

  pub kept_sound : Sound cs bs ss order
  kept_sound = record { count = kept_count; typed = kept_typed; orders = kept_orders; placing = kept_placing }
