-- What the built-in drawing keeps.
use Rattle.std.proofs.Common.{◌≡◌, ℕ, zero, suc, false, List, [], ◌∷◌, map, length, vec_items, sym, refl, ap, subst, subst₂, arith}
use borrow.Author.Tests.{both_ways}
use Rattle.values.specs.Values.{type_of}
use Rattle.values.specs.declared.scalar.Value.TheVariants as Values
use Rattle.values.specs.declared.scalar.ValueType.TheVariants.{Binary}
use Rattle.blocks.specs.declared.library.Signature.{Signature}
use Rattle.draft.specs.Drafts.{block_means, means, built_in}
use Rattle.draft.specs.File.{BlockOf, DraftOf}
use Rattle.draft.specs.declared.source.Source.TheVariants.{Block as Output}
use Rattle.draft.specs.declared.draft.Block.{Block}
use Rattle.draft.specs.declared.draft.Draft.{Draft}
use Rattle.drawing.specs.BuiltIn.{binary_delay}
use Rattle.drawing.specs.Net.{Placing}
use Rattle.drawing.specs.Sound.{Joined, RightTypes, Sound}
use Rattle.drawing.specs.Wiring.{net}
use Rattle.drawing.proofs.Loops.{arranged}
use Rattle.drawing.proofs.Members.{in_here}
use Rattle.drawing.proofs.Pairs.{pairs_at}
use Rattle.drawing.proofs.Sources.{joined_one}

abbrev signs : List Signature
signs = binary_delay ∷ []

-- a delay of binary values, first 0, fed by itself
module _ (b : Block) (fed : vec_items b.sources ≡ Output 0 ∷ []) (starts : vec_items b.params ≡ Values.Binary false ∷ []) where
  typed : RightTypes [] signs b binary_delay
  typed = record {
    inputs = ap length fed;
    params = ap (map type_of) starts;
    joined = subst (λ l. Joined [] signs l (Binary ∷ [])) (sym fed) (joined_one [] signs (Output 0) Binary refl);
  }

  placing : Placing (net (b ∷ []) signs) (0 ∷ [])
  placing zero h = (record { block = omega arith; fresh = refl; allowed = λ f. absurd (both_ways _ f refl) }, λ u lt. absurd (omega arith))
  placing (suc i) h = absurd (omega arith)

  pub alone : Sound [] (b ∷ []) signs (0 ∷ [])
  alone = record {
    count = refl;
    typed = pairs_at (RightTypes [] signs) (b ∷ []) signs (typed, tt);
    orders = (arranged (net (b ∷ []) signs) (0 ∷ []) placing (λ v h. in_here v 0 [] (omega arith))).orders;
    placing = placing;
  }

pub one_block : (bs : List Block) (m : BlockOf) → map block_means bs ≡ m ∷ [] → (b : Block) × (bs ≡ b ∷ []) × (block_means b ≡ m)
one_block [] m e = let z : ◌≡◌ {A = ℕ} 0 1 = cc in absurd (omega arith)
one_block (b ∷ []) m e = (b, refl, cc)
one_block (b ∷ c ∷ bs) m e = let z : ◌≡◌ {A = ℕ} 0 1 = cc in absurd (omega arith)

pub built_in_sound : (d : Draft) (ss : List Signature) (order : List ℕ) → means d ≡ built_in → ss ≡ signs → order ≡ 0 ∷ []
    → Sound (vec_items d.columns) (vec_items d.blocks) ss order
built_in_sound d ss order e p q =
    subst (λ cs. Sound cs (vec_items d.blocks) ss order) (sym (ap (λ (m : DraftOf). m.columns) e))
    (subst₂ (Sound [] (vec_items d.blocks)) (sym p) (sym q) (go (one_block (vec_items d.blocks) _ (ap (λ (m : DraftOf). m.blocks) e))))
  where
    go : (b : Block) × (vec_items d.blocks ≡ b ∷ []) × (block_means b ≡ record { kind = 1; sources = Output 0 ∷ []; params = Values.Binary false ∷ []; name = [] })
        → Sound [] (vec_items d.blocks) signs (0 ∷ [])
    go b =
        subst (λ bs. Sound [] bs signs (0 ∷ [])) (sym b.1)
        (alone b.0 (ap (λ (m : BlockOf). m.sources) b.2) (ap (λ (m : BlockOf). m.params) b.2))
