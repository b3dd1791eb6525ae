-- The three rounds together, where the code lends parts of the draft.
use Rattle.std.proofs.Common.{◌≡◌, ℕ, List, length, vec_items, sym, ap, ◌∙◌, subst, subst₂}
use mathlib.Core.Path.{subst₃}
use Rattle.values.specs.declared.scalar.ValueType.{ValueType}
use Rattle.draft.specs.declared.draft.Block.{Block}
use Rattle.draft.specs.declared.draft.Draft.{Draft}
use Rattle.drawing.specs.declared.drawing.Drawing.{Drawing}
use Rattle.drawing.specs.declared.drawing.Rejected.{Rejected}
use Rattle.drawing.specs.declared.fault.CheckFault.{CheckFault}
use Rattle.faults.specs.declared.failure.Failure.{Failure}
use Rattle.faults.specs.declared.failure.Failure.TheVariants.{Fault, NoMemory}
use Rattle.blocks.specs.Library.{Library}
use Rattle.blocks.specs.declared.library.Signature.{Signature}
use Rattle.drawing.specs.Accept.{Accepts, Rejects}
use Rattle.drawing.specs.Faults.{First, Refuses}
use Rattle.drawing.specs.Suits.{Suits, AllFit}
use Rattle.drawing.specs.Tests.{Counted, JoinedBefore, InputFault, Unordered, Planned}
use Rattle.drawing.specs.Net.{Wired, Arranged, Placing}
use Rattle.drawing.specs.Wiring.{net}
use Rattle.drawing.specs.Sound.{Sound}
use Rattle.drawing.proofs.Rounds.{nth_in}
use Rattle.drawing.proofs.Suiting.{suited_is_right, unsuited}
use Rattle.drawing.proofs.Earliest.{counted, first_input, first_loop, wired}

pub joined_moved : (cs cs' : List ValueType) (bs bs' : List Block) (ss ss' : List Signature) → cs' ≡ cs → bs' ≡ bs → ss' ≡ ss
    → JoinedBefore cs' bs' ss' (length bs') → JoinedBefore cs bs ss (length bs)
joined_moved cs cs' bs bs' ss ss' p q r h = subst₃ (λ a b c. JoinedBefore a b c (length b)) p q r h

pub arranged_moved : (bs bs' : List Block) (ss ss' : List Signature) (o : List ℕ) → bs' ≡ bs → ss' ≡ ss → Arranged (net bs' ss') o
    → Arranged (net bs ss) o
arranged_moved bs bs' ss ss' o q r h = subst₂ (λ b c. Arranged (net b c) o) q r h

module _ (f : Library) (cs cs' : List ValueType) (bs bs' : List Block) (ss ss' : List Signature) (p : cs' ≡ cs) (q : bs' ≡ bs)
    (r : ss' ≡ ss) (fit : AllFit f bs ss) where
  pub counted_moved : Counted bs' ss'
  counted_moved = subst₂ Counted (sym q) (sym r) (counted f cs bs ss fit)

  pub signed_moved : length ss' ≡ length bs'
  signed_moved = ap length r ∙ fit.count ∙ sym (ap length q)

  pub refuses_input : (e : CheckFault) → InputFault cs' bs' ss' e → First f cs bs e
  refuses_input e h = first_input f cs bs ss fit e (subst₃ (λ a b c. InputFault a b c e) p q r h)

  module _ (joined : JoinedBefore cs bs ss (length bs)) where
    pub wired_moved : Wired (net bs' ss')
    wired_moved = subst₂ (λ b c. Wired (net b c)) (sym q) (sym r) (wired f cs bs ss fit joined)

    pub refuses_loop : (e : Failure CheckFault) → Unordered (net bs' ss') e → Refuses f cs bs e
    refuses_loop NoMemory h = tt
    refuses_loop (Fault e) h =
        let z = subst₂ (λ b c. Unordered (net b c) (Fault e)) q r h in
        subst (First f cs bs) (sym z.1) (first_loop f cs bs ss fit joined z.0 z.2)

-- what the drawing keeps
pub sound : (f : Library) (cs : List ValueType) (bs : List Block) (ss : List Signature) (o : List ℕ) → AllFit f bs ss
    → JoinedBefore cs bs ss (length bs) → Arranged (net bs ss) o → Sound cs bs ss o
sound f cs bs ss o fit joined h = record {
  count = fit.count;
  typed = λ b k s at is. record { inputs = (fit.fit b k s at is).inputs; params = (fit.fit b k s at is).params; joined = joined b k s (nth_in bs b k at) at is };
  orders = h.orders;
  placing = h.placing;
}

-- the answers of the check, where it read the draft's parts through its accessors
module _ (L : Library) (d : Draft) (cs : List ValueType) (bs : List Block) (p : cs ≡ vec_items d.columns) (q : bs ≡ vec_items d.blocks) where
  pub accepts : (r : Drawing) → r.draft ≡ d → Planned L cs bs (vec_items r.signatures) (vec_items r.order) → Accepts L d r
  accepts r e h =
      let suited : Suits L (vec_items d.columns) (vec_items d.blocks) = subst₂ (Suits L) p q h.suits in
      record {
        draft = e;
        suits = suited;
        sound = suited_is_right L (vec_items d.columns) (vec_items d.blocks) suited;
        signatures = subst (λ b. AllFit L b (vec_items r.signatures)) q h.signatures;
        order = subst (λ b. Placing (net b (vec_items r.signatures)) (vec_items r.order)) q h.keeps.placing;
        keeps = subst₂ (λ c b. Sound c b (vec_items r.signatures) (vec_items r.order)) p q h.keeps;
      }

  pub rejects : (r : Rejected) → r.draft ≡ d → Refuses L cs bs r.error → Rejects L d r
  rejects r e h =
      let refused : Refuses L (vec_items d.columns) (vec_items d.blocks) r.error = subst₂ (λ c b. Refuses L c b r.error) p q h in
      record { draft = e; unsuited = unsuited L (vec_items d.columns) (vec_items d.blocks) r.error refused; error = refused }
