use Rattle.std.proofs.Common.{length, vec_items, refl}
use Rattle.std.proofs.lemmas.Result.{err_from_is_err_and}
use Rattle.drawing.specs.Suits.{AllFit}
use Rattle.drawing.specs.Tests.{JoinedBefore}
use Rattle.drawing.specs.Net.{Arranged}
use Rattle.drawing.specs.Wiring.{net}
use Rattle.drawing.proofs.Accepting.{joined_moved, arranged_moved, counted_moved, signed_moved, refuses_input, wired_moved, refuses_loop, sound}
use Rattle.drawing.proofs.Suiting.{suits}
use Rattle.drawing.proofs.checking.judge.Given as given
use Rattle.drawing.proofs.checking.judge.Goals as goal
use Rattle.drawing.proofs.checking.judge.Goals.{In_ok-signatures, In_ok-check_inputs, In_ok-order}

-- what the first round gave
fits : (g : given.Over) (c : In_ok-signatures g)
    → AllFit (g.L.BlockLibrary.meaning c.args.library.now) c.args.blocks.now (vec_items c.in_ok-signatures.signatures)
fits g c = c.in_ok-signatures.ensures

-- what the second round gave
joins : (g : given.Over) (c : In_ok-check_inputs g)
    → JoinedBefore c.args.columns.now c.args.blocks.now (vec_items c.in_ok-signatures.signatures) (length c.args.blocks.now)
joins g c = joined_moved _ _ _ _ _ _ refl refl c.deref.ensures.value c.in_ok-check_inputs.ensures

-- what the third round gave
orders : (g : given.Over) (c : In_ok-order g)
    → Arranged (net c.args.blocks.now (vec_items c.in_ok-signatures.signatures)) (vec_items c.in_ok-order.order)
orders g c = arranged_moved _ _ _ _ _ refl c.deref.ensures.value c.in_ok-order.ensures

pub returns-in_err-signatures : goal.returns-in_err-signatures
returns-in_err-signatures g c =
    let p = err_from_is_err_and c.from_residual.result c.from_residual.ensures.1 in
    rw (p.1, p.2) (c.in_err-signatures.ensures c.args.columns.now)

pub invariant_of-signed : goal.invariant_of-signed
invariant_of-signed g c = record {
  signed = signed_moved (g.L.BlockLibrary.meaning c.args.library.now) c.args.columns.now _ _ _ _ _ refl refl c.deref.ensures.value
      (fits g (goal.at.invariant_of-signed g c).In_ok-signatures);
}

pub check_inputs-requires : goal.check_inputs-requires
check_inputs-requires g c =
    counted_moved (g.L.BlockLibrary.meaning c.args.library.now) c.args.columns.now _ _ _ _ _ refl refl c.deref.ensures.value
    (fits g (goal.at.check_inputs-requires g c).In_ok-signatures)

pub returns-in_err-check_inputs : goal.returns-in_err-check_inputs
returns-in_err-check_inputs g c =
    let p = err_from_is_err_and c.from_residual-in_err-check_inputs.result c.from_residual-in_err-check_inputs.ensures.1 in
    rw (p.1, p.2)
    (refuses_input (g.L.BlockLibrary.meaning c.args.library.now) c.args.columns.now _ _ _ _ _ refl refl c.deref.ensures.value
    (fits g (goal.at.returns-in_err-check_inputs g c).In_ok-signatures) _ c.in_err-check_inputs.ensures)

pub arrange-requires : goal.arrange-requires
arrange-requires g c =
    wired_moved (g.L.BlockLibrary.meaning c.args.library.now) c.args.columns.now _ _ _ _ _ refl refl c.deref.ensures.value
    (fits g (goal.at.arrange-requires g c).In_ok-signatures)
    (joins g (goal.at.arrange-requires g c).In_ok-check_inputs)

pub returns-in_err-order : goal.returns-in_err-order
returns-in_err-order g c =
    let p = err_from_is_err_and c.from_residual-in_err-order.result c.from_residual-in_err-order.ensures.1 in
    rw (p.1, p.2)
    (refuses_loop (g.L.BlockLibrary.meaning c.args.library.now) c.args.columns.now _ _ _ _ _ refl refl c.deref.ensures.value
    (fits g (goal.at.returns-in_err-order g c).In_ok-signatures)
    (joins g (goal.at.returns-in_err-order g c).In_ok-check_inputs) _ c.in_err-order.ensures)

pub returns : goal.returns
returns g c =
    let fit = fits g (goal.at.returns g c).In_ok-signatures in
    let join = joins g (goal.at.returns g c).In_ok-check_inputs in
    let order = orders g (goal.at.returns g c).In_ok-order in
    record {
      suits = suits (g.L.BlockLibrary.meaning c.args.library.now) c.args.columns.now c.args.blocks.now _ fit join order.unlooped;
      signatures = fit;
      keeps = sound (g.L.BlockLibrary.meaning c.args.library.now) _ _ _ _ fit join order;
    }
