use Rattle.std.proofs.Common.{rules, sym, subst}
use Rattle.packed.specs.Load.{Unloaded}
use Rattle.packed.proofs.Relaying.{relays}
use Rattle.packed.proofs.loading.load.Goals as goal

pub returns-in-Err : goal.returns-in-Err
returns-in-Err g c =
    subst (Unloaded (g.L.BlockLibrary.meaning c.args.library.now) c.args.file.now) (sym c.unaccepted.ensures)
    (relays (g.L.BlockLibrary.meaning c.args.library.now) c.args.file.now c.in_ok-draft.draft c.in-Err.rejected.error (search rules) c.in-Err.ensures.error)
