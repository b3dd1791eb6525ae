use Rattle.std.proofs.Common.{◌+◌, ◌≤◌, length, take, vec_items, vec_len, vec_capacity}
use Rattle.sheet.specs.Page.{page}
use Rattle.runs.specs.Chain.{desk, Tells}
use Rattle.runs.proofs.runs.follow.Given as goal

abbrev pub invariant-loop-call : goal.invariant-loop-call
invariant-loop-call g l =
    Tells g.L.BlockLibrary.meaning g.S.KeyframeStore.means l.marks (desk l.initial.player (page l.initial.sheet) (vec_items l.initial.hand)) (take l.call-index l.calls) (vec_items l.initial.answers) (vec_items l.answers) (desk l.player (page l.sheet) (vec_items l.hand))
    × (vec_len l.answers + length l.calls ≤ vec_capacity l.answers + l.call-index)
    × (vec_len l.hand + length l.calls ≤ vec_capacity l.hand + l.call-index)
