use Prim.Native.Nat.{◌*◌, ◌≤◌}
use Rattle.decision.specs.Profile.{told_of, limits_of, ItemsPass}
use Rattle.decision.proofs.Passing.{passed}
use Rattle.decision.proofs.items.weigh_items.Given as goal

abbrev pub invariant-loop-i : goal.invariant-loop-i
invariant-loop-i l =
    (l.gone ≤ 28672 * l.i)
    × (l.comes ≤ 2236 * l.i)
    × ItemsPass (told_of l.said l.held l.locks) (limits_of l.said l.limits) (passed l.file l.list l.i) l.region l.leave l.stores l.gone l.comes
