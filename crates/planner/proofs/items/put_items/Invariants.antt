-- `planner::items::put_items` meets its contract: what the items passed store is written, and the rest is still to come. Assumes nothing.
use mathlib.Core.Path.{◌≡◌}
use lib.ListN.{length}
use Rattle.model.specs.Compact.{joined}
use Rattle.output.proofs.Writing.{Partly}
use Rattle.profile.specs.Reader.{requests_in}
use Rattle.planner.specs.Asked.{stored_by}
use Rattle.planner.proofs.Stored.{to_store}
use Rattle.planner.proofs.items.put_items.Given as goal

abbrev pub invariant-loop-i : goal.invariant-loop-i
invariant-loop-i l =
    (length l.list ≡ 8)
    × (length l.stores ≡ 8)
    × Partly (joined (stored_by (requests_in l.file l.fn.p) l.stores)) (to_store l.file l.list l.fn.p.count l.stores l.i) l.at l.initial.out l.out l.next
