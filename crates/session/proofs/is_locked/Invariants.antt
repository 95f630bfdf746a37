use Prim.Native.Nat.{min}
use mathlib.Core.Path.{◌≡◌}
use lib.ListN.{get_or}
use Rattle.model.specs.Name.{keyed}
use Rattle.model.proofs.Tables.{any_from}
use Rattle.session.specs.Places.{holds}
use Rattle.session.proofs.is_locked.Given as goal

abbrev pub invariant-loop-i : goal.invariant-loop-i
invariant-loop-i l =
    any_from (λ j. holds l.locks j (get_or l.sizes j 0) (keyed l.name l.vendor)) (min l.count 16) 0
    ≡ any_from (λ j. holds l.locks j (get_or l.sizes j 0) (keyed l.name l.vendor)) (min l.count 16) l.i
