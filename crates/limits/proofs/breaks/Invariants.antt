-- `limits::breaks` meets its contract. The loop's invariant: a rule for the name is broken just if one of those in use from `i` on is. Assumes nothing.
use Prim.Native.Nat.{min}
use mathlib.Core.Path.{◌≡◌}
use mathlib.Core.List.{◌++◌}
use Rattle.model.specs.Name.{keyed}
use Rattle.model.specs.Limits.{limit_at}
use Rattle.model.proofs.Tables.{any_from}
use Rattle.limits.specs.Broken.{breaks_for}
use Rattle.limits.proofs.breaks.Given as goal

abbrev pub invariant-loop-i : goal.invariant-loop-i
invariant-loop-i l =
    any_from (λ j. breaks_for (keyed l.name l.vendor) l.stands (l.old ++ l.own) (limit_at l.limits j)) (min l.rules 32) 0
    ≡ any_from (λ j. breaks_for (keyed l.name l.vendor) l.stands (l.old ++ l.own) (limit_at l.limits j)) (min l.rules 32) l.i
