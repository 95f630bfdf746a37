-- `limits::is_listed` meets its contract. The loop's invariant: the number is listed just if it is at one of the places in use from `i` on. Assumes nothing.
use Prim.Native.Nat.{min, ◌+◌, ◌*◌}
use mathlib.Core.Path.{◌≡◌}
use lib.Dec.{eqb}
use Rattle.model.specs.Lists.{u32_at}
use Rattle.model.proofs.Tables.{any_from}
use Rattle.limits.proofs.is_listed.Given as goal

abbrev pub invariant-loop-i : goal.invariant-loop-i
invariant-loop-i l =
    any_from (λ j. eqb l.n (u32_at l.t (40 + 4 * j))) (min l.count 8) 0 ≡ any_from (λ j. eqb l.n (u32_at l.t (40 + 4 * j))) (min l.count 8) l.i
