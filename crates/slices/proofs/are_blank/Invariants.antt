-- `slices::are_blank` meets its contract. The loop's invariant: every byte of the four is FF if the bytes passed, joined by "and", are FF and every byte left is.
-- Assumes nothing.
use Prim.Native.Nat.{◌≤◌}
use mathlib.Core.Path.{◌≡◌}
use mathlib.Core.Bool.{◌&&◌}
use lib.ListN.{drop}
use lib.Dec.{eqb}
use Rattle.model.specs.Lists.{all_ff}
use Rattle.slices.proofs.are_blank.Given as goal

abbrev pub invariant-loop-i : goal.invariant-loop-i
invariant-loop-i l =
    (l.both ≤ 0xFF)
    × ((all_ff l.a && (all_ff l.b && (all_ff l.c && all_ff l.d)))
    ≡ (eqb l.both 0xFF && (all_ff (drop l.i l.a) && (all_ff (drop l.i l.b) && (all_ff (drop l.i l.c) && all_ff (drop l.i l.d))))))
