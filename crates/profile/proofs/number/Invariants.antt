use Prim.Native.Nat.{◌+◌, ◌-◌, ◌^◌, ◌<◌}
use mathlib.Core.Path.{◌≡◌}
use lib.ListN.{drop}
use Rattle.model.specs.Profile.{number}
use Rattle.profile.proofs.Numbers.{shifted}
use Rattle.profile.proofs.number.Given as goal

abbrev pub invariant-loop-i : goal.invariant-loop-i
invariant-loop-i l =
    (l.next ≡ l.at + l.i) × (l.weight ≡ 128 ^ l.i) × (l.value < l.weight) × (number 3 (drop l.at l.s) ≡ shifted l.i l.weight l.value (number (3 - l.i) (drop l.next l.s)))
