-- `region::sorted::place_of` meets its contract. The loop's invariant: the halvings left come to what all come to. Assumes nothing.
use Rattle.std.proofs.Common.{◌≡◌, ℕ, ◌+◌, ◌-◌, ◌*◌, ◌≤◌, Bool, List, get_or}
use Rattle.model.specs.declared.Layout.{Layout}
use Rattle.region.specs.Sorted.{is_before_def, halving}
use Rattle.region.proofs.sorted.place_of.Given as goal

abbrev before : Layout → List ℕ → List ℕ → ℕ → List ℕ → ℕ → Bool
before y r table state key i = is_before_def y r (get_or table i 65535) state key

abbrev pub invariant-loop : goal.invariant-loop
invariant-loop l =
    (l.step ≤ 511) × (l.low + 512 * (10 - l.counter) ≤ 5120) × (halving (before l.y l.region l.table l.state l.key) 10 511 0 ≡ halving (before l.y l.region l.table l.state l.key) (10 - l.counter) l.step l.low)
