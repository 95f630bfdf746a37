-- `region::sorted::key_before` meets its contract. The loop's invariant: the words left, and then the last, decide as all do. Assumes nothing.
use Rattle.std.proofs.Common.{◌≡◌, ◌-◌, ◌*◌}
use Rattle.region.specs.Sorted.{words_before, key_before_def}
use Rattle.region.proofs.sorted.key_before.Given as goal

abbrev pub invariant-loop-i : goal.invariant-loop-i
invariant-loop-i l = key_before_def l.a l.b ≡ words_before l.a l.b (l.i-end - l.i) (8 * l.i)
