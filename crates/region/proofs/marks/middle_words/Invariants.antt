-- `region::marks::middle_words` meets its contract. The loop's invariant: with the words left the sum comes to that of all. Assumes nothing.
use Rattle.std.proofs.Common.{◌≡◌, ◌+◌, ◌-◌, ◌*◌}
use Rattle.region.specs.Marks.{words_from, middle_words_def}
use Rattle.region.proofs.marks.middle_words.Given as goal

abbrev pub invariant-loop-i : goal.invariant-loop-i
invariant-loop-i l = middle_words_def l.key ≡ words_from l.key (l.i-end - l.i) (22 + 7 * l.i) l.sum
