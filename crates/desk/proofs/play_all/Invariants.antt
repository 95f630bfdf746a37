-- `desk::play_all` meets its contract. The loop's invariant: the lines of the steps before this place are written, and what is left of the text is that of the steps
-- from here on, on the image as it is and after so many erases.
-- Assumes nothing.
use Rattle.std.proofs.Common.{◌≡◌, ◌+◌, ◌*◌, ◌-◌, ◌^◌, ◌≤◌, length}
use Rattle.model.specs.Image.{block}
use Rattle.desk.specs.Season.{season_text}
use Rattle.desk.proofs.Underway.{Underway}
use Rattle.desk.proofs.play_all.Given as goal

abbrev pub invariant-loop : goal.invariant-loop
invariant-loop l =
    (l.next ≤ 92 * l.counter)
    × (l.erases ≤ 2 ^ 21 * l.counter)
    × (length l.image ≡ block * (2 * l.blocks + 1))
    × (length l.out ≡ length l.initial.out)
    × Underway l.script l.blocks (season_text l.script) (l.count - l.counter) l.at l.image l.erases l.initial.out l.out l.next
