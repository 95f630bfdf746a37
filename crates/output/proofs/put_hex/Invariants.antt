-- After so many turns the digits of the first bytes are written.
use Rattle.std.proofs.Common.{◌≡◌, ◌+◌, ◌*◌, length, take}
use Rattle.output.specs.Text.{Wrote, hex_of}
use Rattle.output.proofs.put_hex.Given as goal

abbrev pub invariant-loop-b : goal.invariant-loop-b
invariant-loop-b l =
    (l.next ≡ l.at + 2 * l.b-index) × (length l.out ≡ length l.initial.out) × Wrote (hex_of (take l.b-index l.src)) l.at l.initial.out l.out l.next
