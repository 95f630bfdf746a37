-- `records::look_through` meets its contract. The loop's invariant: what is told of all records is what comes of going on, from what is told now,
-- through the records left. Assumes nothing.
use Prim.Native.Nat.{◌≤◌}
use mathlib.Core.Path.{◌≡◌}
use lib.ListN.{drop}
use Rattle.records.specs.Passed.{unread, through}
use Rattle.records.proofs.look_through.Given as goal

abbrev pub invariant-loop-i : goal.invariant-loop-i
invariant-loop-i l = (l.l.used ≤ l.i) × (through unread 0 l.records ≡ through l.l l.i (drop l.i l.records))
