use Prim.Native.Nat.{◌+◌, ◌≤◌}
use mathlib.Core.Path.{◌≡◌}
use Rattle.session.specs.Places.{count_from}
use Rattle.session.proofs.locks_of.Given as goal

abbrev pub invariant-loop-place : goal.invariant-loop-place
invariant-loop-place l =
    (l.n ≤ l.place) × (l.n + count_from l.guid l.modem l.sizes l.locks l.most l.place ≡ count_from l.guid l.modem l.sizes l.locks l.most 0)
