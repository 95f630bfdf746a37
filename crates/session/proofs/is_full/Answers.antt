-- `session::is_full` meets its contract: no place free, or eight of the side's. Assumes nothing.
use Prim.Native.Nat.{min}
use native.Mathlib.Omega.{arith}
use mathlib.Core.Path.{◌≡◌, sym}
use mathlib.Core.Bool.{true, false, or-true, or-false}
use lib.Dec.{leb}
use borrow.Author.Tests.{le-leb, lt-leb}
use Rattle.session.specs.Places.{count_from, full}
use Rattle.session.proofs.is_full.Goals as goal

pub returns-then-used-ge16 : goal.returns-then-used-ge16
unfolding full
returns-then-used-ge16 c =
    let a = c.args in
    let h : leb 16 (min a.used 16) ≡ true = le-leb 16 (min a.used 16) (omega arith) in
    let t : leb 16 a.used ≡ true = le-leb 16 a.used (omega arith) in
    rw (h, t) (sym (or-true (leb 8 (count_from a.guid.now a.modem a.sizes a.locks.now a.used 0))))

pub returns-else-used-ge16 : goal.returns-else-used-ge16
unfolding full
returns-else-used-ge16 c =
    let a = c.args in
    let h : leb 16 (min a.used 16) ≡ false = lt-leb 16 (min a.used 16) (omega arith) in
    rw (h, sym c.locks_of.ensures) (sym (or-false (leb 8 c.locks_of.result)))
