-- `session::is_locked` meets its contract. The loop's invariant: the name is held just if one of the places in use from `i` on holds it. Assumes nothing.
use Prim.Native.Nat.{ℕ, min}
use native.Mathlib.Omega.{arith}
use mathlib.Core.Path.{sym, ◌∙◌}
use mathlib.Core.Bool.{Bool}
use lib.ListN.{get_or}
use Rattle.model.specs.Name.{Key}
use Rattle.model.proofs.Tables.{from_end, from-here, from_next}
use Rattle.session.specs.Places.{holds}
use Rattle.session.proofs.Places.{held-places}
use Rattle.session.proofs.is_locked.Goals as goal

pub returns-then-is_place : goal.returns-then-is_place
returns-then-is_place c =
    let a = c.args in
    let k : Key = record { name = a.name.now; vendor = a.vendor.now } in
    let f : ℕ → Bool = λ j. holds a.locks.now j (get_or a.sizes j 0) k in
    sym (held-places a.sizes a.locks.now a.used k ∙ c.loop-i.invariant ∙ from-here f (min a.used 16) c.loop-i.i (omega arith) (sym c.if-is_place.ensures))

pub loop-i-preserved : goal.loop-i-preserved
loop-i-preserved c =
    let a = c.args in
    let k : Key = record { name = a.name.now; vendor = a.vendor.now } in
    let f : ℕ → Bool = λ j. holds a.locks.now j (get_or a.sizes j 0) k in
    c.loop-i.invariant ∙ from_next f (min a.used 16) c.loop-i.i (omega arith) (sym c.if-is_place.ensures)

pub returns : goal.returns
returns c =
    let a = c.args in
    let k : Key = record { name = a.name.now; vendor = a.vendor.now } in
    let f : ℕ → Bool = λ j. holds a.locks.now j (get_or a.sizes j 0) k in
    sym (held-places a.sizes a.locks.now a.used k ∙ c.loop-i.invariant ∙ from_end f (min a.used 16) c.loop-i.i (omega arith))
