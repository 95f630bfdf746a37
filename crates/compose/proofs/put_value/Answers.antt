-- `compose::put_value` meets its contract: one copy where the entry lies within region and buffer, else field by field; and no entry's bytes are more than its size.
-- Assumes nothing.
use native.Mathlib.Omega.{arith}
use Rattle.compose.proofs.Carried.{value-short}
use Rattle.compose.proofs.put_value.Goals as goal

pub returns-then-lies_within-2 : goal.returns-then-lies_within-2
returns-then-lies_within-2 c =
    let p = c.args.placed in
    let w = c.carry.ensures in
    (w, omega (arith, w.place, value-short c.args.region.now p.at p.entry))

pub returns : goal.returns
returns c =
    let p = c.args.placed in
    let w = c.put_cut.ensures in
    (w, omega (arith, w.place, value-short c.args.region.now p.at p.entry))
