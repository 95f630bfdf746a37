-- `planner::joint::put_pk` meets its contract: the entry of PK's value, or nothing. Assumes nothing.
use borrow.Author.Rules.{rules}
use native.Mathlib.Omega.{arith}
use mathlib.Core.Path.{◌≡◌}
use lib.ListN.{length}
use Rattle.model.specs.Compact.{joined_in}
use Rattle.output.proofs.Writing.{wrote_none}
use Rattle.planner.proofs.Joined.{pk-asked, pk-wrote}
use Rattle.planner.proofs.joint.put_pk.Goals as goal

pub put_entry-requires : goal.put_entry-requires
put_entry-requires c =
    let a = c.args in
    let h = rw c.if-comes.true at c.requires.1 in
    let k = pk-asked a.name.now a.vendor.now a.attributes a.stamp.now a.old.now a.own.now h in
    let st : length a.stamp.now ≡ 16 = search rules in
    let ve : length a.vendor.now ≡ 16 = search rules in
    (omega (arith, c.requires.0), omega arith, k.0, omega arith, k.1, k.2)

pub returns-then-comes : goal.returns-then-comes
returns-then-comes c =
    let a = c.args in
    rw c.if-comes.true
    (pk-wrote a.name.now a.vendor.now a.attributes a.stamp.now a.old.now a.own.now c.put_entry.ensures)

pub returns : goal.returns
unfolding joined_in
returns c = rw c.if-comes.false (wrote_none _ _)
