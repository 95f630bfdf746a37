-- `planner::put::in_tail` meets its contract: the entry stands at the content's front. Assumes nothing.
use native.Mathlib.Omega.{arith}
use mathlib.Core.Path.{◌≡◌, sym}
use lib.ListN.{length, length-append}
use Rattle.planner.proofs.Ready.{value-short}
use Rattle.planner.proofs.Tail.{tail-asked, tail-planned}
use borrow.Author.Rules.{rules}
use Rattle.planner.proofs.put.in_tail.Goals as goal

pub put_entry-requires : goal.put_entry-requires
put_entry-requires c =
    let h = value-short _ c.requires.0.ready c.requires.0.room in
    let l = length-append c.args.old.now c.args.own.now in
    let st : length c.args.stamp.now ≡ 16 = search rules in
    let ve : length c.args.vendor.now ≡ 16 = search rules in
    (omega arith, omega arith, omega arith, omega arith, omega arith, omega arith)

pub tail_write-plan-requires : goal.tail_write-plan-requires
tail_write-plan-requires c =
    let l = length-append c.args.old.now c.args.own.now in
    let t = tail-asked c.requires.0 c.requires.1 in
    (t.0, t.1, omega (arith, t.2))

pub returns : goal.returns
returns c =
    let ve : length c.args.vendor.now ≡ 16 = search rules in
    tail-planned c.requires.0 c.requires.1 ve c.put_entry.ensures c.requires.2 (sym (length-append c.args.old.now c.args.own.now)) c.tail_write-plan.ensures
