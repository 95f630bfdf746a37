-- `planner::items::put_item` meets its contract: the entry of an item's value, or nothing. Assumes nothing.
use native.Mathlib.Omega.{arith}
use Rattle.model.specs.Compact.{joined_in}
use Rattle.output.proofs.Writing.{wrote_none}
use Rattle.planner.proofs.Stored.{item-asked, item-wrote}
use Rattle.planner.proofs.items.put_item.Goals as goal

pub put_entry-requires : goal.put_entry-requires
put_entry-requires c =
    let h = rw c.if-stores.true at c.requires.1 in
    let k = item-asked c.args.file.now c.args.t c.name_of.ensures c.cut-vendor.ensures c.data_of-data.ensures h in
    (c.requires.0, omega arith, k.0, k.1, omega arith, k.2)

pub returns-then-stores : goal.returns-then-stores
returns-then-stores c =
    rw c.if-stores.true
    (item-wrote c.args.file.now c.args.t c.name_of.ensures c.cut-vendor.ensures c.data_of-data.ensures c.put_entry.ensures)

pub returns : goal.returns
unfolding joined_in
returns c = rw c.if-stores.false (wrote_none _ _)
