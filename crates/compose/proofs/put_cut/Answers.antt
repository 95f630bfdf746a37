-- `compose::put_cut` meets its contract: what is read of the entry makes up its value, and none of it is longer than the region. Assumes nothing.
use native.Mathlib.Omega.{arith}
use mathlib.Core.Path.{◌∙◌}
use mathlib.Core.List.{append-nil}
use Rattle.output.proofs.Writing.{wrote_as}
use Rattle.model.specs.Layout.{authenticated}
use Rattle.values.proofs.Sizes.{short}
use Rattle.compose.proofs.Carried.{entry_value, stamp-short}
use borrow.Author.Rules.{rules}
use Rattle.compose.proofs.put_cut.Goals as goal

pub put_entry-requires : goal.put_entry-requires
put_entry-requires c =
    let a = c.args in
    let s = short authenticated a.region.now a.placed.at a.placed.entry c.name_of-name.ensures c.vendor_of-vendor.ensures c.data_of-data.ensures in
    (omega arith, omega (arith, stamp-short a.region.now a.placed.at c.stamp_of-stamp.ensures), omega (arith, s.name-short), omega (arith, s.vendor-short), omega (arith, s.bytes-short), search rules)

pub returns : goal.returns
returns c =
    let a = c.args in
    let e = append-nil c.data_of-data.result.now ∙ c.data_of-data.ensures in
    let w = c.put_entry.ensures in
    wrote_as (entry_value a.region.now a.placed.at a.placed.entry c.stamp_of-stamp.ensures c.name_of-name.ensures c.vendor_of-vendor.ensures e) w
