-- `decision::items::weigh_at` meets its contract: the item is read at its place. Assumes nothing.
use native.Mathlib.Omega.{arith}
use Rattle.decision.proofs.Weighing.{item-read}
use Rattle.decision.proofs.items.weigh_at.Goals as goal

pub guid_of-vendor-requires : goal.guid_of-vendor-requires
guid_of-vendor-requires c = omega (arith, c.requires.2)

pub weigh_item-requires : goal.weigh_item-requires
weigh_item-requires c =
    let p = c.requires in
    (p.0, p.1)

pub returns : goal.returns
returns c =
    let a = c.args in
    let name = c.name_of-name in
    let vendor = c.guid_of-vendor in
    let bytes = c.data_of-bytes in
    let terms = c.told-terms in
    item-read a.said a.held a.locks.now a.limits.now a.file.now a.t name.result.now vendor.result bytes.result.now
    name.ensures vendor.ensures bytes.ensures terms.result a.region.now c.weigh_item.result terms.ensures c.weigh_item.ensures
