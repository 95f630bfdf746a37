-- `planner::items::put_after` meets its contract: what the items store is after the values that stay. Assumes nothing.
use lib.ListN.{length}
use Rattle.compose.specs.Compose.{values_but}
use Rattle.profile.specs.Reader.{requests_in}
use Rattle.planner.specs.Asked.{stored_by}
use Rattle.planner.proofs.Stored.{after-asked, after-wrote}
use Rattle.planner.proofs.items.put_after.Goals as goal

pub put_items-requires : goal.put_items-requires
put_items-requires c =
    let a = c.args in
    let k =
    after-asked (length a.region.now) (values_but a.leave a.region.now) (stored_by (requests_in a.file.now a.p) a.stores) c.put_values-next.ensures c.requires.2 in
    (k.0, c.requires.1, k.1)

pub returns : goal.returns
returns c =
    let a = c.args in
    after-wrote (length a.region.now) (values_but a.leave a.region.now) (stored_by (requests_in a.file.now a.p) a.stores) c.put_values-next.ensures
    c.put_items.ensures
