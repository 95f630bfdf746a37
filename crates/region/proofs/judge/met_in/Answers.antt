-- `region::judge::met_in` meets its contract: both walks pass all entries. Assumes nothing.
use Rattle.region.proofs.Meetings.{met-walked}
use Rattle.region.proofs.judge.met_in.Goals as goal

pub returns : goal.returns
returns c =
    let a = c.args in
    met-walked a.y a.region.now a.key.now c.from-name.ensures c.cut-vendor.ensures
    c.first_before.ensures c.first_before-2.ensures
