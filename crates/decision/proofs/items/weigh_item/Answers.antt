-- `decision::items::weigh_item` meets its contract: it is weighed by what it comes to before room. Assumes nothing.
use Rattle.model.specs.Name.{keyed}
use Rattle.decision.specs.Decision.{request_of}
use Rattle.decision.specs.Profile.{limits_of}
use Rattle.decision.proofs.Weighing.{item-breaks, item-weighed}
use Rattle.std.proofs.lemmas.Result.{err_from_is_err_and}
use Rattle.decision.proofs.items.weigh_item.Goals as goal

pub returns-in_err-tried : goal.returns-in_err-tried
returns-in_err-tried c =
    let a = c.args in
    let q = request_of a.name.now a.vendor.now a.attributes a.bytes.now 0 0 in
    let e = err_from_is_err_and c.from_residual.result c.from_residual.ensures.1 in
    rw (e.1, e.2)
    (item-breaks a.region.now c.requires.0 q c.find-old.result c.find-old.ensures a.t (limits_of a.t a.limits.now (keyed a.name.now a.vendor.now))
    c.in_err-tried.field-0.0 c.in_err-tried.ensures)

pub returns : goal.returns
returns c =
    let a = c.args in
    let q = request_of a.name.now a.vendor.now a.attributes a.bytes.now 0 0 in
    let tried = c.in_ok-tried in
    item-weighed a.region.now c.requires.0 q c.find-old.result c.find-old.ensures c.requires.1
    a.t (limits_of a.t a.limits.now (keyed a.name.now a.vendor.now))
    tried.tried.what tried.tried.size tried.ensures.0 tried.ensures.1 tried.ensures.2 c.weight.result c.weight.ensures
