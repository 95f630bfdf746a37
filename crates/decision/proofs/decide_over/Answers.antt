-- `decision::decide_over` meets its contract: room is asked last, of what the other rules leave, and of both changes where PlatMode changes too. Assumes nothing.
use mathlib.Core.Path.{sym, ◌∙◌}
use Rattle.std.proofs.lemmas.Result.{err_from_is_err_and}
use Rattle.model.specs.Name.{keyed}
use Rattle.model.specs.Limits.{limits_in}
use Rattle.decision.specs.Decision.{request_of}
use Rattle.decision.proofs.Assembled.{counts-here}
use Rattle.decision.proofs.JointDecision.{broken-before, alone-broken, alone-joined, joint-asked, joint-broken, joint-joined}
use Rattle.decision.proofs.decide_over.Goals as goal

pub returns-in_err-what : goal.returns-in_err-what
returns-in_err-what c =
    let a = c.args in
    let p = c.requires in
    let k = keyed a.name.now a.vendor.now in
    let q = request_of a.name.now a.vendor.now a.asking.attributes a.bytes.now a.asking.presence a.asking.verdict in
    let ls = limits_in a.limits.now a.t.rules k in
    let e = err_from_is_err_and c.from_residual.result c.from_residual.ensures.1 in
    rw (e.1, e.2) (broken-before a.t q a.region.now p.sound_region a.old p.found_value ls c.in_err-what.field-0.0 c.in_err-what.ensures)

pub roomed-requires-clause-small_put : goal.roomed-requires-clause-small_put
roomed-requires-clause-small_put c =
    let a = c.args in
    let p = c.requires in
    let k = keyed a.name.now a.vendor.now in
    let q = request_of a.name.now a.vendor.now a.asking.attributes a.bytes.now a.asking.presence a.asking.verdict in
    let ls = limits_in a.limits.now a.t.rules k in
    let tried = c.in_ok-what in
    λ e. let j = joint-asked a.t q a.region.now p.sound_region a.old p.found_value ls tried.field-0.what tried.ensures.0 tried.field-0.size tried.ensures.1 p.told_side c.in-Some.mode.at c.in-Some.mode.entry (sym c.in-Some.is ∙ c.found-there.ensures) e in (j.0, tried.ensures.2 e, j.1)

pub returns-in_err-what-in-Some : goal.returns-in_err-what-in-Some
returns-in_err-what-in-Some c =
    let a = c.args in
    let p = c.requires in
    let k = keyed a.name.now a.vendor.now in
    let q = request_of a.name.now a.vendor.now a.asking.attributes a.bytes.now a.asking.presence a.asking.verdict in
    let ls = limits_in a.limits.now a.t.rules k in
    let tried = c.in_ok-what in
    let e = err_from_is_err_and c.from_residual-in_err-what-in-Some.result c.from_residual-in_err-what-in-Some.ensures.1 in
    rw (e.1, e.2)
    (joint-broken a.t q a.region.now p.sound_region a.old p.found_value ls tried.field-0.what tried.ensures.0 tried.field-0.size tried.ensures.1
    p.told_side c.in-Some.mode.at c.in-Some.mode.entry (sym c.in-Some.is ∙ c.found-there.ensures) c.deploys-deploys.result c.deploys-deploys.ensures
    c.in_err-what-in-Some.field-0.0 c.in_err-what-in-Some.ensures)

pub returns-in_ok-what-in-Some : goal.returns-in_ok-what-in-Some
returns-in_ok-what-in-Some c =
    let a = c.args in
    let p = c.requires in
    let k = keyed a.name.now a.vendor.now in
    let q = request_of a.name.now a.vendor.now a.asking.attributes a.bytes.now a.asking.presence a.asking.verdict in
    let ls = limits_in a.limits.now a.t.rules k in
    let tried = c.in_ok-what in
    joint-joined a.t q a.region.now p.sound_region a.old p.found_value ls tried.field-0.what tried.ensures.0 tried.field-0.size tried.ensures.1
    p.told_side c.in-Some.mode.at c.in-Some.mode.entry (sym c.in-Some.is ∙ c.found-there.ensures) c.deploys-deploys.result c.deploys-deploys.ensures
    c.in_ok-what-in-Some.what c.in_ok-what-in-Some.ensures

pub roomed-requires-in-None-clause-short_region : goal.roomed-requires-in-None-clause-short_region
roomed-requires-in-None-clause-short_region c =
    let a = c.args in
    let p = c.requires in
    let q = request_of a.name.now a.vendor.now a.asking.attributes a.bytes.now a.asking.presence a.asking.verdict in
    (p.short_region, counts-here a.t q a.region.now p.sound_region a.old p.found_value)

pub returns-in_err-what-in-None : goal.returns-in_err-what-in-None
returns-in_err-what-in-None c =
    let a = c.args in
    let p = c.requires in
    let k = keyed a.name.now a.vendor.now in
    let q = request_of a.name.now a.vendor.now a.asking.attributes a.bytes.now a.asking.presence a.asking.verdict in
    let ls = limits_in a.limits.now a.t.rules k in
    let tried = c.in_ok-what in
    let e = err_from_is_err_and c.from_residual-in_err-what-in-None.result c.from_residual-in_err-what-in-None.ensures.1 in
    rw (e.1, e.2) (alone-broken a.t q a.region.now p.sound_region a.old p.found_value ls tried.field-0.what tried.ensures.0 tried.field-0.size tried.ensures.1 (sym c.in-None.is ∙ c.found-there.ensures) c.in_err-what-in-None.field-0.0 c.in_err-what-in-None.ensures)

pub returns-in_ok-what-in-None : goal.returns-in_ok-what-in-None
returns-in_ok-what-in-None c =
    let a = c.args in
    let p = c.requires in
    let k = keyed a.name.now a.vendor.now in
    let q = request_of a.name.now a.vendor.now a.asking.attributes a.bytes.now a.asking.presence a.asking.verdict in
    let ls = limits_in a.limits.now a.t.rules k in
    let tried = c.in_ok-what in
    alone-joined a.t q a.region.now p.sound_region a.old p.found_value ls tried.field-0.what tried.ensures.0 tried.field-0.size tried.ensures.1 (sym c.in-None.is ∙ c.found-there.ensures) c.in_ok-what-in-None.what c.in_ok-what-in-None.ensures
