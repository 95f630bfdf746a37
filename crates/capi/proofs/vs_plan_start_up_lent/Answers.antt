-- `capi::vs_plan_start_up_lent` meets its contract: the plan with what the session's bytes give, in numbers. Assumes nothing.
use mathlib.Core.Path.{sym}
use Rattle.model.specs.Lent.{session_of}
use Rattle.plan.proofs.InNumbers.{told}
use Rattle.capi.proofs.vs_plan_start_up_lent.Goals as goal

pub returns : goal.returns
returns c =
    let u = (session_of c.args.session.now).setup in
    let p = c.plan_start_up-told.ensures u (sym c.share-share.ensures, sym c.records-records.ensures, sym c.tenant-tenant.ensures) in
    let n = c.in_numbers.ensures in
    (told _ c.plan_start_up-told.result p.same n, p.kept, record { planned = c.plan_start_up-told.result; plans = p; same = n })
