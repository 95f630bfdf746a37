-- `capi::vs_plan_start_up` meets its contract: the plan with what it is given, in numbers. Assumes nothing.
use mathlib.Core.Path.{refl}
use Rattle.plan.proofs.InNumbers.{told}
use Rattle.capi.proofs.vs_plan_start_up.Goals as goal

pub returns : goal.returns
returns c =
    let p = c.plan_start_up-planned.ensures c.args.setup (refl, refl, refl) in
    let n = c.in_numbers.ensures in
    (told _ c.plan_start_up-planned.result p.same n, p.kept, record { planned = c.plan_start_up-planned.result; plans = p; same = n })
