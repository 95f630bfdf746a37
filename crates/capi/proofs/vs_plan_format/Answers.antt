-- `capi::vs_plan_format` meets its contract: what the engine planned, in numbers. Assumes nothing.
use Rattle.plan.proofs.InNumbers.{told}
use Rattle.capi.proofs.vs_plan_format.Goals as goal

pub returns : goal.returns
returns c =
    let p = c.plan_format-planned in
    let n = c.in_numbers.ensures in
    (told _ p.result p.ensures.same n, p.ensures.kept, record { planned = p.result; plans = p.ensures; same = n })
