-- `desk::script::step` meets its contract: what comes after the kind that was read. Assumes nothing.
use Rattle.std.proofs.Common.{◌∙◌}
use Rattle.desk.specs.Script.{kind_step, step_at}
use Rattle.desk.proofs.Steps.{no-number-there, number-there}
use Rattle.desk.proofs.script.step.Goals as goal

pub returns-in_err-value : goal.returns-in_err-value
unfolding step_at
returns-in_err-value c =
    let a = c.args in
    let x = c.number in
    rw c.from_residual.ensures (no-number-there kind_step a.s.now a.at x.result x.ensures.0 c.in_err-value.was, tt)

pub returns : goal.returns
unfolding step_at
returns c =
    let a = c.args in
    let x = c.number in
    (c.of_kind.ensures.0 ∙ number-there kind_step a.s.now a.at x.result x.ensures.0 _ c.in_ok-value.was, c.of_kind.ensures.1)
