-- `plan::in_numbers` meets its contract, accepted and refused. Assumes nothing.
use Rattle.plan.specs.Told.{refusal_of}
use Rattle.plan.specs.Numbers.{in_numbers_def}
use Rattle.plan.proofs.InNumbers.{none_at_all}
use Rattle.plan.proofs.in_numbers.Goals as goal

pub returns-in-Ok : goal.returns-in-Ok
unfolding in_numbers_def
returns-in-Ok c = rw (c.in-Ok.is, c.unwrap_or.ensures, c.operations-ops.ensures)

pub returns-in-Err : goal.returns-in-Err
unfolding in_numbers_def refusal_of
returns-in-Err c = rw (c.in-Err.is, c.from.ensures, c.operations-ops-in-Err.ensures, c.nothing.ensures, none_at_all)
