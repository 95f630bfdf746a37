-- `desk::script::are_steps` meets its contract. The loop's invariant: whether the steps from the first place on are there is whether those from this place on are.
-- Assumes nothing.
use Rattle.std.proofs.Common.{◌≡◌, ◌-◌, drop}
use Rattle.model.specs.Lists.{is_some}
use Rattle.desk.specs.Script.{steps_at}
use Rattle.desk.proofs.script.are_steps.Given as goal

abbrev pub invariant-loop : goal.invariant-loop
invariant-loop l = is_some (steps_at l.count (drop l.from l.s)) ≡ is_some (steps_at (l.count - l.counter) (drop l.at l.s))
