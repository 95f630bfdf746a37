-- `planner::startup::work_left` meets its contract: erased where it is not idle, and then no record is used. Assumes nothing.
use mathlib.Core.Path.{◌∙◌, sym}
use Rattle.planner.specs.Compactions.{work_step_def}
use Rattle.planner.proofs.startup.work_left.Goals as goal

pub returns-then-is_idle : goal.returns-then-is_idle
unfolding work_step_def
returns-then-is_idle c = let h = sym c.is_idle.ensures ∙ c.if-is_idle.true in (rw h, rw h)

pub returns-else-is_idle : goal.returns-else-is_idle
unfolding work_step_def
returns-else-is_idle c = let h = sym c.is_idle.ensures ∙ c.if-is_idle.false in (rw h, rw h)
