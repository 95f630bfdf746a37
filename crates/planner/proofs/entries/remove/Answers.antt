-- `planner::entries::remove` meets its contract, by what was found. Assumes nothing.
use Rattle.planner.specs.Entries.{mark_found_def, remove_step}
use Rattle.planner.proofs.EntryPlans.{on-found}
use mathlib.Core.Path.{◌∙◌}
use Rattle.planner.proofs.entries.remove.Goals as goal

pub returns-in-Some : goal.returns-in-Some
unfolding remove_step
returns-in-Some c =
    let p = c.args.places in
    c.mark_found.ensures ∙ on-found p.added (mark_found_def p.added 0x3D) (mark_found_def p.replacing 0x3C) c.in-Some.is

pub returns-in-None : goal.returns-in-None
unfolding remove_step
returns-in-None c = rw c.in-None.is c.mark_found-in-None.ensures
