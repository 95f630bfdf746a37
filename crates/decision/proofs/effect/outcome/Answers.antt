-- `decision::effect::outcome` meets its contract: it goes by what the set asks for. Assumes nothing.
use mathlib.Core.Path.{sym}
use Rattle.decision.specs.Parts.{result_by, outcome_by}
use Rattle.decision.proofs.effect.outcome.Goals as goal

pub returns-in-Remove : goal.returns-in-Remove
unfolding outcome_by result_by
returns-in-Remove c = rw (sym c.kind-what.ensures, c.in-Remove.is) c.remove.ensures

pub returns-in-Put : goal.returns-in-Put
unfolding outcome_by result_by
returns-in-Put c = rw (sym c.kind-what.ensures, c.in-Put.is) c.put.ensures

pub returns-in-Nothing : goal.returns-in-Nothing
unfolding outcome_by result_by
returns-in-Nothing c = rw (sym c.kind-what.ensures, c.in-Nothing.is)
