-- `desk::play::counted` meets its contract: an arm for each answer. Assumes nothing.
use borrow.Author.Rules.{rules}
use Rattle.desk.proofs.play.counted.Goals as goal

pub returns-in-Done : goal.returns-in-Done
returns-in-Done c = (rw (c.in-Done.is, c.erased.ensures.0), search rules)

pub returns-in-Stopped : goal.returns-in-Stopped
returns-in-Stopped c = (rw (c.in-Stopped.is, c.erased-in-Stopped.ensures.0), search rules)

pub returns-in-Refused : goal.returns-in-Refused
returns-in-Refused c = (rw c.in-Refused.is, search rules)
