-- An answer in numbers: each case has its own. Assumes nothing.
use Rattle.std.proofs.Common.{refl}
use Rattle.capi.specs.Numbers.{numbers_of}
use Rattle.capi.proofs.AnsweredFromAnswer.from.Goals as goal

pub returns-in-Done : goal.returns-in-Done
unfolding numbers_of
returns-in-Done c = rw c.in-Done.is refl

pub returns-in-Stopped : goal.returns-in-Stopped
unfolding numbers_of
returns-in-Stopped c = rw c.in-Stopped.is refl

pub returns-in-Refused : goal.returns-in-Refused
unfolding numbers_of
returns-in-Refused c = rw (c.in-Refused.is, c.from.ensures) refl
