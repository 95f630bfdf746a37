-- `profile::same_key` meets its contract: names are compared first. Assumes nothing.
use Rattle.profile.specs.Reader.{request_in}
use Rattle.profile.proofs.same_key.Goals as goal

pub returns-then-equal : goal.returns-then-equal
unfolding request_in
returns-then-equal c = rw (c.equal-then-equal.ensures, c.cut-then-equal.ensures, c.cut.ensures, ← c.name_of-2.ensures, ← c.name_of.ensures, ← c.equal.ensures, c.if-equal.true)

pub returns-else-equal : goal.returns-else-equal
unfolding request_in
returns-else-equal c = rw (← c.name_of-2.ensures, ← c.name_of.ensures, ← c.equal.ensures, c.if-equal.false)
