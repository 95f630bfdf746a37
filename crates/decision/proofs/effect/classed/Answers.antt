-- `decision::effect::classed` meets its contract: in each case one class has the size. Assumes nothing.
use mathlib.Core.Bool.{not, and-false}
use Rattle.decision.specs.Parts.{classed_by}
use Rattle.decision.proofs.effect.classed.Goals as goal

pub returns-then-error : goal.returns-then-error
unfolding classed_by
returns-then-error c = rw (c.default.ensures.1.0, c.default.ensures.1.1, c.if-error.true, and-false c.args.own, and-false (not c.args.own))

pub returns-then-own : goal.returns-then-own
unfolding classed_by
returns-then-own c = rw (c.default-then-own.ensures.0, c.default-then-own.ensures.1.1, c.if-error.false, c.if-own.true)

pub returns : goal.returns
unfolding classed_by
returns c = rw (c.default-2.ensures.0, c.default-2.ensures.1.0, c.if-error.false, c.if-own.false)
