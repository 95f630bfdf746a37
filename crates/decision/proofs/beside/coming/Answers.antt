-- `decision::beside::coming` meets its contract: PlatMode's entry takes 80 bytes. Assumes nothing.
use native.Mathlib.Omega.{arith}
use Rattle.model.specs.Request.{key_mode, mode_value}
use Rattle.decision.specs.Joint.{coming_by}
use Rattle.decision.proofs.beside.coming.Goals as goal

pub returns-then-deploys : goal.returns-then-deploys
unfolding coming_by mode_value key_mode
returns-then-deploys c = (rw c.if-deploys.true (omega (arith, c.entry_size-own.ensures)), omega (arith, c.requires, c.entry_size-own.ensures))

pub returns : goal.returns
unfolding coming_by
returns c = (rw c.if-deploys.false (omega (arith, c.entry_size-own.ensures)), omega (arith, c.requires, c.entry_size-own.ensures))
