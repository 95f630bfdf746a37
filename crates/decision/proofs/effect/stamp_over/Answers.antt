-- `decision::effect::stamp_over` meets its contract: the stamp given is held against that of the entry found. Assumes nothing.
use mathlib.Core.Path.{sym, ap, ◌∙◌}
use Rattle.model.specs.Change.{later_of_def}
use Rattle.policy.specs.Descriptor.{stamp_in_def}
use Rattle.decision.specs.Parts.{Found, stamp_over_def}
use Rattle.decision.proofs.effect.stamp_over.Goals as goal

pub returns-in-Some : goal.returns-in-Some
unfolding stamp_over_def
returns-in-Some c =
    let a = c.args in
    let old = c.stamp_in-own.ensures ∙ ap stamp_in_def c.stamp_of.ensures in
    c.later_of.ensures
    ∙ ap (later_of_def a.given.now) old
    ∙ sym (ap (λ (f : Found). stamp_over_def a.region.now f a.given.now) c.in-Some.is)

pub returns-in-None : goal.returns-in-None
unfolding stamp_over_def
returns-in-None c = rw c.in-None.is
