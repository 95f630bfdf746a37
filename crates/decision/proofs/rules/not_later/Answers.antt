-- `decision::rules::not_later` meets its contract: the stamp is compared with that of the entry found. Assumes nothing.
use mathlib.Core.Path.{sym, ap, ◌∙◌}
use mathlib.Core.Bool.{not}
use Rattle.model.specs.Request.{later}
use Rattle.policy.specs.Descriptor.{stamp_in_def}
use Rattle.decision.specs.Parts.{Found, not_later_def}
use Rattle.decision.proofs.rules.not_later.Goals as goal

pub returns-in-Some : goal.returns-in-Some
unfolding not_later_def
returns-in-Some c =
    let a = c.args in
    let own = c.stamp_in-own.ensures ∙ ap stamp_in_def c.stamp_of.ensures in
    ap not (c.later.ensures ∙ ap (later a.stamp.now) own)
    ∙ sym (ap (λ (o : Found). not_later_def a.region.now o a.stamp.now) c.in-Some.is)

pub returns-in-None : goal.returns-in-None
unfolding not_later_def
returns-in-None c = rw c.in-None.is
