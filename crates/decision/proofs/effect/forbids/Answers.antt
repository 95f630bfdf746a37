-- `decision::effect::forbids` meets its contract: without rules none is broken. Assumes nothing.
use mathlib.Core.Path.{sym, ap, ◌∙◌}
use mathlib.Core.Bool.{Bool}
use mathlib.Core.List.{◌++◌}
use Rattle.model.specs.Name.{keyed}
use Rattle.model.specs.Limits.{limits_in}
use Rattle.limits.specs.Broken.{broken_by}
use Rattle.limits.proofs.Tried.{none-used}
use Rattle.decision.proofs.effect.forbids.Goals as goal

pub returns-then-rules-eq0 : goal.returns-then-rules-eq0
returns-then-rules-eq0 c = sym (none-used _ _ _ _ _ c.if-rules-eq0.true)

pub returns : goal.returns
returns c =
    let a = c.args in
    let k = keyed a.name.now a.vendor.now in
    c.breaks.ensures ∙ ap (λ (s : Bool). broken_by (limits_in a.limits.now a.rules k) s (a.kept.now ++ a.proper.now)) c.leaves.ensures
