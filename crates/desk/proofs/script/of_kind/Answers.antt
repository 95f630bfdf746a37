-- `desk::script::of_kind` meets its contract: each arm is one of the definition. Assumes nothing.
use mathlib.Core.Path.{◌∙◌}
use borrow.Author.Rules.{rules}
use Rattle.desk.proofs.Steps.{kind_0, kind_1, kind_2, kind-other}
use Rattle.desk.proofs.script.of_kind.Goals as goal

pub returns-in-0 : goal.returns-in-0
returns-in-0 c = (c.with_item.ensures.0 ∙ kind_0 _ _ c.in-0.is, c.with_item.ensures.1)

pub returns-in-1 : goal.returns-in-1
returns-in-1 c = (c.delete.ensures.0 ∙ kind_1 _ _ c.in-1.is, c.delete.ensures.1)

pub returns-in-2 : goal.returns-in-2
returns-in-2 c = (c.cut_after.ensures.0 ∙ kind_2 _ _ c.in-2.is, c.cut_after.ensures.1)

pub returns-in_default : goal.returns-in_default
returns-in_default c =
    (search (kind-other, rules), tt)
