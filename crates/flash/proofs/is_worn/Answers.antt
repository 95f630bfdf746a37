-- `flash::is_worn` meets its contract, by its two tests. Assumes nothing.
use Rattle.std.proofs.Common.{not, ap, ◌∙◌}
use borrow.Author.Tests.{eq-eqb}
use Rattle.flash.proofs.Dead.{not-worn, worn-if}
use Rattle.flash.proofs.is_worn.Goals as goal

pub returns-then-old-v : goal.returns-then-old-v
returns-then-old-v c =
    let a = c.args in
    c.is_dead.ensures ∙ worn-if a.dead.now a.at a.v a.image.now c.if-old-v.true

pub returns-else-old-v : goal.returns-else-old-v
returns-else-old-v c =
    let a = c.args in
    let e = c.if-old-v.false in
    ap not (eq-eqb _ _ e) ∙ not-worn a.dead.now a.at a.v a.image.now e
