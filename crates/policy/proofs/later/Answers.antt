use Rattle.std.proofs.Common.{sym, ◌∙◌}
use mathlib.Core.Path.{ap₂}
use lib.Dec.{ltb}
use Rattle.model.specs.Lists.{part}
use Rattle.policy.proofs.Stamps.{later-other, later-equal, greater-test}
use Rattle.policy.proofs.later.Goals as goal

pub returns-then-year-other : goal.returns-then-year-other
returns-then-year-other c =
    let a = c.args in
    ap₂ ltb c.u16_at-other.ensures.0 c.u16_at-year.ensures.0 ∙ sym (later-other a.a.now a.b.now (λ e. c.if-year-other.true (c.u16_at-year.ensures.0 ∙ e ∙ sym c.u16_at-other.ensures.0)))

pub returns : goal.returns
returns c =
    let a = c.args in
    greater-test (part 2 5 a.a.now) (part 2 5 a.b.now) c.gt.result c.gt.ensures
    ∙ sym (later-equal a.a.now a.b.now (sym c.u16_at-year.ensures.0 ∙ c.if-year-other.false ∙ c.u16_at-other.ensures.0))
