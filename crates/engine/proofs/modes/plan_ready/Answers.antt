-- `engine::modes::plan_ready` meets its contract: the rule broken, the mode alone, or with it PK's loss, as it was decided. Assumes nothing.
use mathlib.Core.Logic.{inl, inr}
use Rattle.std.specs.Prelude.{Ok}
use mathlib.Core.Path.{ap, ◌∙◌}
use Rattle.plan.proofs.Parts.{refused-plans}
use Rattle.engine.proofs.Requesting.{region-asked, mode-refused, never-else, alone-asked, alone-plans, losing-asked, losing-plans}
use Rattle.std.proofs.lemmas.Result.{err_from_is_err_and}
use Rattle.engine.proofs.modes.plan_ready.Goals as goal

pub decide-what-requires : goal.decide-what-requires
decide-what-requires c = region-asked c.requires.0 c.cut-region.ensures

pub returns-in_err-what : goal.returns-in_err-what
returns-in_err-what c =
    let a = c.args in
    let p = c.requires in
    let d = c.decide-what in
    let told = err_from_is_err_and c.from_residual.result c.from_residual.ensures.1 in
    rw (told.1, told.2) (λ m z h. refused-plans _ _ _ _ (mode-refused a.said a.held a.locks.now a.to d.result.places d.result.pk d.result.byte p.0 c.cut-region.ensures d.ensures m z h c.in_err-what.was))

pub returns-in-Nothing : goal.returns-in-Nothing
returns-in-Nothing c =
    let a = c.args in
    let p = c.requires in
    let d = c.decide-what in
    let never = never-else a.said a.held a.locks.now a.to d.result.places d.result.pk d.result.byte p.0 c.cut-region.ensures d.ensures in
    elim c.in-Nothing.is [
      | inl e ↦ absurd (never.0 (c.in_ok-what.was ∙ ap Ok e))
      | inr e ↦ absurd (never.1 (c.in_ok-what.was ∙ ap Ok e))
    ]

pub plan_losing-requires : goal.plan_losing-requires
plan_losing-requires c =
    let a = c.args in
    let p = c.requires in
    let d = c.decide-what in
    (losing-asked a.said a.held a.locks.now a.to d.result.places d.result.pk d.result.byte p.0 c.cut-region.ensures d.ensures p.3.0 p.3.1 p.3.2 (c.in_ok-what.was ∙ ap Ok c.in-Put.is) c.in-Some.is c.standing.ensures c.offset-there.ensures, p.2)

pub returns-in-Some : goal.returns-in-Some
returns-in-Some c =
    let a = c.args in
    let p = c.requires in
    let d = c.decide-what in
    λ m z h. losing-plans a.said a.held a.locks.now a.to d.result.places d.result.pk d.result.byte p.0 c.cut-region.ensures d.ensures m z h (c.in_ok-what.was ∙ ap Ok c.in-Put.is) c.in-Some.is p.1 _ c.plan_losing.ensures

pub plan_alone-requires : goal.plan_alone-requires
plan_alone-requires c =
    let a = c.args in
    let p = c.requires in
    let d = c.decide-what in
    (alone-asked a.said a.held a.locks.now a.to d.result.places d.result.pk d.result.byte p.0 c.cut-region.ensures d.ensures p.3.0 p.3.1 p.3.2 (c.in_ok-what.was ∙ ap Ok c.in-Put.is) c.in-None.is, p.2)

pub returns-in-None : goal.returns-in-None
returns-in-None c =
    let a = c.args in
    let p = c.requires in
    let d = c.decide-what in
    λ m z h. alone-plans a.said a.held a.locks.now a.to d.result.places d.result.pk d.result.byte p.0 c.cut-region.ensures d.ensures m z h (c.in_ok-what.was ∙ ap Ok c.in-Put.is) c.in-None.is p.1 _ c.plan_alone.ensures
