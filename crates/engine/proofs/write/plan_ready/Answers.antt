-- `engine::write::plan_ready` meets its contract: the rule broken, nothing, a delete, a put, or both changes at once, as it was decided. Assumes nothing.
use Rattle.std.specs.Prelude.{Ok}
use mathlib.Core.Path.{ap, sym, subst, ◌∙◌}
use Rattle.decision.specs.Parts.{value_by}
use Rattle.plan.specs.Planned.{Plans}
use Rattle.plan.proofs.Parts.{refused-plans, nothing-plans}
use Rattle.engine.proofs.Setting.{region-asked, said-foreign, set-refused, set-nothing, remove-asked, remove-plans, put-asked, put-plans, removed-asked, removed-plans, enrolled-asked, enrolled-plans}
use Rattle.std.proofs.lemmas.Result.{err_from_is_err_and}
use Rattle.engine.proofs.write.plan_ready.Goals as goal

pub decide-what-requires : goal.decide-what-requires
decide-what-requires c =
    let k = region-asked c.requires.0 c.cut-region.ensures in
    record { sound_region = k.0; short_region = k.1.0; right_tail = k.1.1; told_side = said-foreign c.requires.4.0 c.requires.4.1 _ c.requires.4.2 }

pub returns-in_err-what : goal.returns-in_err-what
returns-in_err-what c =
    let told = err_from_is_err_and c.from_residual.result c.from_residual.ensures.1 in
    rw (told.1, told.2) (λ m s h. refused-plans _ _ _ _ (set-refused _ _ _ _ _ _ _ _ _ _ c.requires.0 c.cut-region.ensures c.decide-what.ensures m s h c.in_err-what.was))

pub returns-in-Nothing : goal.returns-in-Nothing
returns-in-Nothing c =
    λ m s h. subst (Plans _ _ _ _) (sym c.accept.ensures) (nothing-plans _ _ _ _ c.nothing.ensures (set-nothing _ _ _ _ _ _ _ _ _ _ c.requires.0 c.cut-region.ensures c.decide-what.ensures m s h (c.in_ok-what.was ∙ ap Ok c.in-Nothing.is)))

pub plan_joint-requires : goal.plan_joint-requires
plan_joint-requires c =
    (removed-asked _ _ _ _ _ _ _ _ _ _ c.requires.0 c.cut-region.ensures c.decide-what.ensures (c.in_ok-what.was ∙ ap Ok c.in-Remove.is) c.in-Some.is, c.requires.3)

pub returns-in-Some : goal.returns-in-Some
returns-in-Some c =
    λ m s h. removed-plans _ _ _ _ _ _ _ _ _ _ c.requires.0 c.cut-region.ensures c.decide-what.ensures m s h (c.in_ok-what.was ∙ ap Ok c.in-Remove.is) c.in-Some.is c.requires.1 (c.requires.2 m s) _ c.plan_joint.ensures

pub delete-requires : goal.delete-requires
delete-requires c = remove-asked _ _ _ _ _ _ _ _ _ _ c.requires.0 c.cut-region.ensures c.decide-what.ensures

pub returns-in-None : goal.returns-in-None
returns-in-None c =
    λ m s h. subst (Plans _ _ _ _) (sym c.accept-in-None.ensures) (remove-plans _ _ _ _ _ _ _ _ _ _ c.requires.0 c.cut-region.ensures c.decide-what.ensures m s h (c.in_ok-what.was ∙ ap Ok c.in-Remove.is) c.in-None.is c.requires.1 (c.requires.2 m s) _ _ c.delete.ensures)

pub plan_joint-requires-in-Some-beside : goal.plan_joint-requires-in-Some-beside
unfolding value_by
plan_joint-requires-in-Some-beside c =
    let long = (c.requires.2 c.requires.4.0 c.requires.4.1).2 in
    (enrolled-asked _ _ _ _ _ _ _ _ _ _ c.requires.0 c.cut-region.ensures c.decide-what.ensures (c.in_ok-what.was ∙ ap Ok c.in-Put.is) c.in-Some-beside.is long, c.requires.3)

pub returns-in-Some-beside : goal.returns-in-Some-beside
returns-in-Some-beside c =
    λ m s h. enrolled-plans _ _ _ _ _ _ _ _ _ _ c.requires.0 c.cut-region.ensures c.decide-what.ensures m s h (c.in_ok-what.was ∙ ap Ok c.in-Put.is) c.in-Some-beside.is c.requires.1 (c.requires.2 m s) _ c.plan_joint-in-Some-beside.ensures

pub plan_put-requires : goal.plan_put-requires
plan_put-requires c =
    (put-asked _ _ _ _ _ _ _ _ _ _ c.requires.0 c.cut-region.ensures c.decide-what.ensures (c.in_ok-what.was ∙ ap Ok c.in-Put.is) c.in-None-beside.is, c.requires.3)

pub returns-in-None-beside : goal.returns-in-None-beside
returns-in-None-beside c =
    λ m s h. put-plans _ _ _ _ _ _ _ _ _ _ c.requires.0 c.cut-region.ensures c.decide-what.ensures m s h (c.in_ok-what.was ∙ ap Ok c.in-Put.is) c.in-None-beside.is c.requires.1 (c.requires.2 m s) _ c.plan_put.ensures
