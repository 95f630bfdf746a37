-- `engine::items::plan_items` meets its contract: the rule broken, no stores, or one compaction, as it was decided. Assumes nothing.
use mathlib.Core.Logic.{inl, inr}
use Rattle.std.specs.Prelude.{Ok}
use mathlib.Core.Path.{ap, sym, subst, ◌∙◌}
use Rattle.plan.specs.Planned.{Plans}
use Rattle.plan.proofs.Parts.{refused-plans, nothing-plans}
use Rattle.engine.proofs.Profiling.{weigh-asked, items_refused, items-nothing, never-removed, fold-asked, fold-plans}
use Rattle.std.proofs.lemmas.Result.{err_from_is_err_and}
use Rattle.engine.proofs.items.plan_items.Goals as goal

pub weigh-what-requires : goal.weigh-what-requires
weigh-what-requires c =
    let p = c.requires in
    weigh-asked p.ready c.cut-region.ensures p.reads p.apart

pub returns-in_err-what : goal.returns-in_err-what
returns-in_err-what c =
    let a = c.args in
    let p = c.requires in
    let told = err_from_is_err_and c.from_residual.result c.from_residual.ensures.1 in
    rw (told.1, told.2) (λ m s h. refused-plans _ _ _ _ (items_refused a.said a.held a.locks.now a.limits.now p.ready c.cut-region.ensures p.reads p.apart c.weigh-what.ensures.0 m s h c.in_err-what.was))

pub returns-in-Nothing : goal.returns-in-Nothing
returns-in-Nothing c =
    let a = c.args in
    let p = c.requires in
    elim c.in-Nothing.is [
      | inl e ↦ λ m s h. subst (Plans _ _ _ _) (sym c.accept.ensures) (nothing-plans _ _ _ _ c.nothing.ensures (items-nothing a.said a.held a.locks.now a.limits.now p.ready c.cut-region.ensures p.reads p.apart c.weigh-what.ensures.0 m s h (c.in_ok-what.was ∙ ap Ok e)))
      | inr e ↦ λ m s h. absurd (never-removed a.said a.held a.locks.now a.limits.now p.ready c.cut-region.ensures p.reads p.apart c.weigh-what.ensures.0 m s h (c.in_ok-what.was ∙ ap Ok e))
    ]

pub fold-requires : goal.fold-requires
fold-requires c =
    let a = c.args in
    let p = c.requires in
    let put = c.in_ok-what.was ∙ ap Ok c.in-Put.is in
    (fold-asked a.said a.held a.locks.now a.limits.now p.ready c.cut-region.ensures p.reads p.apart c.weigh-what.ensures.0 p.says.0 p.says.1 p.says.2 put _ _ (c.weigh-what.ensures.1 put), p.reads.few, p.room)

pub returns-in-Put : goal.returns-in-Put
returns-in-Put c =
    let a = c.args in
    let p = c.requires in
    λ m s h. fold-plans a.said a.held a.locks.now a.limits.now p.ready c.cut-region.ensures p.reads p.apart c.weigh-what.ensures.0 m s h (c.in_ok-what.was ∙ ap Ok c.in-Put.is) p.bytes.0 p.bytes.1 _ c.fold.ensures
