-- `decision::modes::roomed` meets its contract: the first broken of 22, 6 and 24 is the answer; else 13, by what goes and comes. Assumes nothing.
use Prim.Native.Nat.{◌+◌}
use native.Mathlib.Omega.{arith}
use mathlib.Core.Path.{sym, ap, ap₂, ◌∙◌}
use mathlib.Core.Bool.{false}
use mathlib.Core.Option.{Option}
use lib.ListN.{length}
use Rattle.model.specs.declared.PlatMode.{PlatMode}
use Rattle.model.specs.declared.Rule.{Rule}
use Rattle.model.specs.Change.{transition}
use Rattle.model.specs.Rules.{first_broken}
use Rattle.std.specs.Prelude.{Ok}
use Rattle.decision.specs.declared.Change.TheVariants.{Put}
use Rattle.decision.specs.Decision.{decided}
use Rattle.decision.specs.Parts.{Found, found_pk, room_by}
use Rattle.decision.specs.Profile.{folded_sums}
use Rattle.decision.specs.Joint.{taken_by}
use Rattle.decision.specs.Modes.{barring, transition_rules, lost_by}
use Rattle.decision.proofs.Broken.{kept-none, breaks-some}
use Rattle.decision.proofs.Transitions.{transition-broken, gone-counts, transition-kept}
use Rattle.std.proofs.lemmas.Result.{err_from_is_err_and}
use Rattle.decision.proofs.modes.roomed.Goals as goal

pub returns-in_err-judge : goal.returns-in_err-judge
returns-in_err-judge c =
    let a = c.args in
    let p = c.requires in
    let b = barring a.held a.locks.now in
    let broken = ap (λ (m : PlatMode). first_broken (transition_rules a.said b (transition m a.to))) (sym p.2)
    ∙ breaks-some _ c.in_err-judge.field-0.0 (sym c.in_err-judge.ensures) in
    let e = err_from_is_err_and c.from_residual.result c.from_residual.ensures.1 in
    rw (e.1, e.2) (sym (transition-broken a.region.now p.0 a.said b a.to c.in_err-judge.field-0.0 broken))

pub room-requires : goal.room-requires
room-requires c =
    let a = c.args in
    let p = c.requires in
    let r = a.region.now in
    let b = barring a.held a.locks.now in
    let kept = ap (λ (m : PlatMode). first_broken (transition_rules a.said b (transition m a.to))) (sym p.2) ∙ kept-none _ (sym c.in_ok-judge.ensures) in
    let gone = p.3 ∙ ap (λ (m : PlatMode). lost_by (found_pk r) m a.to) p.2 in
    (p.1, omega arith, rw (gone, p.4) (gone-counts r p.0 a.said b a.to kept))

pub returns-in_err-room : goal.returns-in_err-room
returns-in_err-room c =
    let a = c.args in
    let p = c.requires in
    let r = a.region.now in
    let b = barring a.held a.locks.now in
    let kept = ap (λ (m : PlatMode). first_broken (transition_rules a.said b (transition m a.to))) (sym p.2) ∙ kept-none _ (sym c.in_ok-judge.ensures) in
    let gone = p.3 ∙ ap (λ (m : PlatMode). lost_by (found_pk r) m a.to) p.2 in
    let sums = ap₂ (λ (f g : Found). first_broken (room_by a.said (length r) false (folded_sums a.said r (taken_by r f + taken_by r g) 80))) (sym gone) (sym p.4) in
    let full = breaks-some _ c.in_err-room.field-0.0 (sym c.in_err-room.ensures) in
    let e = err_from_is_err_and c.from_residual-in_err-room.result c.from_residual-in_err-room.ensures.1 in
    rw (e.1, e.2) (sym (transition-kept r p.0 a.said b a.to kept ∙ ap (λ (o : Option Rule). decided o (Ok Put)) (sums ∙ full)))

pub returns : goal.returns
returns c =
    let a = c.args in
    let p = c.requires in
    let r = a.region.now in
    let b = barring a.held a.locks.now in
    let kept = ap (λ (m : PlatMode). first_broken (transition_rules a.said b (transition m a.to))) (sym p.2) ∙ kept-none _ (sym c.in_ok-judge.ensures) in
    let gone = p.3 ∙ ap (λ (m : PlatMode). lost_by (found_pk r) m a.to) p.2 in
    let sums = ap₂ (λ (f g : Found). first_broken (room_by a.said (length r) false (folded_sums a.said r (taken_by r f + taken_by r g) 80))) (sym gone) (sym p.4) in
    let full = kept-none _ (sym c.in_ok-room.ensures) in
    sym (transition-kept r p.0 a.said b a.to kept ∙ ap (λ (o : Option Rule). decided o (Ok Put)) (sums ∙ full))
