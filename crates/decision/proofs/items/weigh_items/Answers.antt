-- `decision::items::weigh_items` meets its contract: the items that were passed break no rule, and the first that breaks one ends the loop. Assumes nothing.
use Prim.Native.Nat.{ℕ, suc}
use native.Mathlib.Omega.{arith}
use mathlib.Core.Path.{◌≡◌, subst}
use mathlib.Core.List.{map}
use lib.ListN.{length, take, drop}
use Rattle.profile.specs.Reader.{request_in, requests_in}
use Rattle.decision.specs.Profile.{told_of, limits_of, ItemsPass}
use Rattle.decision.proofs.Passing.{passed, next, passed_length, passed-next, passed-all, pass-none, pass-next, items-break}
use Rattle.std.proofs.lemmas.Result.{err_from_is_err_and}
use Rattle.decision.proofs.items.weigh_items.Goals as goal

pub loop-i-init : goal.loop-i-init
loop-i-init c =
    let a = c.args in
    (omega arith, omega arith, pass-none (told_of a.said a.held a.locks.now) (limits_of a.said a.limits.now) a.region.now)

pub weigh_at-requires : goal.weigh_at-requires
weigh_at-requires c =
    let p = c.requires in
    (p.sounds, p.small, p.within c.loop-i.i c.loop-i-test.true)

pub returns-in_err-w : goal.returns-in_err-w
unfolding requests_in
returns-in_err-w c =
    let a = c.args in
    let p = c.requires in
    let f = a.file.now in
    let l = c.loop-i in
    let told = told_of a.said a.held a.locks.now in
    let limits = limits_of a.said a.limits.now in
    let eight : length a.p.list ≡ 8 = omega arith in
    let all = passed-all f a.p.list l.i a.p.count c.loop-i-test.true (omega (arith, eight, p.few)) in
    let e = err_from_is_err_and c.from_residual.result c.from_residual.ensures.1 in
    rw (e.1, e.2)
    (items-break told limits a.region.now (passed f a.p.list l.i) (next f a.p.list l.i) (map (request_in f) (drop (suc l.i) (take a.p.count a.p.list))) (requests_in f a.p)
    c.in_err-w.field-0.0 all l.invariant.2.kept c.in_err-w.ensures)

pub loop-i-preserved : goal.loop-i-preserved
loop-i-preserved c =
    let a = c.args in
    let p = c.requires in
    let f = a.file.now in
    let l = c.loop-i in
    let told = told_of a.said a.held a.locks.now in
    let limits = limits_of a.said a.limits.now in
    let eight : length a.p.list ≡ 8 = omega arith in
    let w = c.in_ok-w in
    let long = passed_length f a.p.list l.i (omega (arith, eight, p.few)) in
    let more = pass-next told limits a.region.now (passed f a.p.list l.i) (next f a.p.list l.i) l.leave l.stores l.gone l.comes l.i l.invariant.2 long
    (omega (arith, c.loop-i-test.true, p.few)) w.w w.ensures.1 w.ensures.0 in (
      omega (arith, l.invariant.0, w.ensures.1.few-gone),
      omega (arith, l.invariant.1, w.ensures.1.few-come),
      rw (passed-next f a.p.list l.i (omega (arith, eight, p.few))) more,
    )

pub returns : goal.returns
unfolding requests_in
returns c =
    let a = c.args in
    let p = c.requires in
    let f = a.file.now in
    let l = c.loop-i in
    let told = told_of a.said a.held a.locks.now in
    let limits = limits_of a.said a.limits.now in
    let done : l.i ≡ a.p.count = omega arith in
    (subst (λ (n : ℕ). ItemsPass told limits (passed f a.p.list n) a.region.now l.leave l.stores l.gone l.comes) done l.invariant.2, omega (arith, l.invariant.1, p.few))
