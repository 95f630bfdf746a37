use Prim.Native.Nat.{ℕ, min}
use native.Mathlib.Omega.{arith}
use mathlib.Core.Path.{◌≡◌, refl, sym, ap, ◌∙◌}
use mathlib.Core.Bool.{Bool}
use mathlib.Core.List.{List, ◌++◌}
use Rattle.model.specs.Name.{Key}
use Rattle.model.specs.Limits.{limit_of, limit_at}
use Rattle.model.proofs.Tables.{from_end, from-here, from_next}
use Rattle.limits.specs.Broken.{breaks_for}
use Rattle.limits.proofs.Tried.{by-places}
use Rattle.limits.proofs.breaks.Goals as goal

pub loop-i-init : goal.loop-i-init
loop-i-init c = refl

pub returns-then-breaks_one : goal.returns-then-breaks_one
returns-then-breaks_one c =
    let l = c.loop-i in
    let a = c.args in
    let k : Key = record { name = a.name.now; vendor = a.vendor.now } in
    let f : ℕ → Bool = λ j. breaks_for k a.stands (a.old.now ++ a.own.now) (limit_at a.limits.now j) in
    let here : f l.i ≡ c.breaks_one.result =
    ap (λ (t : List ℕ). breaks_for k a.stands (a.old.now ++ a.own.now) (limit_of t)) (sym c.cut-rule.ensures) ∙ sym c.breaks_one.ensures in
    sym (by-places a.limits.now a.rules k a.stands (a.old.now ++ a.own.now) ∙ l.invariant ∙ from-here f (min a.rules 32) l.i (omega arith) (here ∙ c.if-breaks_one.true))

pub loop-i-preserved : goal.loop-i-preserved
loop-i-preserved c =
    let l = c.loop-i in
    let a = c.args in
    let k : Key = record { name = a.name.now; vendor = a.vendor.now } in
    let f : ℕ → Bool = λ j. breaks_for k a.stands (a.old.now ++ a.own.now) (limit_at a.limits.now j) in
    let here : f l.i ≡ c.breaks_one.result =
    ap (λ (t : List ℕ). breaks_for k a.stands (a.old.now ++ a.own.now) (limit_of t)) (sym c.cut-rule.ensures) ∙ sym c.breaks_one.ensures in
    (l.invariant ∙ from_next f (min a.rules 32) l.i (omega arith) (here ∙ c.if-breaks_one.false))

pub returns : goal.returns
returns c =
    let l = c.loop-i in
    let a = c.args in
    let k : Key = record { name = a.name.now; vendor = a.vendor.now } in
    let f : ℕ → Bool = λ j. breaks_for k a.stands (a.old.now ++ a.own.now) (limit_at a.limits.now j) in
    sym (by-places a.limits.now a.rules k a.stands (a.old.now ++ a.own.now) ∙ l.invariant ∙ from_end f (min a.rules 32) l.i (omega arith))
