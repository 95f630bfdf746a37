use Prim.Native.Nat.{ℕ, ◌+◌}
use native.Mathlib.Omega.{arith}
use mathlib.Core.Path.{◌≡◌, ap, ◌∙◌}
use mathlib.Core.List.{List}
use lib.ListN.{get_or, set}
use Rattle.model.specs.Stores.{apply_all}
use Rattle.plan.specs.Plan.{run_of}
use Rattle.flash.proofs.Dead.{run_none, run_more}
use Rattle.flash.proofs.put_run.Goals as goal

pub loop-j-init : goal.loop-j-init
loop-j-init c = run_none c.args.content.now c.args.at c.args.from c.args.image.now

pub loop-j-preserved : goal.loop-j-preserved
loop-j-preserved c =
    let l = c.loop-j in
    let a = c.args in
    let v = get_or a.content.now (a.from + l.j) 0 in
    ap (λ (x : List ℕ). set x (a.at + l.j) v) l.invariant ∙ run_more a.content.now a.at a.from l.j a.image.now (omega (arith, c.requires.0))

pub returns : goal.returns
returns c =
    let l = c.loop-j in
    let a = c.args in
    let all : l.j ≡ a.r = omega arith in
    l.invariant ∙ ap (λ (k : ℕ). apply_all (run_of 1 a.content.now a.at a.from k) a.image.now) all
