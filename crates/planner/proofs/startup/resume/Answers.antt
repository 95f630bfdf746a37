-- `planner::startup::resume` meets its contract: the spare stands at the content's front, and from there on the stores are those of a compaction. Assumes nothing.
use native.Mathlib.Omega.{arith}
use Prim.Native.Nat.{◌≤◌}
use mathlib.Core.Bool.{true, false}
use lib.ListN.{get_or}
use Rattle.plan.proofs.Bits.{bytes_of}
use Rattle.planner.proofs.Stages.{some-used, last_within}
use Rattle.planner.proofs.Starting.{accepts, looks, sized, resume-plans}
use Rattle.planner.proofs.startup.resume.Goals as goal

pub overflow_mul-b : goal.overflow_mul-b
overflow_mul-b c =
    let h = (sized c.args.image.now c.args.b true (accepts c.args.image.now c.args.b c.args.looked false true c.requires.0)).1 in
    omega arith

pub overflow_add-b : goal.overflow_add-b
overflow_add-b c =
    let h = (sized c.args.image.now c.args.b true (accepts c.args.image.now c.args.b c.args.looked false true c.requires.0)).1 in
    omega arith

pub overflow_mul-b-2 : goal.overflow_mul-b-2
overflow_mul-b-2 c =
    let h = (sized c.args.image.now c.args.b true (accepts c.args.image.now c.args.b c.args.looked false true c.requires.0)).1 in
    omega arith

pub overflow_sub-looked : goal.overflow_sub-looked
overflow_sub-looked c =
    let i = c.args.image.now in
    let f = accepts i c.args.b c.args.looked false true c.requires.0 in
    let z = sized i c.args.b true f in
    some-used i c.args.b z.0 z.1 z.2 (looks i c.args.b c.args.looked false true c.requires.0) f.waits

pub resume-plan-requires : goal.resume-plan-requires
resume-plan-requires c =
    let i = c.args.image.now in
    let f = accepts i c.args.b c.args.looked false true c.requires.0 in
    let z = sized i c.args.b true f in
    (z.1, last_within i c.args.b z.0 z.1 z.2 (looks i c.args.b c.args.looked false true c.requires.0) f.waits)

pub returns : goal.returns
returns c =
    let i = c.args.image.now in
    let f = accepts i c.args.b c.args.looked false true c.requires.0 in
    let k = c.type_inv.image in
    resume-plans i c.args.b f (bytes_of i (λ j. let x : get_or i j 0 ≤ 0xFF = omega (arith, k j) in x)) (looks i c.args.b c.args.looked false true c.requires.0)
    c.cut.ensures c.put_bytes.ensures c.requires.1 c.resume-plan.ensures
