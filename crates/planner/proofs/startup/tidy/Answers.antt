-- `planner::startup::tidy` meets its contract: the erases alone, or with a compaction behind them. Assumes nothing.
use native.Mathlib.Omega.{arith}
use Prim.Native.Nat.{◌≤◌}
use mathlib.Core.Path.{refl, ap, ◌∙◌}
use mathlib.Core.Bool.{false}
use lib.ListN.{length, get_or}
use Rattle.model.specs.Image.{block}
use Rattle.plan.proofs.Bits.{bytes_of}
use Rattle.planner.proofs.AllCarried.{tidy-asked, tidy-composed}
use Rattle.planner.proofs.Stages.{its-region, region-long, left_step, left-used}
use Rattle.planner.proofs.Starting.{accepts, looks, cleans, sized, sounds, tail-told, rest-plans, tidy-plans, rest-as, compact-as}
use Rattle.planner.proofs.startup.tidy.Goals as goal

pub spare_step-spare-requires : goal.spare_step-spare-requires
spare_step-spare-requires c =
    sized c.args.image.now c.args.b false (accepts c.args.image.now c.args.b c.args.looked c.args.clean false c.requires.0)

pub returns-then-clean : goal.returns-then-clean
returns-then-clean c =
    let i = c.args.image.now in
    let f = accepts i c.args.b c.args.looked c.args.clean false c.requires.0 in
    let l = looks i c.args.b c.args.looked c.args.clean false c.requires.0 in
    let k = cleans i c.args.b c.args.looked c.args.clean false c.requires.0 refl in
    let z = sized i c.args.b false f in
    rest-plans i c.args.b f _ _ (tail-told i c.args.b f k c.if-clean.true) (rest-as c.begun-plan.ensures c.spare_step-spare.ensures (left_step i c.args.b z.0 z.1 z.2 l c.work_left-work.ensures.0))

pub overflow_mul-b : goal.overflow_mul-b
overflow_mul-b c =
    let i = c.args.image.now in
    let h = (sized i c.args.b false (accepts i c.args.b c.args.looked c.args.clean false c.requires.0)).1 in
    omega arith

pub put_values-n-requires : goal.put_values-n-requires
unfolding block
put_values-n-requires c =
    let i = c.args.image.now in
    let z = sized i c.args.b false (accepts i c.args.b c.args.looked c.args.clean false c.requires.0) in
    omega (arith, z.1, ap length (c.cut.ensures ∙ its-region i c.args.b z.0 z.1 z.2) ∙ region-long i c.args.b z.0 z.1 z.2)

pub compact_front-plan-requires : goal.compact_front-plan-requires
unfolding block
compact_front-plan-requires c =
    let i = c.args.image.now in
    let f = accepts i c.args.b c.args.looked c.args.clean false c.requires.0 in
    let z = sized i c.args.b false f in
    tidy-asked i c.args.b z.0 z.1 z.2 (sounds i c.args.b f) c.cut.ensures c.put_values-n.ensures c.requires.1

pub returns : goal.returns
unfolding block
returns c =
    let i = c.args.image.now in
    let f = accepts i c.args.b c.args.looked c.args.clean false c.requires.0 in
    let l = looks i c.args.b c.args.looked c.args.clean false c.requires.0 in
    let k = cleans i c.args.b c.args.looked c.args.clean false c.requires.0 refl in
    let z = sized i c.args.b false f in
    let g = c.type_inv.image in
    let x = tidy-composed i c.args.b z.0 z.1 z.2 (sounds i c.args.b f) c.cut.ensures c.put_values-n.ensures c.requires.1 c.compact_front-plan.ensures.1 in
    tidy-plans i c.args.b f (bytes_of i (λ j. let x : get_or i j 0 ≤ 0xFF = omega (arith, g j) in x)) _ _ (tail-told i c.args.b f k c.if-clean.false) x.0 x.1
    (compact-as c.args.b c.compact_front-plan.ensures.0 c.spare_step-spare.ensures (left_step i c.args.b z.0 z.1 z.2 l c.work_left-work.ensures.0) (left-used i c.args.b z.0 z.1 z.2 l c.work_left-work.ensures.1))
