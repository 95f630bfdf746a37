use Prim.Native.Nat.{ℕ}
use native.Mathlib.Omega.{arith}
use mathlib.Core.Path.{refl, sym, ap, ◌∙◌}
use mathlib.Core.List.{List}
use Rattle.model.specs.Region.{entries, values}
use Rattle.region.specs.Met.{key_from, met_of}
use Rattle.engine.proofs.Copying.{put_rest}
use Rattle.engine.proofs.Several.{giving-begin, turn-fits, turn-long, giving-turn, giving-end}
use Rattle.engine.proofs.many.get_each.Goals as goal

pub loop-k-init : goal.loop-k-init
loop-k-init c =
    let a = c.args in
    (giving-begin a.view (values (entries a.region.now)) a.keys.now a.sizes.now a.told.now a.buffer.now, c.requires.3, refl)

pub slice_bounds-get_one-count : goal.slice_bounds-get_one-count
slice_bounds-get_one-count c = c.loop-k.invariant.0.room

pub slice_bounds-get_one-start : goal.slice_bounds-get_one-start
slice_bounds-get_one-start c = let room = c.loop-k.invariant.0.room in omega arith

pub slice_bounds-get_one-end : goal.slice_bounds-get_one-end
slice_bounds-get_one-end c = let room = c.loop-k.invariant.0.room in omega arith

pub get_one-g-requires : goal.get_one-g-requires
get_one-g-requires c =
    let a = c.args in (
      c.requires.0,
      c.from.ensures ∙ c.requires.4.met c.loop-k.k (omega arith) ∙ ap (λ (x : List ℕ). met_of (key_from x) (entries a.region.now)) (sym c.asked.ensures),
    )

pub overflow_add-used : goal.overflow_add-used
overflow_add-used c =
    let g = c.get_one-g in
    let fits = turn-fits c.loop-k.invariant.0 c.loop-k-test.true c.asked.ensures g.ensures g.auto.buffer in
    let same = c.loop-k.invariant.2 in
    record { fits = omega (arith, c.well_formed.1.1.1.1.1.1.0) }

pub tell-requires : goal.tell-requires
tell-requires c =
    let long = c.loop-k.invariant.1 in
    let few = c.requires.1 in
    let under = c.loop-k-test.true in
    (omega arith, omega arith)

pub loop-k-preserved : goal.loop-k-preserved
loop-k-preserved c =
    let g = c.get_one-g in
    let key = c.asked.ensures in
    let t = c.tell in
    let kept = g.auto.buffer in
    let put = put_rest c.loop-k.used c.loop-k.buffer g.new.buffer c.loop-k.invariant.0.room in
    let h = c.loop-k-test.true in (
      giving-turn c.loop-k.invariant.0 h key g.ensures kept t.ensures put,
      t.auto.told ∙ c.loop-k.invariant.1,
      turn-long c.loop-k.invariant.0 h key g.ensures kept put ∙ c.loop-k.invariant.2,
    )

pub shape_of-told : goal.shape_of-told
shape_of-told c = c.loop-k.invariant.1 ∙ sym c.requires.3

pub shape_of-buffer : goal.shape_of-buffer
shape_of-buffer c = c.loop-k.invariant.2

pub returns : goal.returns
returns c =
    let few = c.loop-k.invariant.0.few in
    giving-end c.loop-k.invariant.0 (omega arith) c.requires.1 c.requires.3
