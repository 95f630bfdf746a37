-- `convert::move_values` meets its contract: what the rules leave is composed in place, and a refused move stores nothing.
-- Assumes nothing.
use Prim.Native.Nat.{◌*◌}
use native.Mathlib.Omega.{arith}
use mathlib.Core.Path.{refl, sym, ap, ◌∙◌}
use lib.ListN.{length}
use Rattle.model.specs.Lists.{part}
use Rattle.values.proofs.Sizes.{part-fits}
use Rattle.convert.proofs.Checks.{goes, refused-rule}
use Rattle.convert.proofs.move_values.Goals as goal

pub overflow_mul-t : goal.overflow_mul-t
overflow_mul-t c = let a = c.args in
    let img = a.image.now in
    let told = sym c.check.ensures ∙ c.in-Ok.is in
    let g = goes a.from a.to img a.target.now c.in-Ok.b c.in-Ok.t told (part 0 (4096 * c.in-Ok.b) img) refl in
    record { fits = omega (arith, g.few-target) }

pub overflow_mul-b : goal.overflow_mul-b
overflow_mul-b c = let a = c.args in
    let img = a.image.now in
    let told = sym c.check.ensures ∙ c.in-Ok.is in
    let g = goes a.from a.to img a.target.now c.in-Ok.b c.in-Ok.t told (part 0 (4096 * c.in-Ok.b) img) refl in
    record { fits = omega (arith, g.few) }

pub put_image-requires : goal.put_image-requires
put_image-requires c = let a = c.args in
    let img = a.image.now in
    let told = sym c.check.ensures ∙ c.in-Ok.is in
    let g = goes a.from a.to img a.target.now c.in-Ok.b c.in-Ok.t told c.cut.result.now c.cut.ensures in
    let s = (part-fits img 0 (4096 * c.in-Ok.b)).0 in
    let e = ap length c.cut.ensures in
    (omega (arith, s, e, g.few), g.room)

pub returns-in-Ok : goal.returns-in-Ok
returns-in-Ok c = let a = c.args in
    let img = a.image.now in
    let told = sym c.check.ensures ∙ c.in-Ok.is in
    let g = goes a.from a.to img a.target.now c.in-Ok.b c.in-Ok.t told c.cut.result.now
    c.cut.ensures in
    (g.answer, c.put_image.ensures ∙ g.image)

pub returns-in-Err : goal.returns-in-Err
returns-in-Err c = let a = c.args in
    let f = refused-rule a.from a.to a.image.now a.target.now c.in-Err.rule (sym c.check.ensures ∙ c.in-Err.is) in
    (sym f.0, sym f.1)
