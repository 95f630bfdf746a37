-- `engine::write::plan_set` meets its contract: rules 1 and 2 first, then the set over an image that is ready. Assumes nothing.
use Prim.Native.Nat.{◌≤◌}
use native.Mathlib.Omega.{arith}
use mathlib.Core.Path.{sym}
use lib.ListN.{get_or}
use Rattle.model.specs.Layout.{authenticated}
use Rattle.image.proofs.Readiness.{is-ready}
use Rattle.plan.proofs.Bits.{bytes_of}
use Rattle.plan.proofs.Parts.{refused-plans}
use Rattle.engine.proofs.Setting.{image-refused}
use borrow.Author.Rules.{rules}
use Rattle.std.proofs.lemmas.Result.{err_from_is_err_and}
use Rattle.engine.proofs.write.plan_set.Goals as goal

pub plan_ready-requires : goal.plan_ready-requires
plan_ready-requires c =
    let a = c.args in
    let i = a.image.now in
    let n = a.name.now in
    let d = a.bytes.now in
    let ki = c.type_inv.image in
    let kn = c.type_inv.name in
    let kd = c.type_inv.bytes in (
      is-ready authenticated (sym c.in_ok-ready.ensures),
      bytes_of i (λ j. let x : get_or i j 0 ≤ 0xFF = omega (arith, ki j) in x),
      λ m s. (bytes_of n (λ j. let x : get_or n j 0 ≤ 0xFF = omega (arith, kn j) in x), bytes_of a.vendor.now (λ j. let x = c.fits-vendor j in omega arith), c.told-vendor, bytes_of d (λ j. let x : get_or d j 0 ≤ 0xFF = omega (arith, kd j) in x)),
      search rules,
      c.requires,
    )

pub returns-in_err-ready : goal.returns-in_err-ready
returns-in_err-ready c =
    let told = err_from_is_err_and c.from_residual.result c.from_residual.ensures.1 in
    rw (told.1, told.2) (λ m s h. refused-plans _ _ _ _ (image-refused _ _ _ _ _ (sym c.in_err-ready.ensures)))
