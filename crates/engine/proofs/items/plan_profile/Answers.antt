-- `engine::items::plan_profile` meets its contract: rules 1 and 2 first, then the file over an image that is ready. Assumes nothing.
use Prim.Native.Nat.{◌≤◌}
use native.Mathlib.Omega.{arith}
use mathlib.Core.Path.{sym}
use lib.ListN.{get_or}
use Rattle.model.specs.Layout.{authenticated}
use Rattle.image.proofs.Readiness.{is-ready}
use Rattle.plan.proofs.Bits.{bytes_of}
use Rattle.plan.proofs.Parts.{refused-plans}
use Rattle.engine.proofs.Profiling.{image-refused}
use borrow.Author.Rules.{rules}
use Rattle.std.proofs.lemmas.Result.{err_from_is_err_and}
use Rattle.engine.proofs.items.plan_profile.Goals as goal

pub plan_file-requires : goal.plan_file-requires
plan_file-requires c =
    let a = c.args in
    let i = a.image.now in
    let f = a.file.now in
    let ki = c.type_inv.image in
    let kf = c.type_inv.file in (
      is-ready authenticated (sym c.in_ok-ready.ensures),
      bytes_of i (λ j. let x : get_or i j 0 ≤ 0xFF = omega (arith, ki j) in x),
      bytes_of f (λ j. let x : get_or f j 0 ≤ 0xFF = omega (arith, kf j) in x),
      search rules,
      c.requires,
    )

pub returns-in_err-ready : goal.returns-in_err-ready
returns-in_err-ready c =
    let told = err_from_is_err_and c.from_residual.result c.from_residual.ensures.1 in
    rw (told.1, told.2) (λ m s h. refused-plans _ _ _ _ (image-refused m s _ _ _ (sym c.in_err-ready.ensures)))
