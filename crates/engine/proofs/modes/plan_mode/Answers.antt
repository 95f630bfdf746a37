-- `engine::modes::plan_mode` meets its contract: rules 1 and 2 first, then the request over an image that is ready. Assumes nothing.
use Prim.Native.Nat.{◌≤◌}
use native.Mathlib.Omega.{arith}
use mathlib.Core.Path.{sym}
use lib.ListN.{get_or}
use Rattle.model.specs.Layout.{authenticated}
use Rattle.image.proofs.Readiness.{is-ready}
use Rattle.plan.proofs.Bits.{bytes_of}
use Rattle.plan.proofs.Parts.{refused-plans}
use Rattle.engine.proofs.Requesting.{image-refused}
use borrow.Author.Rules.{rules}
use Rattle.std.proofs.lemmas.Result.{err_from_is_err_and}
use Rattle.engine.proofs.modes.plan_mode.Goals as goal

pub plan_ready-requires : goal.plan_ready-requires
plan_ready-requires c =
    let i = c.args.image.now in
    let k = c.type_inv.image in (
      is-ready authenticated (sym c.in_ok-ready.ensures),
      bytes_of i (λ j. let x : get_or i j 0 ≤ 0xFF = omega (arith, k j) in x),
      search rules,
      c.requires,
    )

pub returns-in_err-ready : goal.returns-in_err-ready
returns-in_err-ready c =
    let told = err_from_is_err_and c.from_residual.result c.from_residual.ensures.1 in
    rw (told.1, told.2) (λ m s h. refused-plans _ _ _ _ (image-refused m s _ _ _ (sym c.in_err-ready.ensures)))
