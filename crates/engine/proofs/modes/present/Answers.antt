-- `engine::modes::present` meets its contract: rules 1 and 2, then the mode of the region. Assumes nothing.
use native.Mathlib.Omega.{arith}
use mathlib.Core.Path.{sym, ap, ◌∙◌}
use mathlib.Core.List.{List}
use Prim.Native.Nat.{ℕ}
use Rattle.model.specs.Layout.{authenticated}
use Rattle.model.specs.Region.{sound, entries, values, values_in}
use Rattle.model.specs.Request.{mode_of}
use Rattle.image.proofs.Readiness.{is-ready, refused-rule}
use Rattle.std.specs.Prelude.{Ok}
use Rattle.engine.specs.Modes.{platform_of}
use Rattle.std.proofs.lemmas.Result.{err_from_is_err_and}
use Rattle.engine.proofs.modes.present.Goals as goal

pub overflow_mul-ready : goal.overflow_mul-ready
overflow_mul-ready c =
    let x = is-ready authenticated (sym c.in_ok-ready.ensures) in
    record { fits = omega (arith, x.few) }

pub present-requires : goal.present-requires
present-requires c =
    let x = is-ready authenticated (sym c.in_ok-ready.ensures) in
    ap sound (c.cut-region.ensures ∙ x.cut) ∙ x.sounds

pub returns : goal.returns
unfolding platform_of values_in
returns c =
    let x = is-ready authenticated (sym c.in_ok-ready.ensures) in
    rw x.unbroken (ap Ok (c.present.ensures ∙ ap (λ (r : List ℕ). mode_of (values (entries r))) (c.cut-region.ensures ∙ x.cut)))

pub returns-in_err-ready : goal.returns-in_err-ready
unfolding platform_of
returns-in_err-ready c =
    let told = err_from_is_err_and c.from_residual.result c.from_residual.ensures.1 in
    rw (told.1, told.2) (rw (refused-rule authenticated _ _ (sym c.in_err-ready.ensures)))
