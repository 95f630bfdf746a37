-- `capi::vs_present_mode` meets its contract: what the engine found, in numbers. Assumes nothing.
use Rattle.std.proofs.Common.{sym, ◌∙◌}
use Rattle.capi.proofs.Told.{mode-told, unready-told}
use Rattle.capi.proofs.vs_present_mode.Goals as goal

pub returns-in-Ok : goal.returns-in-Ok
returns-in-Ok c =
    mode-told c.args.image.now c.from.result c.in-Ok.mode c.mode_number.result
    (sym c.present.ensures ∙ c.in-Ok.is) c.from.ensures c.mode_number.ensures

pub returns-in-Err : goal.returns-in-Err
returns-in-Err c =
    unready-told c.args.image.now c.from-in-Err.result c.in-Err.rule (sym c.present.ensures ∙ c.in-Err.is) c.from-in-Err.ensures
