-- `decision::judge` meets its contract: the parts are judged in the rules' order, and the last gives what is left. Assumes nothing.
use Prim.Native.Nat.{ℕ}
use mathlib.Core.Path.{sym, ap, ap₂, ◌∙◌}
use mathlib.Core.List.{List}
use lib.ListN.{length}
use Rattle.model.specs.Rules.{first_broken}
use Rattle.decision.specs.Decision.{request_of}
use Rattle.decision.specs.Parts.{new_size, outcome_by}
use Rattle.decision.proofs.Broken.{kept-none, breaks-some}
use Rattle.decision.proofs.Assembled.{request-fields, call-broken, standing-broken, none-broken}
use Rattle.std.proofs.lemmas.Result.{err_from_is_err_and}
use Rattle.decision.proofs.judge.Goals as goal

pub returns-in_err-request : goal.returns-in_err-request
returns-in_err-request c =
    let a = c.args in
    let p = c.requires in
    let q = request_of a.name.now a.vendor.now a.asking.attributes a.bytes.now a.asking.presence a.asking.verdict in
    let first = ap first_broken (request-fields a.t q) ∙ breaks-some _ c.in_err-request.field-0.0 (sym c.in_err-request.ensures) in
    let e = err_from_is_err_and c.from_residual.result c.from_residual.ensures.1 in
    rw (e.1, e.2) (sym (call-broken a.t q a.region.now p.sound_region a.old p.found_value c.in_err-request.field-0.0 first))

pub returns-in_err-judge_standing : goal.returns-in_err-judge_standing
returns-in_err-judge_standing c =
    let a = c.args in
    let p = c.requires in
    let q = request_of a.name.now a.vendor.now a.asking.attributes a.bytes.now a.asking.presence a.asking.verdict in
    let first = ap first_broken (request-fields a.t q) ∙ kept-none _ (sym c.in_ok-request.ensures) in
    let rule = c.in_err-judge_standing.field-0.0 in
    let e = err_from_is_err_and c.from_residual-in_err-judge_standing.result c.from_residual-in_err-judge_standing.ensures.1 in
    rw (e.1, e.2) (sym (standing-broken a.t q a.region.now p.sound_region a.old p.found_value first rule (breaks-some _ rule (sym c.in_err-judge_standing.ensures))))

pub returns : goal.returns
returns c =
    let a = c.args in
    let p = c.requires in
    let q = request_of a.name.now a.vendor.now a.asking.attributes a.bytes.now a.asking.presence a.asking.verdict in
    let r = a.region.now in
    let first = ap first_broken (request-fields a.t q) ∙ kept-none _ (sym c.in_ok-request.ensures) in
    c.outcome.ensures
    ∙ ap₂ (λ (b : List ℕ) (n : ℕ). outcome_by r a.old a.asking.attributes b n) p.proper_data.0
    (p.proper_data.1 ∙ ap (λ (b : List ℕ). new_size r a.old a.asking.attributes (length b)) p.proper_data.0)
    ∙ sym (none-broken a.t q r p.sound_region a.old p.found_value first (kept-none _ (sym c.in_ok-judge_standing.ensures)))
