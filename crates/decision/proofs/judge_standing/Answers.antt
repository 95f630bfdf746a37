-- `decision::judge_standing` meets its contract: rules 9, 24 and 10 are asked where 7 and 8 are kept, of the verdict wanted and the stamp to store. Assumes nothing.
use Prim.Native.Nat.{ℕ}
use mathlib.Core.Path.{sym, ap, ap₂, ◌∙◌}
use mathlib.Core.Bool.{Bool}
use mathlib.Core.List.{List}
use Rattle.model.specs.Name.{keyed}
use Rattle.model.specs.Request.{wanted_verdicts}
use Rattle.model.specs.Rules.{first_broken}
use Rattle.policy.specs.Descriptor.{stamp_of_def}
use Rattle.decision.specs.Parts.{judged_of, stands, mode_by_def, standing_by, verdict_by}
use Rattle.decision.proofs.Broken.{after_kept, after-breaks}
use Rattle.std.proofs.lemmas.Result.{err_from_is_err_and}
use Rattle.decision.proofs.Old.{is-stands}
use Rattle.decision.proofs.judge_standing.Goals as goal

pub returns-in_err-standing : goal.returns-in_err-standing
returns-in_err-standing c =
    let a = c.args in
    let r = a.region.now in
    let k = keyed a.name.now a.vendor.now in
    let front = standing_by a.t.runtime a.attributes a.bytes.now a.old in
    let back = verdict_by r a.old k a.attributes (wanted_verdicts a.t.custom a.presence (mode_by_def r) k a.attributes (stands a.old)) a.verdict (stamp_of_def a.attributes a.bytes.now) in
    let e = err_from_is_err_and c.from_residual.result c.from_residual.ensures.1 in
    rw (e.1, e.2) (sym (after-breaks front back c.in_err-standing.field-0.0 (sym c.in_err-standing.ensures)))

pub returns : goal.returns
returns c =
    let a = c.args in
    let r = a.region.now in
    let k = keyed a.name.now a.vendor.now in
    let wanted : Bool → List ℕ = λ s. wanted_verdicts a.t.custom a.presence (mode_by_def r) k a.attributes s in
    let front = standing_by a.t.runtime a.attributes a.bytes.now a.old in
    let back = verdict_by r a.old k a.attributes (wanted (stands a.old)) a.verdict (stamp_of_def a.attributes a.bytes.now) in
    c.verdict.ensures
    ∙ ap₂ (λ (w s : List ℕ). judged_of (first_broken (verdict_by r a.old k a.attributes w a.verdict s))) (c.wanted-w.ensures ∙ ap wanted (c.is_some.ensures ∙ is-stands a.old)) c.stamp-stamp.ensures
    ∙ sym (after_kept front back (sym c.in_ok-standing.ensures))
