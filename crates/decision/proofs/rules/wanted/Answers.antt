-- `decision::rules::wanted` meets its contract: by whether the name is a key's, custom mode with presence, and the mode. Assumes nothing.
use mathlib.Core.Path.{◌≡◌, sym, ap, ◌∙◌}
use mathlib.Core.Bool.{Bool, false, not, ◌&&◌}
use Rattle.model.specs.Name.{keyed}
use Rattle.model.specs.Request.{deployed_mode, is_deployed_def, key_verdicts_def, in_person_def, wanted_verdicts}
use Rattle.decision.specs.Parts.{stores_by, found_mode, mode_by_def}
use Rattle.decision.proofs.Old.{user-found, deployed-found}
use Rattle.decision.proofs.rules.wanted.Goals as goal
use Rattle.decision.proofs.rules.wanted.Goals.{else-in_person-via-then-in_person+else-not-is_deployed, else-in_person-via-else-in_person}

pub returns-then-not-is_deployed : goal.returns-then-not-is_deployed
unfolding wanted_verdicts
returns-then-not-is_deployed c =
    let r = c.args.region.now in
    let deployed = c.is_deployed.ensures ∙ ap (λ (u : Bool). u && stores_by r deployed_mode (found_mode r)) c.user_mode-user.ensures ∙ sym (deployed-found r) in
    rw (sym c.is_key_name.ensures ∙ c.if-is_key_name.true, sym c.in_person.ensures ∙ c.if-in_person.true, sym deployed ∙ c.if-not-is_deployed.true)

pub returns-then-is_key_name : goal.returns-then-is_key_name
unfolding wanted_verdicts
returns-then-is_key_name c =
    let a = c.args in
    let r = a.region.now in
    let here : (in_person_def a.custom a.presence && not (is_deployed_def (mode_by_def r))) ≡ false =
    elim c.else-in_person.branch [
      | else-in_person-via-then-in_person+else-not-is_deployed w ↦ rw (
        sym c.in_person.ensures ∙ w.if-in_person.true,
        sym (w.is_deployed.ensures ∙ ap (λ (u : Bool). u && stores_by r deployed_mode (found_mode r)) c.user_mode-user.ensures ∙ sym (deployed-found r)) ∙ w.if-not-is_deployed.false,
      )
      | else-in_person-via-else-in_person w ↦ rw (sym c.in_person.ensures ∙ w.if-in_person.false)
    ]
    in
    rw (sym c.is_key_name.ensures ∙ c.if-is_key_name.true, here)
    (c.key_verdicts.ensures ∙ ap (λ (u : Bool). key_verdicts_def u (keyed a.name.now a.vendor.now)) (c.user_mode-user.ensures ∙ sym (user-found r)))

pub returns : goal.returns
unfolding wanted_verdicts
returns c = rw (sym c.is_key_name.ensures ∙ c.if-is_key_name.false) c.other_verdicts.ensures
