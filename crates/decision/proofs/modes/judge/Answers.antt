-- `decision::modes::judge` meets its contract: each test is one of the rules. Assumes nothing.
use mathlib.Core.Path.{sym, ap, ◌∙◌}
use mathlib.Core.Bool.{Bool, ◌&&◌, ◌||◌}
use Rattle.model.specs.Request.{key_pk, key_mode}
use Rattle.decision.specs.Parts.{judged_of}
use Rattle.decision.specs.Modes.{barring, transition_rules}
use Rattle.decision.proofs.Broken.{broken-here, kept_here, none_here}
use Rattle.decision.proofs.Transitions.{mode-foreign}
use Rattle.decision.proofs.modes.judge.Goals as goal

pub returns-then-said : goal.returns-then-said
unfolding transition_rules
returns-then-said c =
    let t = c.args.said in
    ap judged_of (sym (broken-here _ _ _ (mode-foreign t.vendor t.modem ∙ c.if-said.true)))

pub returns-then-is_barred : goal.returns-then-is_barred
unfolding transition_rules
returns-then-is_barred c =
    let a = c.args in
    let locked = sym (c.is_barred.ensures
    ∙ ap (λ (b : Bool). barring a.held a.locks.now key_mode || (b && barring a.held a.locks.now key_pk)) c.loses.ensures) in
    ap judged_of
    (sym
    (kept_here _ _ _ (mode-foreign a.said.vendor a.said.modem ∙ c.if-said.false)
    ∙ broken-here _ _ _ (locked ∙ c.if-is_barred.true)))

pub returns-then-another : goal.returns-then-another
unfolding transition_rules
returns-then-another c =
    let a = c.args in
    let locked = sym (c.is_barred.ensures
    ∙ ap (λ (b : Bool). barring a.held a.locks.now key_mode || (b && barring a.held a.locks.now key_pk)) c.loses.ensures) in
    ap judged_of
    (sym
    (kept_here _ _ _ (mode-foreign a.said.vendor a.said.modem ∙ c.if-said.false)
    ∙ kept_here _ _ _ (locked ∙ c.if-is_barred.false)
    ∙ broken-here _ _ _ (sym c.another.ensures ∙ c.if-another.true)))

pub returns : goal.returns
unfolding transition_rules
returns c =
    let a = c.args in
    let locked = sym (c.is_barred.ensures
    ∙ ap (λ (b : Bool). barring a.held a.locks.now key_mode || (b && barring a.held a.locks.now key_pk)) c.loses.ensures) in
    ap judged_of
    (sym
    (kept_here _ _ _ (mode-foreign a.said.vendor a.said.modem ∙ c.if-said.false)
    ∙ kept_here _ _ _ (locked ∙ c.if-is_barred.false)
    ∙ kept_here _ _ _ (sym c.another.ensures ∙ c.if-another.false)
    ∙ none_here))
