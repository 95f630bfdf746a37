-- `decision::rules::request` meets its contract: each test is one rule's, in the rules' order. Assumes nothing.
use mathlib.Core.Path.{sym, ap, ◌∙◌}
use Rattle.model.specs.Rules.{rule3, request_rules}
use Rattle.decision.specs.Parts.{judged_of}
use Rattle.decision.proofs.Broken.{broken-here, kept_here, none_here}
use Rattle.decision.proofs.rules.request.Goals as goal

pub returns-then-not-is_named : goal.returns-then-not-is_named
unfolding request_rules rule3
returns-then-not-is_named c = ap judged_of (sym (broken-here _ _ _ (rw (sym c.is_named.ensures, c.if-not-is_named.true))))

pub returns-then-t : goal.returns-then-t
unfolding request_rules rule3
returns-then-t c =
    ap judged_of
    (sym
    (kept_here _ _ _ (rw (sym c.is_named.ensures, c.if-not-is_named.false))
    ∙ broken-here _ _ _ c.if-t.true))

pub returns-then-attributes_broken : goal.returns-then-attributes_broken
unfolding request_rules rule3
returns-then-attributes_broken c =
    ap judged_of
    (sym
    (kept_here _ _ _ (rw (sym c.is_named.ensures, c.if-not-is_named.false))
    ∙ kept_here _ _ _ c.if-t.false
    ∙ broken-here _ _ _ (sym c.attributes_broken.ensures ∙ c.if-attributes_broken.true)))

pub returns-then-key_attributes_broken : goal.returns-then-key_attributes_broken
unfolding request_rules rule3
returns-then-key_attributes_broken c =
    ap judged_of
    (sym
    (kept_here _ _ _ (rw (sym c.is_named.ensures, c.if-not-is_named.false))
    ∙ kept_here _ _ _ c.if-t.false
    ∙ kept_here _ _ _ (sym c.attributes_broken.ensures ∙ c.if-attributes_broken.false)
    ∙ broken-here _ _ _ (sym c.key_attributes_broken.ensures ∙ c.if-key_attributes_broken.true)))

pub returns-then-record_broken : goal.returns-then-record_broken
unfolding request_rules rule3
returns-then-record_broken c =
    ap judged_of
    (sym
    (kept_here _ _ _ (rw (sym c.is_named.ensures, c.if-not-is_named.false))
    ∙ kept_here _ _ _ c.if-t.false
    ∙ kept_here _ _ _ (sym c.attributes_broken.ensures ∙ c.if-attributes_broken.false)
    ∙ kept_here _ _ _ (sym c.key_attributes_broken.ensures ∙ c.if-key_attributes_broken.false)
    ∙ broken-here _ _ _ (sym c.record_broken.ensures ∙ c.if-record_broken.true)))

pub returns-then-t-2 : goal.returns-then-t-2
unfolding request_rules rule3
returns-then-t-2 c =
    ap judged_of
    (sym
    (kept_here _ _ _ (rw (sym c.is_named.ensures, c.if-not-is_named.false))
    ∙ kept_here _ _ _ c.if-t.false
    ∙ kept_here _ _ _ (sym c.attributes_broken.ensures ∙ c.if-attributes_broken.false)
    ∙ kept_here _ _ _ (sym c.key_attributes_broken.ensures ∙ c.if-key_attributes_broken.false)
    ∙ kept_here _ _ _ (sym c.record_broken.ensures ∙ c.if-record_broken.false)
    ∙ broken-here _ _ _ c.if-t-2.true))

pub returns : goal.returns
unfolding request_rules rule3
returns c =
    ap judged_of
    (sym
    (kept_here _ _ _ (rw (sym c.is_named.ensures, c.if-not-is_named.false))
    ∙ kept_here _ _ _ c.if-t.false
    ∙ kept_here _ _ _ (sym c.attributes_broken.ensures ∙ c.if-attributes_broken.false)
    ∙ kept_here _ _ _ (sym c.key_attributes_broken.ensures ∙ c.if-key_attributes_broken.false)
    ∙ kept_here _ _ _ (sym c.record_broken.ensures ∙ c.if-record_broken.false)
    ∙ kept_here _ _ _ c.if-t-2.false
    ∙ none_here))
