use Rattle.std.proofs.Common.{sym, ap, ◌∙◌}
use Rattle.std.proofs.Math.Option.{some}
use Rattle.model.specs.Name.{keyed}
use Rattle.model.specs.Region.{entries}
use Rattle.region.specs.Stored.{left}
use Rattle.region.specs.Walk.{entry_at}
use Rattle.region.specs.declared.Placed.{Placed}
use Rattle.region.proofs.Standing.{turned}
use Rattle.query.specs.Query.{is_shown_def, is_passed_def}
use Rattle.query.proofs.Seen.{shown-none, going-none, name-here, name-next, name-before}
use Rattle.query.proofs.Leading.{name-none, name-begin}
use Rattle.query.proofs.to_name.Goals as goal

pub returns-in_err-from : goal.returns-in_err-from
returns-in_err-from c =
    let a = c.args in
    rw c.from_residual.ensures (sym (name-none a.guid.now a.modem a.runtime (keyed a.name.now a.vendor.now) a.region.now a.met c.requires _ c.is_empty_name-passed.ensures (sym c.begin.ensures ∙ c.in_err-from.was)))

pub loop-e-init : goal.loop-e-init
loop-e-init c =
    let a = c.args in (
      tt,
      tt,
      record {
        from = c.in_ok-from.from;
        rest = ap left c.into_iter-e-iterator.ensures.into_iter_gives ∙ c.entries_from-e-items.ensures;
        known = name-begin a.guid.now a.modem a.runtime (keyed a.name.now a.vendor.now) a.region.now a.met c.requires _ c.is_empty_name-passed.ensures (sym c.begin.ensures ∙ c.in_ok-from.was);
      },
    )

pub returns : goal.returns
returns c =
    let i = c.loop-e.invariant.2 in
    sym (i.known ∙ going-none c.loop-e.passed _ (shown-none _ _ _ (record { walk = sym i.rest ∙ c.in-None.ensures.steps.0 })))

pub returns-then-is_shown : goal.returns-then-is_shown
returns-then-is_shown c =
    let a = c.args in
    let h = turned c.loop-e.invariant.2 c.in-Some.ensures.steps in
    let own = ap (is_shown_def a.guid.now a.modem a.runtime (entries a.region.now)) h.is in
    ap (λ (p : Placed). some (entry_at a.region.now p.at p.entry)) c.placed.ensures
    ∙ sym (h.known ∙ name-here h.turn _ _ _ _ c.if-not-passed.false (sym own ∙ sym c.is_shown.ensures ∙ c.if-is_shown.true))

pub loop-e-preserved : goal.loop-e-preserved
loop-e-preserved c =
    let a = c.args in
    let h = turned c.loop-e.invariant.2 c.in-Some.ensures.steps in
    let own = ap (is_shown_def a.guid.now a.modem a.runtime (entries a.region.now)) h.is in
    (tt, tt, record { from = c.in-Some.e.next; rest = h.rest; known = h.known ∙ name-next h.turn _ _ _ _ c.if-not-passed.false (sym own ∙ sym c.is_shown.ensures ∙ c.if-is_shown.false) })

pub loop-e-preserved-then-not-passed : goal.loop-e-preserved-then-not-passed
loop-e-preserved-then-not-passed c =
    let a = c.args in
    let h = turned c.loop-e.invariant.2 c.in-Some.ensures.steps in
    let own = ap (is_passed_def a.guid.now a.modem a.runtime (keyed a.name.now a.vendor.now) (entries a.region.now)) h.is in
    (tt, tt, record { from = c.in-Some.e.next; rest = h.rest; known = h.known ∙ name-before h.turn _ _ _ _ c.if-not-passed.true (c.is_passed-passed.ensures ∙ own) })
