use Rattle.std.proofs.Common.{sym, ap, ◌∙◌}
use Rattle.std.proofs.Math.Option.{some}
use Rattle.model.specs.Lists.{first}
use Rattle.model.specs.Name.{keyed}
use Rattle.model.specs.Region.{entries}
use Rattle.region.specs.Stored.{left}
use Rattle.region.specs.Walk.{entry_at}
use Rattle.region.specs.declared.Placed.{Placed}
use Rattle.region.proofs.Standing.{turned}
use Rattle.query.specs.Query.{is_sought_def}
use Rattle.query.proofs.Seen.{seen_none, get-here, get-next}
use Rattle.query.proofs.Leading.{get_none, get-begin}
use Rattle.query.proofs.walk_to_get.Goals as goal

pub returns-in_err-standing : goal.returns-in_err-standing
returns-in_err-standing c =
    let a = c.args in
    rw c.from_residual.ensures (sym (get_none a.runtime (keyed a.name.now a.vendor.now) a.region.now a.met c.requires (sym c.standing.ensures ∙ c.in_err-standing.was)))

pub loop-e-init : goal.loop-e-init
loop-e-init c =
    let a = c.args in (
      tt,
      tt,
      record {
        from = c.in_ok-standing.field-0;
        rest = ap left c.into_iter-e-iterator.ensures.into_iter_gives ∙ c.entries_from-e-items.ensures;
        known = get-begin a.runtime (keyed a.name.now a.vendor.now) a.region.now a.met c.requires (sym c.standing.ensures ∙ c.in_ok-standing.was);
      },
    )

pub returns : goal.returns
returns c =
    let i = c.loop-e.invariant.2 in
    sym (i.known ∙ ap (first _) (seen_none _ (record { walk = sym i.rest ∙ c.in-None.ensures.steps.0 })))

pub returns-then-is_sought : goal.returns-then-is_sought
returns-then-is_sought c =
    let a = c.args in
    let i = c.loop-e.invariant.2 in
    let h = turned i c.in-Some.ensures.steps in
    let own = ap (is_sought_def a.runtime (keyed a.name.now a.vendor.now) (entries a.region.now)) h.is in
    ap (λ (p : Placed). some (entry_at a.region.now p.at p.entry)) c.placed.ensures ∙ sym (h.known ∙ get-here h.turn _ _ (sym own ∙ sym c.is_sought.ensures ∙ c.if-is_sought.true))

pub loop-e-preserved : goal.loop-e-preserved
loop-e-preserved c =
    let a = c.args in
    let i = c.loop-e.invariant.2 in
    let h = turned i c.in-Some.ensures.steps in
    let own = ap (is_sought_def a.runtime (keyed a.name.now a.vendor.now) (entries a.region.now)) h.is in
    (tt, tt, record { from = c.in-Some.e.next; rest = h.rest; known = h.known ∙ get-next h.turn _ _ (sym own ∙ sym c.is_sought.ensures ∙ c.if-is_sought.false) })
