-- `query::to_get` meets its contract: the entry where the name was met is the value of that name, and the one to get if it is visible. Assumes nothing.
use mathlib.Core.Path.{sym, ap, ◌∙◌}
use Rattle.model.specs.Lists.{first}
use Rattle.model.specs.Name.{keyed}
use Rattle.region.proofs.Turns.{at_entry, at-end}
use Rattle.query.proofs.Seen.{seen_none, get-here}
use Rattle.query.proofs.Leading.{get_none, get-begin, sought-there}
use Rattle.query.proofs.to_get.Goals as goal

pub returns-in_err-at : goal.returns-in_err-at
returns-in_err-at c =
    let a = c.args in
    rw c.from_residual.ensures (sym (get_none a.runtime (keyed a.name.now a.vendor.now) a.region.now a.met c.requires (sym c.standing.ensures ∙ c.in_err-at.was)))

pub returns-in_err-entry : goal.returns-in_err-entry
returns-in_err-entry c =
    let a = c.args in
    let begun = get-begin a.runtime (keyed a.name.now a.vendor.now) a.region.now a.met c.requires (sym c.standing.ensures ∙ c.in_ok-at.was) in
    rw c.from_residual-in_err-entry.ensures (sym (begun ∙ ap (first _) (seen_none _ (at-end c.turn.ensures c.in_err-entry.was))))

pub returns-then-is_visible : goal.returns-then-is_visible
returns-then-is_visible c =
    let a = c.args in
    let k = keyed a.name.now a.vendor.now in
    let w = at_entry c.turn.ensures c.in_ok-entry.was in
    let stands = sym c.standing.ensures ∙ c.in_ok-at.was in
    let begun = get-begin a.runtime k a.region.now a.met c.requires stands in
    let sought = sought-there a.runtime k a.region.now a.met c.requires stands w (sym c.is_visible.ensures ∙ c.if-is_visible.true) in
    sym (begun ∙ get-here w _ _ sought)
