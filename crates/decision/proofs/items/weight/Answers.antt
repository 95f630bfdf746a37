-- `decision::items::weight` meets its contract: by what the item comes to. Assumes nothing.
use native.Mathlib.Omega.{arith}
use mathlib.Core.Path.{ap, ◌∙◌}
use Rattle.decision.specs.Profile.{leaving_by, weight_by}
use Rattle.decision.proofs.items.weight.Goals as goal

pub entry_size-requires : goal.entry_size-requires
entry_size-requires c =
    let p = c.requires in
    omega (arith, p.0, p.1 c.in-Put.is)

pub returns-in-Nothing : goal.returns-in-Nothing
unfolding weight_by
returns-in-Nothing c =
    let e = c.default.ensures in
    rw c.in-Nothing.is (λ i. record { at = e.0 i; gone = e.1.0 i; comes = e.1.1 i })

pub returns-in-Remove : goal.returns-in-Remove
unfolding weight_by
returns-in-Remove c = rw c.in-Remove.is c.leaving.ensures

pub returns-in-Put : goal.returns-in-Put
unfolding weight_by
returns-in-Put c =
    let a = c.args in
    rw c.in-Put.is (c.leaving-in-Put.ensures ∙ ap (leaving_by a.region.now a.old) c.entry_size.ensures)
