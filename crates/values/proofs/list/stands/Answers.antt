-- `values::list::stands` meets its contract: the state decides, and of a 3E entry whether any entry is a 3F entry of its name.
-- Assumes nothing.
use Rattle.std.proofs.Common.{ap, ap₂, ◌∙◌, eq-eqb, ne_eqb, rules, tests}
use mathlib.Core.Bool.{not}
use Rattle.model.specs.Lists.{any}
use Rattle.model.specs.Name.{keyed}
use Rattle.model.specs.Region.{entries_in, is_value, is_entry_def}
use Rattle.region.proofs.Searching.{tells}
use Rattle.values.proofs.list.stands.Goals as goal

pub returns-then-e-eq63 : goal.returns-then-e-eq63
unfolding is_value
returns-then-e-eq63 c = rw (eq-eqb _ _ c.if-e-eq63.true)

pub returns-then-e-ne62 : goal.returns-then-e-ne62
unfolding is_value
returns-then-e-ne62 c = rw (ne_eqb _ _ c.if-e-eq63.false, ne_eqb _ _ c.if-e-ne62.true)

pub returns : goal.returns
unfolding is_value
returns c =
    let a = c.args in
    let k = keyed c.name-name.result.now c.vendor-vendor.result.now in
    let told = tells (is_entry_def 0x3F k) c.any.new.self _ c.any.result c.any.ensures.ran (λ x b q h. search (rules, tests)) ∙ ap (any (is_entry_def 0x3F k)) c.entries.ensures in
    let own = ap₂ (λ n v. any (is_entry_def 0x3F (keyed n v)) (entries_in a.y a.region.now)) c.name-name.ensures c.vendor-vendor.ensures in
    rw (ne_eqb _ _ c.if-e-eq63.false, eq-eqb _ _ c.if-e-ne62.false) (ap not (told ∙ own))
