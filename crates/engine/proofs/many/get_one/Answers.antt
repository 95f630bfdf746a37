-- `engine::many::get_one` meets its contract: rule 3, then 22, then what `get_from` answers. Assumes nothing.
use mathlib.Core.Path.{◌≡◌, sym, ap, ap₂, ◌∙◌}
use Rattle.model.specs.Name.{Key, keyed, well_named}
use Rattle.model.specs.Region.{entries, values}
use Rattle.region.specs.Met.{key_from, met_of}
use Rattle.engine.proofs.Several.{named-long, unnamed-one, foreign-one, found-one, one-as}
use Rattle.engine.proofs.many.get_one.Goals as goal

pub returns-then-not-is_named : goal.returns-then-not-is_named
returns-then-not-is_named c =
    let a = c.args in
    let named = c.is_named.ensures in
    let name = c.from-name.ensures in
    rw c.refused.ensures
    (unnamed-one a.view (values (entries a.region.now)) (key_from a.key.now) a.buffer.now (ap well_named (sym name) ∙ sym named ∙ c.if-not-is_named.true))

pub guid_of-vendor-requires : goal.guid_of-vendor-requires
guid_of-vendor-requires c =
    let a = c.args in
    named-long a.key.now (ap well_named (sym c.from-name.ensures) ∙ sym c.is_named.ensures ∙ c.if-not-is_named.false)

pub returns-then-is_foreign : goal.returns-then-is_foreign
returns-then-is_foreign c =
    let a = c.args in
    let vs = values (entries a.region.now) in
    let key : keyed c.from-name.result.now c.guid_of-vendor.result ≡ key_from a.key.now = ap₂ keyed c.from-name.ensures c.guid_of-vendor.ensures in
    rw c.refused-then-is_foreign.ensures
    (one-as a.view vs a.buffer.now key
    (foreign-one a.view vs (keyed c.from-name.result.now c.guid_of-vendor.result) a.buffer.now (sym c.is_named.ensures ∙ c.if-not-is_named.false) (sym c.is_foreign.ensures ∙ c.if-is_foreign.true)))

pub get_from-requires : goal.get_from-requires
get_from-requires c =
    let a = c.args in
    let key : keyed c.from-name.result.now c.guid_of-vendor.result ≡ key_from a.key.now = ap₂ keyed c.from-name.ensures c.guid_of-vendor.ensures in
    (c.requires.0, c.requires.1 ∙ ap (λ (k : Key). met_of k (entries a.region.now)) (sym key))

pub returns : goal.returns
returns c =
    let a = c.args in
    let vs = values (entries a.region.now) in
    let key : keyed c.from-name.result.now c.guid_of-vendor.result ≡ key_from a.key.now = ap₂ keyed c.from-name.ensures c.guid_of-vendor.ensures in
    one-as a.view vs a.buffer.now key
    (found-one a.view vs (keyed c.from-name.result.now c.guid_of-vendor.result) a.buffer.now (sym c.is_named.ensures ∙ c.if-not-is_named.false) (sym c.is_foreign.ensures ∙ c.if-is_foreign.false) c.get_from.ensures)
