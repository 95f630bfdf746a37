-- `engine::read::name_from` meets its contract: the entry that `to_name` finds holds the value to name.
-- Assumes nothing.
use native.Mathlib.Omega.{arith}
use mathlib.Core.Path.{ap, ap₂, refl, ◌∙◌}
use mathlib.Core.List.{◌++◌}
use lib.ListN.{length}
use Rattle.model.specs.Name.{keyed}
use Rattle.model.specs.Walk.{entry_value_def}
use Rattle.model.specs.Region.{entries, values}
use Rattle.model.specs.Rules.{named_bytes, value_to_name}
use Rattle.region.specs.Walk.{entry_at}
use Rattle.query.specs.Query.{entry_to_name}
use Rattle.query.proofs.Held.{name-value}
use Rattle.engine.proofs.Reading.{answered-absent, answered-found, value_found, value_none, entry-vendor, short-name, short-vendor}
use Rattle.engine.proofs.read.name_from.Goals as goal

pub to_name-found-requires : goal.to_name-found-requires
to_name-found-requires c = c.requires.1

pub returns-in_default : goal.returns-in_default
returns-in_default c =
    let a = c.args in
    let r = a.region.now in
    let k = keyed a.name.now a.vendor.now in
    let f = c.to_name-found in
    let v = value_none r f.result (entry_to_name a.view.vendor a.view.modem a.view.runtime k (entries r)) f.ensures (value_to_name a.view.vendor a.view.modem a.view.runtime k (values (entries r))) (name-value a.view.vendor a.view.modem a.view.runtime k (entries r)) c.in_default.is in
    rw c.refused.ensures (answered-absent (value_to_name a.view.vendor a.view.modem a.view.runtime k (values (entries r))) v named_bytes (λ v. 0) a.buffer.now)

pub give_name-requires : goal.give_name-requires
give_name-requires c =
    let a = c.args in
    let m = ap length c.vendor_of.ensures in
    let n = ap length c.name_of.ensures in
    let s = short-name a.region.now c.in-Some.field-0.at c.in-Some.field-0.entry in
    let u = short-vendor a.region.now c.in-Some.field-0.at in
    (omega arith, omega arith)

pub returns : goal.returns
returns c =
    let a = c.args in
    let r = a.region.now in
    let k = keyed a.name.now a.vendor.now in
    let f = c.to_name-found in
    let v = value_found r f.result (entry_to_name a.view.vendor a.view.modem a.view.runtime k (entries r)) f.ensures (value_to_name a.view.vendor a.view.modem a.view.runtime k (values (entries r))) (name-value a.view.vendor a.view.modem a.view.runtime k (entries r)) c.in-Some.field-0 c.in-Some.is in
    let guid = c.vendor_of.ensures ∙ entry-vendor r c.in-Some.field-0.at c.in-Some.field-0.entry in
    answered-found (entry_value_def (entry_at r c.in-Some.field-0.at c.in-Some.field-0.entry)) (value_to_name a.view.vendor a.view.modem a.view.runtime k (values (entries r))) v named_bytes (λ v. 0) a.buffer.now
    (c.vendor_of.result.now ++ c.name_of.result.now) (ap₂ ◌++◌ guid c.name_of.ensures) 0 refl c.give_name.ensures
