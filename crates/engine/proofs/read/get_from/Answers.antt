-- `engine::read::get_from` meets its contract: the entry that `to_get` finds holds the value to get.
-- Assumes nothing.
use native.Mathlib.Omega.{arith}
use mathlib.Core.Path.{ap}
use lib.ListN.{length}
use Rattle.model.specs.Name.{keyed}
use Rattle.model.specs.Walk.{entry_value_def}
use Rattle.model.specs.Region.{entries, values}
use Rattle.model.specs.Rules.{got_bytes, value_to_get}
use Rattle.region.specs.Walk.{entry_at}
use Rattle.query.specs.Query.{entry_to_get}
use Rattle.query.proofs.Held.{get_value}
use Rattle.engine.proofs.Reading.{answered-absent, answered-found, value_found, value_none, entry-attributes, short-data}
use Rattle.engine.proofs.read.get_from.Goals as goal

pub to_get-found-requires : goal.to_get-found-requires
to_get-found-requires c = c.requires.1

pub returns-in_default : goal.returns-in_default
returns-in_default c =
    let a = c.args in
    let r = a.region.now in
    let k = keyed a.name.now a.vendor.now in
    let f = c.to_get-found in
    let v = value_none r f.result (entry_to_get a.runtime k (entries r)) f.ensures (value_to_get a.runtime k (values (entries r))) (get_value a.runtime k (entries r)) c.in_default.is in
    rw c.refused.ensures (answered-absent (value_to_get a.runtime k (values (entries r))) v got_bytes (λ v. v.attributes) a.buffer.now)

pub give-requires : goal.give-requires
give-requires c =
    let a = c.args in
    let n = ap length c.data_of.ensures in
    let s = short-data a.region.now c.in-Some.field-0.at c.in-Some.field-0.entry in
    omega arith

pub returns : goal.returns
returns c =
    let a = c.args in
    let r = a.region.now in
    let k = keyed a.name.now a.vendor.now in
    let f = c.to_get-found in
    let v = value_found r f.result (entry_to_get a.runtime k (entries r)) f.ensures (value_to_get a.runtime k (values (entries r))) (get_value a.runtime k (entries r)) c.in-Some.field-0 c.in-Some.is in
    answered-found (entry_value_def (entry_at r c.in-Some.field-0.at c.in-Some.field-0.entry)) (value_to_get a.runtime k (values (entries r))) v got_bytes (λ v. v.attributes) a.buffer.now
    c.data_of.result.now c.data_of.ensures c.in-Some.field-0.entry.attributes (entry-attributes r c.in-Some.field-0.at c.in-Some.field-0.entry) c.give.ensures
