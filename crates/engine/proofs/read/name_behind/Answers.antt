-- `engine::read::name_behind` meets its contract: rules 1, 2, 3 and 22 first, then what `name_from` answers of the region.
-- Assumes nothing.
use native.Mathlib.Omega.{arith}
use mathlib.Core.Path.{sym, ap, refl, ◌∙◌}
use Prim.Native.Nat.{ℕ}
use mathlib.Core.List.{List}
use lib.ListN.{length}
use Rattle.model.specs.Name.{keyed}
use Rattle.model.specs.Region.{entries, values}
use Rattle.region.specs.Met.{met_of}
use Rattle.model.specs.Rules.{named_bytes, value_to_name}
use Rattle.engine.specs.Read.{next_at}
use Rattle.engine.proofs.Opened.{next-short, opens, refuses}
use Rattle.engine.proofs.Reading.{read_found, read-refused, read_as, region-name}
use Rattle.engine.proofs.read.name_behind.Goals as goal

pub open-opened-requires : goal.open-opened-requires
open-opened-requires c = λ n. next-short c.args.name.now (sym c.is_next_named.ensures ∙ n)

pub overflow_mul-ready : goal.overflow_mul-ready
overflow_mul-ready c =
    let img = c.args.image.now in
    let o = opens img c.is_next_named.result c.is_next_foreign.result c.in-Ok.ensures.kept.0 in
    record { fits = omega (arith, o.ready.few) }

pub name_from-requires : goal.name_from-requires
name_from-requires c =
    let a = c.args in
    let o = opens a.image.now c.is_next_named.result c.is_next_foreign.result c.in-Ok.ensures.kept.0 in
    let same = c.cut.ensures ∙ o.ready.cut in
    let n = ap length same in
    (omega (arith, o.ready.few, o.ready.long), c.in-Ok.ensures.kept.1 ∙ ap (λ (r : List ℕ). met_of (keyed a.name.now a.vendor.now) (entries r)) (sym same))

pub returns-in-Ok : goal.returns-in-Ok
returns-in-Ok c =
    let a = c.args in
    let img = a.image.now in
    let r = c.cut.result.now in
    let k = keyed a.name.now a.vendor.now in
    let o = opens img c.is_next_named.result c.is_next_foreign.result c.in-Ok.ensures.kept.0 in
    let found = value_to_name a.view.vendor a.view.modem a.view.runtime k (values (entries r)) in
    let here = read_found img found named_bytes (λ v. 0) a.buffer.now o c.name_from.ensures in
    let value = region-name a.view k img r (c.cut.ensures ∙ o.ready.cut) in
    read_as img named_bytes (λ v. 0) a.buffer.now value c.is_next_named.ensures c.is_next_foreign.ensures here

pub returns-in-Err : goal.returns-in-Err
returns-in-Err c =
    let a = c.args in
    let img = a.image.now in
    let k = keyed a.name.now a.vendor.now in
    let x = refuses img c.in-Err.rule c.is_next_named.result c.is_next_foreign.result c.in-Err.ensures.broken in
    let value = next_at a.view k img in
    rw c.refused.ensures
    (read_as img named_bytes (λ v. 0) a.buffer.now refl c.is_next_named.ensures c.is_next_foreign.ensures (read-refused img value named_bytes (λ v. 0) a.buffer.now x))
