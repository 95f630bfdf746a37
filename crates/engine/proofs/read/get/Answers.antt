-- `engine::read::get` meets its contract: rules 1, 2, 3 and 22 first, then what `get_from` answers of the region.
-- Assumes nothing.
use native.Mathlib.Omega.{arith}
use mathlib.Core.Path.{sym, ap, refl, ◌∙◌}
use Prim.Native.Nat.{ℕ}
use mathlib.Core.List.{List}
use lib.ListN.{length}
use Rattle.model.specs.Name.{keyed}
use Rattle.model.specs.Region.{entries, values, values_of}
use Rattle.region.specs.Met.{met_of}
use Rattle.model.specs.Rules.{got_bytes, value_to_get}
use Rattle.engine.proofs.Opened.{named-short, opens, refuses}
use Rattle.engine.proofs.Reading.{read_found, read-refused, read_as, region-get, get-answered}
use Rattle.engine.proofs.read.get.Goals as goal

pub open-opened-requires : goal.open-opened-requires
open-opened-requires c = λ n. named-short c.args.name.now (sym c.is_named.ensures ∙ n)

pub overflow_mul-ready : goal.overflow_mul-ready
overflow_mul-ready c =
    let img = c.args.image.now in
    let o = opens img c.is_named.result c.is_foreign.result c.in-Ok.ensures.kept.0 in
    record { fits = omega (arith, o.ready.few) }

pub get_from-requires : goal.get_from-requires
get_from-requires c =
    let a = c.args in
    let o = opens a.image.now c.is_named.result c.is_foreign.result c.in-Ok.ensures.kept.0 in
    let same = c.cut.ensures ∙ o.ready.cut in
    let n = ap length same in
    (omega (arith, o.ready.few, o.ready.long), c.in-Ok.ensures.kept.1 ∙ ap (λ (r : List ℕ). met_of (keyed a.name.now a.vendor.now) (entries r)) (sym same))

pub returns-in-Ok : goal.returns-in-Ok
returns-in-Ok c =
    let a = c.args in
    let img = a.image.now in
    let r = c.cut.result.now in
    let k = keyed a.name.now a.vendor.now in
    let o = opens img c.is_named.result c.is_foreign.result c.in-Ok.ensures.kept.0 in
    let found = value_to_get a.view.runtime k (values (entries r)) in
    let here = read_found img found got_bytes (λ v. v.attributes) a.buffer.now o c.get_from.ensures in
    let value = region-get a.view.runtime k img r (c.cut.ensures ∙ o.ready.cut) in
    get-answered a.c a.view k a.buffer.now img (read_as img got_bytes (λ v. v.attributes) a.buffer.now value c.is_named.ensures c.is_foreign.ensures here)

pub returns-in-Err : goal.returns-in-Err
returns-in-Err c =
    let a = c.args in
    let img = a.image.now in
    let k = keyed a.name.now a.vendor.now in
    let x = refuses img c.in-Err.rule c.is_named.result c.is_foreign.result c.in-Err.ensures.broken in
    let value = value_to_get a.view.runtime k (values_of img) in
    rw c.refused.ensures
    (get-answered a.c a.view k a.buffer.now img (read_as img got_bytes (λ v. v.attributes) a.buffer.now refl c.is_named.ensures c.is_foreign.ensures (read-refused img value got_bytes (λ v. v.attributes) a.buffer.now x)))
