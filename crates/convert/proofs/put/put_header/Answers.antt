-- `convert::put::put_header` meets its contract: front, zeros, sizes and GUID, one behind the other.
-- Assumes nothing.
use Prim.Native.Nat.{ℕ, ◌*◌}
use native.Mathlib.Omega.{arith}
use mathlib.Core.Path.{ap, ◌∙◌}
use lib.ListN.{length, length-replicate}
use Rattle.output.proofs.Writing.{wrote_as}
use Rattle.convert.proofs.Bare.{length_front, length-sizes, header-wrote}
use Rattle.convert.proofs.put.put_header.Goals as goal

pub put_bytes-next-requires-2 : goal.put_bytes-next-requires-2
put_bytes-next-requires-2 c =
    let a = c.args in
    let k = length-replicate {A = ℕ} (4 * a.y.words) 0 in
    let i = ap length c.front-front.ensures ∙ length_front a.attributes in
    let j = ap length c.sizes-sizes.ensures ∙ length-sizes a.name a.size in
    omega (arith, i, j, k, c.put_fill-next.ensures.place, c.put_bytes-next.ensures.place)

pub put_bytes-requires : goal.put_bytes-requires
put_bytes-requires c =
    let a = c.args in
    let k = length-replicate {A = ℕ} (4 * a.y.words) 0 in
    let i = ap length c.front-front.ensures ∙ length_front a.attributes in
    let j = ap length c.sizes-sizes.ensures ∙ length-sizes a.name a.size in
    omega (arith, i, j, k, c.put_bytes-next-2.ensures.place, c.put_fill-next.ensures.place, c.put_bytes-next.ensures.place)

pub returns : goal.returns
returns c =
    let a = c.args in
    let first = wrote_as c.front-front.ensures c.put_bytes-next.ensures in
    let third = wrote_as c.sizes-sizes.ensures c.put_bytes-next-2.ensures in
    header-wrote a.y a.attributes a.name a.size first c.put_fill-next.ensures third c.put_bytes.ensures
