use Prim.Native.Nat.{◌≤◌}
use native.Mathlib.Omega.{arith}
use mathlib.Core.Path.{◌≡◌, refl, sym, ◌∙◌}
use lib.ListN.{length, get_or}
use Rattle.slices.proofs.Blank.{blank-four, ended-four, joined-bound}
use Rattle.slices.proofs.are_blank.Goals as goal

pub loop-i-init : goal.loop-i-init
loop-i-init c = (omega arith, refl)

pub loop-i-preserved : goal.loop-i-preserved
loop-i-preserved c =
    let p = c.args in
    let i = c.loop-i.i in
    let x = c.loop-i.both in
    let a = p.a.now in
    let b = p.b.now in
    let u = p.c.now in
    let v = p.d.now in
    let ha : get_or a i 0 ≤ 0xFF = omega (arith, c.type_inv.a i) in
    let hb : get_or b i 0 ≤ 0xFF = omega (arith, c.type_inv.b i) in
    let hu : get_or u i 0 ≤ 0xFF = omega (arith, c.type_inv.c i) in
    let hv : get_or v i 0 ≤ 0xFF = omega (arith, c.type_inv.d i) in
    (joined-bound x (get_or a i 0) (get_or b i 0) (get_or u i 0) (get_or v i 0) c.loop-i.invariant.0, c.loop-i.invariant.1 ∙ blank-four a b u v i x (omega arith) (omega arith) (omega arith) (omega arith) c.loop-i.invariant.0 ha hb hu hv)

pub returns : goal.returns
returns c =
    let p = c.args in
    let done : c.loop-i.i ≡ length p.a.now = omega arith in
    sym (c.loop-i.invariant.1 ∙ rw done (ended-four p.a.now p.b.now p.c.now p.d.now c.loop-i.both (omega arith) (omega arith) (omega arith)))
