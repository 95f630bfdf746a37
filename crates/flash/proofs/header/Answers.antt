-- `flash::header` meets its contract, by w. Assumes nothing.
use Prim.Native.Nat.{◌+◌, ◌-◌}
use native.Mathlib.Omega.{arith}
use Rattle.plan.specs.declared.Step.TheVariants.{Header}
use Rattle.plan.proofs.Stores.{header-piece}
use Rattle.flash.proofs.Dead.{piece-turned, header-short, header-long, header-places}
use Rattle.flash.proofs.header.Goals as goal

pub header_bytes-requires : goal.header_bytes-requires
header_bytes-requires c =
    (header-short c.requires.0 c.if-w-eq1.true, c.requires.1, c.requires.2, c.requires.3)

pub returns-then-w-eq1 : goal.returns-then-w-eq1
returns-then-w-eq1 c =
    rw c.if-w-eq1.true c.header_bytes.ensures

pub overflow_add-at : goal.overflow_add-at
overflow_add-at c =
    let l = header-long c.requires.0 c.if-w-eq1.false in omega (arith, l, c.requires.3)

pub overflow_add-from : goal.overflow_add-from
overflow_add-from c =
    let l = header-long c.requires.0 c.if-w-eq1.false in omega (arith, l, c.requires.2)

pub overflow_sub-i : goal.overflow_sub-i
overflow_sub-i c =
    let l = header-long c.requires.0 c.if-w-eq1.false in omega (arith, l)

pub pages-requires : goal.pages-requires
pages-requires c =
    let l = header-long c.requires.0 c.if-w-eq1.false in (omega (arith, l), c.requires.1, omega (arith, l, c.requires.2), omega (arith, l, c.requires.3), c.requires.4)

pub returns : goal.returns
returns c =
    let a = c.args in
    let t = c.if-w-eq1.false in
    let l = header-long c.requires.0 t in
    piece-turned a.dead.now a.w a.content.now (Header a.at a.from) a.i (a.at + a.i) (a.from + a.i) (60 - a.i) a.left a.image.now _ c.pages.result
    (header-piece a.w a.content.now a.at a.from a.i t) (header-places a.w a.i t l) c.pages.ensures
