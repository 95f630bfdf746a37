-- `flash::turn` meets its contract, by the cases of the operation. Assumes nothing.
use Prim.Native.Nat.{◌+◌, ◌-◌}
use native.Mathlib.Omega.{arith}
use lib.ListN.{length}
use Rattle.model.specs.Image.{block}
use Rattle.plan.specs.declared.Step.TheVariants.{Program}
use Rattle.flash.proofs.Dead.{asked-as, turned_as, mark-turned, erase-turned, piece-turned}
use Rattle.plan.proofs.Stores.{program-piece}
use Rattle.flash.proofs.turn.Goals as goal

pub mark-requires : goal.mark-requires
mark-requires c =
    let a = c.args in
    let p = asked-as c.in-Mark.is a.w (length a.content.now) (length a.image.now) a.i a.image.now c.requires.0 c.requires.2 c.requires.3 in
    (p.1, p.2 (omega (arith, p.0)))

pub overflow_add-first : goal.overflow_add-first
unfolding block
overflow_add-first c =
    let a = c.args in
    let p = asked-as c.in-Erase.is a.w (length a.content.now) (length a.image.now) a.i a.image.now c.requires.0 c.requires.2 c.requires.3 in
    omega (arith, p.0, p.1)

pub clear-requires : goal.clear-requires
unfolding block
clear-requires c =
    let a = c.args in
    let p = asked-as c.in-Erase.is a.w (length a.content.now) (length a.image.now) a.i a.image.now c.requires.0 c.requires.2 c.requires.3 in
    omega (arith, p.0, p.1)

pub overflow_add-at : goal.overflow_add-at
overflow_add-at c =
    let a = c.args in
    let p = asked-as c.in-Program.is a.w (length a.content.now) (length a.image.now) a.i a.image.now c.requires.0 c.requires.2 c.requires.3 in
    omega (arith, p.0, p.1.1)

pub overflow_add-from : goal.overflow_add-from
overflow_add-from c =
    let a = c.args in
    let p = asked-as c.in-Program.is a.w (length a.content.now) (length a.image.now) a.i a.image.now c.requires.0 c.requires.2 c.requires.3 in
    omega (arith, p.0, p.1.0)

pub overflow_sub-len : goal.overflow_sub-len
overflow_sub-len c =
    let a = c.args in
    let p = asked-as c.in-Program.is a.w (length a.content.now) (length a.image.now) a.i a.image.now c.requires.0 c.requires.2 c.requires.3 in
    omega (arith, p.0)

pub program-requires : goal.program-requires
program-requires c =
    let a = c.args in
    let p = asked-as c.in-Program.is a.w (length a.content.now) (length a.image.now) a.i a.image.now c.requires.0 c.requires.2 c.requires.3 in
    (omega (arith, p.0), c.requires.1, omega (arith, p.0, p.1.0), omega (arith, p.0, p.1.1), c.requires.4)

pub header-requires : goal.header-requires
header-requires c =
    let a = c.args in
    let p = asked-as c.in-Header.is a.w (length a.content.now) (length a.image.now) a.i a.image.now c.requires.0 c.requires.2 c.requires.3 in
    (p.0, c.requires.1, p.1.0, p.1.1, c.requires.4)

pub returns-in-Nothing : goal.returns-in-Nothing
returns-in-Nothing c =
    let a = c.args in
    let p = asked-as c.in-Nothing.is a.w (length a.content.now) (length a.image.now) a.i a.image.now c.requires.0 c.requires.2 c.requires.3 in
    absurd (omega (arith, p.0))

pub returns-in-Mark : goal.returns-in-Mark
returns-in-Mark c =
    let a = c.args in
    let p = asked-as c.in-Mark.is a.w (length a.content.now) (length a.image.now) a.i a.image.now c.requires.0 c.requires.2 c.requires.3 in
    turned_as c.in-Mark.is a.dead.now a.w a.content.now a.i a.left a.image.now c.mark.result
    (mark-turned a.dead.now a.w a.content.now c.in-Mark.at c.in-Mark.v a.i a.left a.image.now _ c.mark.result c.requires.4 p.0 c.requires.1 c.mark.ensures.0 c.mark.ensures.1)

pub returns-in-Erase : goal.returns-in-Erase
returns-in-Erase c =
    let a = c.args in
    let p = asked-as c.in-Erase.is a.w (length a.content.now) (length a.image.now) a.i a.image.now c.requires.0 c.requires.2 c.requires.3 in
    turned_as c.in-Erase.is a.dead.now a.w a.content.now a.i a.left a.image.now 1
    (erase-turned a.dead.now a.w a.content.now c.in-Erase.first c.in-Erase.field-1 a.i a.left a.image.now _ c.requires.4 p.0 c.requires.1 c.clear.ensures)

pub returns-in-Program : goal.returns-in-Program
returns-in-Program c =
    let a = c.args in
    let p = asked-as c.in-Program.is a.w (length a.content.now) (length a.image.now) a.i a.image.now c.requires.0 c.requires.2 c.requires.3 in
    turned_as c.in-Program.is a.dead.now a.w a.content.now a.i a.left a.image.now c.program.result
    (piece-turned a.dead.now a.w a.content.now (Program c.in-Program.at c.in-Program.from c.in-Program.len) a.i (c.in-Program.at + a.i) (c.in-Program.from + a.i) (c.in-Program.len - a.i) a.left a.image.now _ c.program.result
    (program-piece a.w a.content.now c.in-Program.at c.in-Program.from c.in-Program.len a.i) (omega (arith, p.0)) c.program.ensures)

pub returns-in-Header : goal.returns-in-Header
returns-in-Header c =
    let a = c.args in
    turned_as c.in-Header.is a.dead.now a.w a.content.now a.i a.left a.image.now c.header.result
    c.header.ensures
