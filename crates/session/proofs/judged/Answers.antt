-- `session::judged` meets its contract: its tests are those of the rules, in their order. Assumes nothing.
use mathlib.Core.Path.{◌≡◌, sym, ◌∙◌}
use mathlib.Core.Bool.{true, false}
use lib.Dec.{eqb}
use Rattle.model.specs.Name.{Key, well_named}
use Rattle.model.specs.Sides.{owns}
use Rattle.model.specs.Session.{counted_phase}
use Rattle.session.specs.Places.{held_from}
use Rattle.session.proofs.Locking.{wrong_name, wrong-side, wrong-phase, already, no-space, one_more}
use Rattle.session.proofs.judged.Goals as goal

pub returns-then-not-named : goal.returns-then-not-named
returns-then-not-named c =
    let a = c.args in
    let k : Key = record { name = a.name.now; vendor = a.vendor.now } in
    wrong_name a.modem a.phase a.used a.sizes a.locks.now a.guid.now k (sym c.is_named-named.ensures ∙ c.if-not-named.true)

pub returns-then-not-is_own : goal.returns-then-not-is_own
returns-then-not-is_own c =
    let a = c.args in
    let k : Key = record { name = a.name.now; vendor = a.vendor.now } in
    let n : well_named k.name ≡ true = sym c.is_named-named.ensures ∙ c.if-not-named.false in
    wrong-side a.modem a.phase a.used a.sizes a.locks.now a.guid.now k n (sym c.is_own.ensures ∙ c.if-not-is_own.true)

pub returns-then-not-boot : goal.returns-then-not-boot
returns-then-not-boot c =
    let a = c.args in
    let k : Key = record { name = a.name.now; vendor = a.vendor.now } in
    let n : well_named k.name ≡ true = sym c.is_named-named.ensures ∙ c.if-not-named.false in
    let o : owns a.guid.now a.modem k ≡ true = sym c.is_own.ensures ∙ c.if-not-is_own.false in
    wrong-phase a.modem a.phase a.used a.sizes a.locks.now a.guid.now k n o (sym c.in_boot-boot.ensures ∙ c.if-not-boot.true)

pub returns-then-is_locked : goal.returns-then-is_locked
returns-then-is_locked c =
    let a = c.args in
    let k : Key = record { name = a.name.now; vendor = a.vendor.now } in
    let n : well_named k.name ≡ true = sym c.is_named-named.ensures ∙ c.if-not-named.false in
    let o : owns a.guid.now a.modem k ≡ true = sym c.is_own.ensures ∙ c.if-not-is_own.false in
    let h : eqb (counted_phase a.phase) 0 ≡ true = sym c.in_boot-boot.ensures ∙ c.if-not-boot.false in
    already a.modem a.phase a.used a.sizes a.locks.now a.guid.now k n o h (sym c.is_locked.ensures ∙ c.if-is_locked.true)

pub returns-then-is_full : goal.returns-then-is_full
returns-then-is_full c =
    let a = c.args in
    let k : Key = record { name = a.name.now; vendor = a.vendor.now } in
    let n : well_named k.name ≡ true = sym c.is_named-named.ensures ∙ c.if-not-named.false in
    let o : owns a.guid.now a.modem k ≡ true = sym c.is_own.ensures ∙ c.if-not-is_own.false in
    let h : eqb (counted_phase a.phase) 0 ≡ true = sym c.in_boot-boot.ensures ∙ c.if-not-boot.false in
    let l : held_from a.sizes a.locks.now a.used k 0 ≡ false = sym c.is_locked.ensures ∙ c.if-is_locked.false in
    no-space a.modem a.phase a.used a.sizes a.locks.now a.guid.now k n o h l (sym c.is_full.ensures ∙ c.if-is_full.true)

pub returns : goal.returns
returns c =
    let a = c.args in
    let k : Key = record { name = a.name.now; vendor = a.vendor.now } in
    let n : well_named k.name ≡ true = sym c.is_named-named.ensures ∙ c.if-not-named.false in
    let o : owns a.guid.now a.modem k ≡ true = sym c.is_own.ensures ∙ c.if-not-is_own.false in
    let h : eqb (counted_phase a.phase) 0 ≡ true = sym c.in_boot-boot.ensures ∙ c.if-not-boot.false in
    let l : held_from a.sizes a.locks.now a.used k 0 ≡ false = sym c.is_locked.ensures ∙ c.if-is_locked.false in
    one_more a.modem a.phase a.used a.sizes a.locks.now a.guid.now k n o h l (sym c.is_full.ensures ∙ c.if-is_full.false)
