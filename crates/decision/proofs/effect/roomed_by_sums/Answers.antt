-- `decision::effect::roomed_by_sums` meets its contract: where a value is to be put, the sums after it are judged. Assumes nothing.
use Prim.Native.Nat.{ℕ, ◌+◌, ◌^◌, ◌<◌}
use native.Mathlib.Omega.{arith}
use mathlib.Core.Path.{sym, ap, ap₂, ◌∙◌}
use mathlib.Core.Bool.{Bool}
use lib.ListN.{length}
use Rattle.model.specs.Entry.{header_size_def, rounded}
use Rattle.model.specs.Region.{record_bit}
use Rattle.model.specs.Rules.{first_broken}
use Rattle.decision.specs.Parts.{room_by, room_after_def, roomed_by}
use Rattle.decision.proofs.Broken.{kept-none, breaks-some}
use borrow.Author.Rules.{rules}
use Rattle.std.proofs.lemmas.Result.{err_from_is_err_and}
use Rattle.decision.proofs.effect.roomed_by_sums.Goals as goal

pub entry_size-requires : goal.entry_size-requires
entry_size-requires c =
    let few = c.requires.small_put c.in-Put.is in
    let named : length c.args.name.now < 2 ^ 63 = search rules in
    omega (arith, few, named)

pub after-sums-requires : goal.after-sums-requires
after-sums-requires c =
    let p = c.requires in
    let few = p.small_put c.in-Put.is in
    let named : length c.args.name.now < 2 ^ 63 = search rules in
    (p.short_region.0, omega (arith, few, named, c.entry_size.ensures), rw c.is_own-own.ensures p.short_region.1)

pub room-requires : goal.room-requires
room-requires c = c.after-sums.ensures.1

pub returns-in_err-room-in-Put : goal.returns-in_err-room-in-Put
unfolding roomed_by room_after_def
returns-in_err-room-in-Put c =
    let a = c.args in
    let r = a.region.now in
    let same =
    ap (room_by a.t (length r) c.is_error_record-error.result) c.after-sums.ensures.0
    ∙ ap₂ (λ (e : Bool) (n : ℕ). room_after_def a.t r a.old c.is_own-own.result e n) c.is_error_record-error.ensures
    c.entry_size.ensures
    ∙ ap (λ (o : Bool). room_after_def a.t r a.old o (record_bit a.attributes) (rounded (header_size_def + length a.name.now + a.size))) c.is_own-own.ensures in
    let first = breaks-some _ c.in_err-room-in-Put.field-0.0 (sym c.in_err-room-in-Put.ensures) in
    let p = err_from_is_err_and c.from_residual.result c.from_residual.ensures.1 in
    rw (p.1, p.2, c.in-Put.is) (rw (sym (ap first_broken same) ∙ first))

pub returns-in_ok-room-in-Put : goal.returns-in_ok-room-in-Put
unfolding roomed_by room_after_def
returns-in_ok-room-in-Put c =
    let a = c.args in
    let r = a.region.now in
    let same =
    ap (room_by a.t (length r) c.is_error_record-error.result) c.after-sums.ensures.0
    ∙ ap₂ (λ (e : Bool) (n : ℕ). room_after_def a.t r a.old c.is_own-own.result e n) c.is_error_record-error.ensures
    c.entry_size.ensures
    ∙ ap (λ (o : Bool). room_after_def a.t r a.old o (record_bit a.attributes) (rounded (header_size_def + length a.name.now + a.size))) c.is_own-own.ensures in
    let first = kept-none _ (sym c.in_ok-room-in-Put.ensures) in
    rw c.in-Put.is (rw (sym (ap first_broken same) ∙ first))

pub returns-in-Remove : goal.returns-in-Remove
unfolding roomed_by
returns-in-Remove c = rw c.in-Remove.is

pub returns-in-Nothing : goal.returns-in-Nothing
unfolding roomed_by
returns-in-Nothing c = rw c.in-Nothing.is
