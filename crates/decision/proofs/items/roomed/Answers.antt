-- `decision::items::roomed` meets its contract: room is asked where an entry comes. Assumes nothing.
use mathlib.Core.Bool.{false}
use mathlib.Core.Path.{◌≡◌, sym}
use mathlib.Core.Option.{Option, none, some}
use lib.ListN.{length}
use borrow.Author.Tests.{eq-eqb, ne_eqb}
use Rattle.model.specs.declared.Rule.{Rule}
use Rattle.model.specs.Rules.{first_broken}
use Rattle.decision.specs.Parts.{room_by}
use Rattle.decision.specs.Profile.{roomed_of}
use Rattle.decision.proofs.Broken.{kept-none, breaks-some}
use Rattle.std.proofs.lemmas.Result.{err_from_is_err_and}
use Rattle.decision.proofs.items.roomed.Goals as goal

pub returns-then-gone-eq0 : goal.returns-then-gone-eq0
unfolding roomed_of
returns-then-gone-eq0 c =
    let a = c.args in
    rw (eq-eqb a.comes 0 c.if-comes-eq0.true, eq-eqb a.gone 0 c.if-gone-eq0.true)

pub returns-then-comes-eq0 : goal.returns-then-comes-eq0
unfolding roomed_of
returns-then-comes-eq0 c =
    let a = c.args in
    rw (eq-eqb a.comes 0 c.if-comes-eq0.true, ne_eqb a.gone 0 c.if-gone-eq0.false)

pub returns-in_err-room : goal.returns-in_err-room
unfolding roomed_of
returns-in_err-room c =
    let a = c.args in
    let full : Option Rule = first_broken (room_by a.said (length a.region.now) false c.after-sums.result) in
    let broken : full ≡ some c.in_err-room.field-0.0 = breaks-some full c.in_err-room.field-0.0 (sym c.in_err-room.ensures) in
    let p = err_from_is_err_and c.from_residual.result c.from_residual.ensures.1 in
    rw (p.1, p.2, ne_eqb a.comes 0 c.if-comes-eq0.false, sym c.after-sums.ensures.0, broken)

pub returns : goal.returns
unfolding roomed_of
returns c =
    let a = c.args in
    let full : Option Rule = first_broken (room_by a.said (length a.region.now) false c.after-sums.result) in
    let kept : full ≡ none = kept-none full (sym c.in_ok-room.ensures) in
    rw (ne_eqb a.comes 0 c.if-comes-eq0.false, sym c.after-sums.ensures.0, kept)
