-- `image::check_start` meets its contract: what is pending is resumed, else the region must be sound. Assumes nothing.
use mathlib.Core.Path.{sym, ap, ap₂, ◌∙◌}
use Rattle.std.specs.Prelude.{Ok}
use Rattle.std.proofs.lemmas.Result.{err_from_is_err_and}
use Rattle.records.specs.Look.{look_at_def}
use Rattle.model.specs.Layout.{authenticated}
use Rattle.region.specs.declared.Sound as sound
use Rattle.image.specs.declared.Start.TheVariants.{Pending, Sound}
use Rattle.image.proofs.Cut.{none-refused, parted, start-pending, start-sound, start-refused}
use Rattle.image.proofs.Look.{rule-broken, told-sound, told-unsound}
use Rattle.image.proofs.check_start.Goals as goal

pub returns-in_err-b : goal.returns-in_err-b
returns-in_err-b c =
    let p = err_from_is_err_and c.from_residual.result c.from_residual.ensures.1 in
    let e = c.in_err-b.ensures in
    rw (p.1, p.2, rule-broken e.value e.ok_part) (sym (none-refused authenticated c.args.image.now (sym c.blocks-2.ensures.0 ∙ e.ok_part)).1)

pub is_pending-requires : goal.is_pending-requires
is_pending-requires c =
    let some = c.in_ok-b.ensures.ok_part in
    let p = parted c.args.image.now c.in_ok-b.b (sym c.blocks-2.ensures.0 ∙ some) in
    (sym c.blocks-2.ensures.0 ∙ some, rw some at c.blocks-2.ensures.1, c.look_at-looked.ensures ∙ ap look_at_def (c.cut.ensures ∙ p.its-work))

pub returns-then-is_pending : goal.returns-then-is_pending
returns-then-is_pending c =
    let img = c.args.image.now in
    let b = c.in_ok-b.b in
    let p = parted img b (sym c.blocks-2.ensures.0 ∙ c.in_ok-b.ensures.ok_part) in
    let l = c.look_at-looked.ensures ∙ ap look_at_def (c.cut.ensures ∙ p.its-work) in
    ap (λ x. Ok (Pending b x)) l ∙ sym (start-pending img b p (sym c.is_pending.ensures ∙ c.if-is_pending.true))

pub returns-in_err-sound : goal.returns-in_err-sound
returns-in_err-sound c =
    let img = c.args.image.now in
    let b = c.in_ok-b.b in
    let parts = parted img b (sym c.blocks-2.ensures.0 ∙ c.in_ok-b.ensures.ok_part) in
    let p = err_from_is_err_and c.from_residual-in_err-sound.result c.from_residual-in_err-sound.ensures.1 in
    let e = c.in_err-sound.ensures in
    rw (p.1, p.2, rule-broken e.value e.ok_part) (sym (start-refused img b parts (sym c.is_pending.ensures ∙ c.if-is_pending.false) (told-unsound authenticated (c.cut-region.ensures ∙ parts.its-region) c.judge.ensures e.ok_part)))

pub returns : goal.returns
returns c =
    let img = c.args.image.now in
    let b = c.in_ok-b.b in
    let p = parted img b (sym c.blocks-2.ensures.0 ∙ c.in_ok-b.ensures.ok_part) in
    let l = c.look_at-looked.ensures ∙ ap look_at_def (c.cut.ensures ∙ p.its-work) in
    let t = told-sound authenticated (c.cut-region.ensures ∙ p.its-region) c.judge.ensures c.in_ok-sound.ensures.ok_part in
    ap₂ (λ x k. Ok (Sound b x k)) l (ap (λ (s : sound.Sound). s.clean) t.1) ∙ sym (start-sound img b p (sym c.is_pending.ensures ∙ c.if-is_pending.false) t.0)
