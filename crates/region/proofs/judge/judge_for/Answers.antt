-- `region::judge::judge_for` meets its contract: it asks what *sound* asks, and then of the tail whether it is blank; where the name is met, the scan tells.
-- Assumes nothing.
use Rattle.std.proofs.Common.{sym, ap, ◌∙◌}
use Rattle.region.specs.declared.Survey.{Survey}
use Rattle.region.proofs.Whole.{wrong-header, wrong-entry, all_right, sounds, surveyed-none, surveyed-some, searched-sound, searched-unsound}
use Rattle.region.proofs.judge.judge_for.Goals as goal

pub returns-then-not-right_header : goal.returns-then-not-right_header
returns-then-not-right_header c =
    let a = c.args in
    let r = a.region.now in
    searched-unsound a.y r a.key.now (wrong-header a.y r (sym c.right_header.ensures ∙ c.if-not-right_header.true))

pub returns-in_err-tail : goal.returns-in_err-tail
returns-in_err-tail c =
    let a = c.args in
    let r = a.region.now in
    c.from_residual.ensures ∙ searched-unsound a.y r a.key.now (wrong-entry a.y r (surveyed-none a.y r a.key.now (sym c.in_err-tail.was ∙ c.scan.ensures)))

pub returns : goal.returns
returns c =
    let a = c.args in
    let r = a.region.now in
    let told = surveyed-some a.y r a.key.now c.in_ok-tail.field-0 (sym c.in_ok-tail.was ∙ c.scan.ensures) in
    let sound = all_right a.y r (sym c.right_header.ensures ∙ c.if-not-right_header.false) told.0 in
    searched-sound a.y r a.key.now sound
    (c.with_tail-sound.ensures ∙ sounds a.y r sound (ap (λ (s : Survey). s.tail) told.1))
    (ap (λ (s : Survey). s.met) told.1)
