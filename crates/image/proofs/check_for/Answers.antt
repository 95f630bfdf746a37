-- `image::check_for` meets its contract: each look tells what rule 2 asks of one part, and the region's where the name is met. Assumes nothing.
use mathlib.Core.Path.{sym, ap, ◌∙◌}
use Rattle.std.specs.Option.{option_map}
use Rattle.std.proofs.lemmas.Result.{err_from_is_err_and}
use Rattle.model.specs.Lists.{all_ff}
use Rattle.region.specs.declared.Searched.{Searched}
use Rattle.region.specs.declared.Sound.{Sound}
use Rattle.image.proofs.Cut.{none-refused, parted, call-ready, call-not-idle, call-not-blank, call-not-clean}
use Rattle.image.proofs.Look.{rule-broken, is_clean, told-idle, told-used, told-clean, told-sound, told-judged, told-met}
use Rattle.image.proofs.Readiness.{checked-ready, checked_refused}
use Rattle.image.proofs.check_for.Goals as goal
use Rattle.image.proofs.check_for.Goals.{then-not-is_idle-via-then-not-is_idle, then-not-is_idle-via-else-not-is_idle+then-not-is_blank}

pub returns-in_err-b : goal.returns-in_err-b
returns-in_err-b c =
    let a = c.args in
    let p = err_from_is_err_and c.from_residual.result c.from_residual.ensures.1 in
    let e = c.in_err-b.ensures in
    rw (p.1, p.2, rule-broken e.value e.ok_part) (sym (checked_refused a.y a.image.now a.key.now (none-refused a.y a.image.now (sym c.blocks-2.ensures.0 ∙ e.ok_part)).0))

pub returns-then-not-is_idle : goal.returns-then-not-is_idle
returns-then-not-is_idle c =
    let a = c.args in
    let img = a.image.now in
    let b = c.in_ok-b.b in
    let p = parted img b (sym c.blocks-2.ensures.0 ∙ c.in_ok-b.ensures.ok_part) in
    sym (checked_refused a.y img a.key.now (elim c.then-not-is_idle.branch [
      | then-not-is_idle-via-then-not-is_idle w ↦ call-not-idle a.y img b p (told-idle (c.cut.ensures ∙ p.its-work) c.look_at-work.ensures c.is_idle.ensures ∙ w.if-not-is_idle.true)
      | then-not-is_idle-via-else-not-is_idle+then-not-is_blank w ↦ call-not-blank a.y img b p (ap all_ff (sym (w.cut-else-not-is_idle.ensures ∙ p.its-spare)) ∙ sym w.is_blank.ensures ∙ w.if-not-is_blank.true)
    ]))

pub returns-in_err-found : goal.returns-in_err-found
returns-in_err-found c =
    let a = c.args in
    let img = a.image.now in
    let b = c.in_ok-b.b in
    let parts = parted img b (sym c.blocks-2.ensures.0 ∙ c.in_ok-b.ensures.ok_part) in
    let same = c.cut-2.ensures ∙ parts.its-region in
    let clean = told-clean a.y same (told-judged a.y same a.key.now c.judge_for.ensures) in
    let p = err_from_is_err_and c.from_residual-in_err-found.result c.from_residual-in_err-found.ensures.1 in
    let e = c.in_err-found.ensures in
    rw (p.1, p.2, rule-broken e.value e.ok_part) (sym (checked_refused a.y img a.key.now (call-not-clean a.y img b parts (sym clean ∙ ap (λ o. is_clean (option_map (λ (s : Searched). s.sound) o)) e.ok_part))))

pub returns-then-not-clean : goal.returns-then-not-clean
returns-then-not-clean c =
    let a = c.args in
    let img = a.image.now in
    let b = c.in_ok-b.b in
    let parts = parted img b (sym c.blocks-2.ensures.0 ∙ c.in_ok-b.ensures.ok_part) in
    let same = c.cut-2.ensures ∙ parts.its-region in
    let clean = told-clean a.y same (told-judged a.y same a.key.now c.judge_for.ensures) in
    sym (checked_refused a.y img a.key.now (call-not-clean a.y img b parts
    (sym clean ∙ ap (λ o. is_clean (option_map (λ (s : Searched). s.sound) o)) c.in_ok-found.ensures.ok_part ∙ c.if-not-clean.true)))

pub returns : goal.returns
returns c =
    let a = c.args in
    let img = a.image.now in
    let b = c.in_ok-b.b in
    let p = parted img b (sym c.blocks-2.ensures.0 ∙ c.in_ok-b.ensures.ok_part) in
    let i = told-idle (c.cut.ensures ∙ p.its-work) c.look_at-work.ensures c.is_idle.ensures in
    let s = ap all_ff (sym (c.cut-else-not-is_idle.ensures ∙ p.its-spare)) ∙ sym c.is_blank.ensures in
    let same = c.cut-2.ensures ∙ p.its-region in
    let judged = told-judged a.y same a.key.now c.judge_for.ensures in
    let found = c.in_ok-found.ensures.ok_part in
    let clean = sym (told-clean a.y same judged) ∙ ap (λ o. is_clean (option_map (λ (s : Searched). s.sound) o)) found ∙ c.if-not-clean.false in
    let t = told-sound a.y same judged (ap (option_map (λ (s : Searched). s.sound)) found) in
    rw (← p.same, ap (λ (s : Sound). s.tail) t.1, told-used (c.cut.ensures ∙ p.its-work) c.look_at-work.ensures, told-met a.y same a.key.now c.judge_for.ensures found)
    (sym (checked-ready a.y img a.key.now (call-ready a.y img b p (i ∙ c.if-not-is_idle.false) (s ∙ c.if-not-is_blank.false) clean)))
