-- `region::judge::judge` meets its contract: what `judge_for` tells beside the sought name. Assumes nothing.
use Rattle.std.proofs.Common.{sym, ap, ◌∙◌}
use Rattle.std.specs.Prelude.{option_map}
use Rattle.region.specs.declared.Searched.{Searched}
use Rattle.region.proofs.Whole.{searched-judged}
use Rattle.region.proofs.judge.judge.Goals as goal

pub returns-in_err-found : goal.returns-in_err-found
returns-in_err-found c =
    let a = c.args in
    c.from_residual.ensures ∙ ap (option_map (λ (s : Searched). s.sound)) (sym c.in_err-found.was) ∙ searched-judged a.y a.region.now _ c.judge_for.result c.judge_for.ensures

pub returns : goal.returns
returns c =
    let a = c.args in
    ap (option_map (λ (s : Searched). s.sound)) (sym c.in_ok-found.was) ∙ searched-judged a.y a.region.now _ c.judge_for.result c.judge_for.ensures
