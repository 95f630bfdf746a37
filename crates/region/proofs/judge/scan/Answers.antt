-- `region::judge::scan` meets its contract: what the pass by marks knows is right, and else the pass by a table decides, and in a sound region a walk looks for the name. Assumes nothing.
use Rattle.std.proofs.Common.{sym, ◌∙◌}
use Rattle.region.proofs.Meetings.{surveys-right, surveys-wrong}
use Rattle.region.proofs.judge.scan.Goals as goal

pub returns-in_err-tail : goal.returns-in_err-tail
returns-in_err-tail c =
    let a = c.args in
    c.from_residual.ensures ∙ surveys-wrong a.y a.region.now a.key.now (sym c.in_err-tail.was ∙ c.scan_sorted.ensures)

pub returns : goal.returns
returns c =
    let a = c.args in
    surveys-right a.y a.region.now a.key.now (sym c.in_ok-tail.was ∙ c.scan_sorted.ensures) c.met_in-met.ensures
