-- `flash::pages` meets its contract: all of them are stored, or one page. Assumes nothing.
use Rattle.std.proofs.Common.{rules, tests}
use Rattle.flash.proofs.Dead.{pages-made}
use Rattle.flash.proofs.pages.Goals as goal

pub returns-then-len-left : goal.returns-then-len-left
returns-then-len-left c =
    let a = c.args in
    pages-made a.dead.now a.w a.content.now a.at a.from a.len a.left a.image.now _ c.requires.2 c.requires.4 c.requires.0
    (search (rules, tests)) c.if-at-w-eq0.true c.if-len-left.true c.put_run.ensures
