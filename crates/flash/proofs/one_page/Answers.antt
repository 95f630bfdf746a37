-- `flash::one_page` meets its contract: the page is stored whole, or fails. Assumes nothing.
use mathlib.Core.Path.{refl, sym, ◌∙◌}
use Rattle.flash.proofs.Dead.{page-made, page-failed}
use Rattle.flash.proofs.one_page.Goals as goal

pub returns-then-is_page_worn : goal.returns-then-is_page_worn
returns-then-is_page_worn c =
    let a = c.args in
    let e = c.to_page_end-n.ensures in
    page-failed a.dead.now a.w a.content.now a.at a.from a.len c.to_page_end-n.result a.left a.image.now _ c.requires.2 c.requires.4 e.0 e.1 e.2 e.3 c.requires.1
    (sym c.is_page_worn.ensures ∙ c.if-is_page_worn.true) refl

pub returns : goal.returns
returns c =
    let a = c.args in
    let e = c.to_page_end-n.ensures in
    page-made a.dead.now a.w a.content.now a.at a.from a.len c.to_page_end-n.result a.left a.image.now _ c.requires.2 c.requires.4 e.0 e.1 e.2 e.3 c.requires.1
    (sym c.is_page_worn.ensures ∙ c.if-is_page_worn.false) c.put_run.ensures
