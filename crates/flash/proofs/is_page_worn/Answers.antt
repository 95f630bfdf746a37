-- `flash::is_page_worn` meets its contract: a byte of the page is one of them, with a bit to fall. Assumes nothing.
use Rattle.std.proofs.Common.{◌∙◌, rules, tests}
use Rattle.std.proofs.lemmas.Iterator.{YieldsList-from_slice}
use Rattle.std.proofs.lemmas.Iterator.Search.{any_from_yields_List}
use Rattle.flash.proofs.Dead.{touched, page-touched}
use Rattle.flash.proofs.is_page_worn.Goals as goal

pub returns : goal.returns
returns c =
    let a = c.args in
    let test = touched a.at a.content.now a.from a.n a.image.now c.requires.0 in
    any_from_yields_List test _ _ c.any.result c.any.ensures.ran (YieldsList-from_slice a.dead.now (cc)) (λ x b q k. search (rules, tests))
    ∙ page-touched a.at a.content.now a.from a.n a.image.now c.requires.0 a.dead.now
