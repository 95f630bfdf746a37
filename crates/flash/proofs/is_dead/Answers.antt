-- `flash::is_dead` meets its contract: it is one of them. Assumes nothing.
use Rattle.std.proofs.Common.{refl, ◌∙◌, eqb, rules, tests}
use Rattle.std.proofs.lemmas.Iterator.{YieldsList-from_slice}
use Rattle.std.proofs.lemmas.Iterator.Search.{any_from_yields_List}
use Rattle.flash.proofs.Dead.{any_same}
use Rattle.flash.proofs.is_dead.Goals as goal

pub returns : goal.returns
returns c =
    let a = c.args in
    any_from_yields_List (eqb a.at) _ _ c.any.result c.any.ensures.ran (YieldsList-from_slice a.dead.now (cc)) (λ x b q k. search (rules, tests))
    ∙ any_same (eqb a.at) (eqb a.at) a.dead.now (λ x. refl)
