-- `capi::vs_query` meets its contract: the side's terms, one call of the engine, its numbers. Assumes nothing.
use Rattle.std.proofs.Common.{ap, subst, ◌∙◌}
use Rattle.model.specs.declared.Terms.{Terms}
use Rattle.model.specs.Rules.{terms_for_def}
use Rattle.engine.proofs.Rooms.{Told}
use Rattle.capi.specs.Numbers.{numbers_of}
use Rattle.capi.proofs.vs_query.Goals as goal

pub returns : goal.returns
unfolding terms_for_def
returns c =
    let a = c.args in
    let r = c.from.ensures in
    let q = subst (λ (t : Terms). Told t a.image.now a.attributes c.query.result) c.terms_for-terms.ensures c.query.ensures in
    (r.0 ∙ ap numbers_of q.0, r.1 ∙ q.1, r.2 ∙ q.2, r.3 ∙ q.3)
