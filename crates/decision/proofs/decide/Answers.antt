-- `decision::decide` meets its contract: what is there of the name is the 3F entry of the two places found, else the 3E entry. Assumes nothing.
use mathlib.Core.Path.{sym, ap, ap₂, ◌∙◌}
use lib.ListN.{length}
use Rattle.model.specs.Name.{keyed}
use Rattle.model.specs.Region.{entries, values, added, replacing, standing}
use Rattle.model.specs.Limits.{limits_in}
use Rattle.values.specs.Found.{else_found}
use Rattle.values.proofs.Finds.{found-else}
use Rattle.decision.specs.Decision.{request_of}
use Rattle.decision.specs.Parts.{Found, value_by}
use Rattle.decision.proofs.Assembled.{value-here}
use Rattle.decision.proofs.Accepted.{put-formed}
use Rattle.decision.proofs.decide.Goals as goal

pub decide_over-joined-requires-clause-found_value : goal.decide_over-joined-requires-clause-found_value
unfolding standing
decide_over-joined-requires-clause-found_value c =
    let a = c.args in
    let es = entries a.region.now in
    let k = keyed a.name.now a.vendor.now in
    let l = c.places-places.ensures in
    c.standing-old.ensures ∙ ap₂ else_found l.0 l.1 ∙ sym (found-else (added k es) (replacing k es))

pub returns-in-Ok : goal.returns-in-Ok
unfolding standing
returns-in-Ok c =
    let a = c.args in
    let p = c.requires in
    let r = a.region.now in
    let es = entries r in
    let k = keyed a.name.now a.vendor.now in
    let q = request_of a.name.now a.vendor.now a.asking.attributes a.bytes.now a.asking.presence a.asking.verdict in
    let l = c.places-places.ensures in
    let here = c.standing-old.ensures in
    let old = here ∙ ap₂ else_found l.0 l.1 ∙ sym (found-else (added k es) (replacing k es)) in
    let over = c.in-Ok.ensures in (
      over.0,
      λ z. over.1,
      over.2,
      l.0,
      l.1,
      λ e. ap (λ (f : Found). value_by r a.name.now a.vendor.now a.bytes.now f c.value-value.result) (sym here)
          ∙ value-here a.t q r p.sound_region c.standing-old.result old (put-formed (limits_in a.limits.now a.t.rules k) a.t q (length r) (values es) (sym over.0 ∙ e)) c.value-value.result c.value-value.ensures,
    )
