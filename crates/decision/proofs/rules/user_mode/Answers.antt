-- `decision::rules::user_mode` meets its contract: what is looked up is PK. Assumes nothing.
use mathlib.Core.Path.{ap, ap₂, ◌∙◌}
use Rattle.model.specs.Name.{Key, keyed}
use Rattle.model.specs.Region.{entries, standing}
use Rattle.model.specs.Request.{key_pk}
use Rattle.values.specs.Found.{found_of}
use Rattle.decision.specs.Parts.{stands}
use Rattle.decision.proofs.Old.{is-stands}
use Rattle.decision.proofs.rules.user_mode.Goals as goal

pub returns : goal.returns
unfolding key_pk
returns c =
    let es = entries c.args.region.now in
    let f = c.find.ensures ∙ ap (λ (k : Key). found_of (standing k es)) (ap₂ keyed c.pk_name-name.ensures c.global_vendor-vendor.ensures) in
    c.is_some.ensures ∙ is-stands c.find.result ∙ ap stands f
