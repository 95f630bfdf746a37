-- `decision::modes::places` meets its contract: what is looked up is PlatMode. Assumes nothing.
use mathlib.Core.Path.{ap, ap₂, ◌∙◌}
use Rattle.model.specs.Name.{Key, keyed}
use Rattle.model.specs.Region.{entries, added, replacing}
use Rattle.model.specs.Request.{key_mode}
use Rattle.values.specs.Found.{found_of}
use Rattle.decision.proofs.modes.places.Goals as goal

pub returns : goal.returns
unfolding key_mode
returns c =
    let es = entries c.args.region.now in
    let k = ap₂ keyed c.mode_name-name.ensures c.global_vendor-vendor.ensures in (
      c.places.ensures.0 ∙ ap (λ (k : Key). found_of (added k es)) k,
      c.places.ensures.1 ∙ ap (λ (k : Key). found_of (replacing k es)) k,
    )
