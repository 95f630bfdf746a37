-- `engine::read::check_name` meets its contract: what is cut from the key is the GUID and the name. Assumes nothing.
use mathlib.Core.Path.{refl, ap, ◌∙◌}
use mathlib.Core.List.{List}
use Prim.Native.Nat.{ℕ}
use Rattle.model.specs.Layout.{authenticated}
use Rattle.image.specs.Check.{checked_in}
use Rattle.engine.proofs.Opened.{joined_key, joined-long}
use Rattle.engine.proofs.read.check_name.Goals as goal

pub slice_bounds-cut-end : goal.slice_bounds-cut-end
slice_bounds-cut-end c = joined-long _ c.args.name.now c.args.vendor.now refl c.join.ensures

pub returns : goal.returns
returns c =
    let a = c.args in
    let key = c.cut.ensures ∙ joined_key _ a.name.now a.vendor.now refl c.told-vendor c.requires c.join.ensures in
    c.check_for.ensures ∙ ap (λ (k : List ℕ). checked_in authenticated a.image.now k) key
