-- `engine::many::get_all` meets its contract: rule 3 by the number of names, else one get after another by where each name is met. Assumes nothing.
use Rattle.model.specs.Region.{entries, values}
use Rattle.engine.proofs.Several.{many-refused, many-answered}
use Rattle.engine.proofs.many.get_all.Goals as goal

pub returns-then-sizes-gt-MOST : goal.returns-then-sizes-gt-MOST
returns-then-sizes-gt-MOST c =
    let a = c.args in
    many-refused a.view (values (entries a.region.now)) a.keys.now a.sizes.now a.buffer.now a.told.now c.if-sizes-gt-MOST.true

pub returns : goal.returns
returns c =
    let a = c.args in
    many-answered a.view (values (entries a.region.now)) a.keys.now a.sizes.now c.if-sizes-gt-MOST.false c.get_each.ensures
