-- `compose::carry` meets its contract: the front, then one copy, in which key index and sizes are written over, then padding. Assumes nothing.
use mathlib.Core.Path.{refl}
use Rattle.compose.proofs.Carried.{carried-whole}
use Rattle.compose.proofs.carry.Goals as goal

pub returns : goal.returns
returns c =
    let p = c.args.placed in
    carried-whole c.args.region.now p.at p.entry c.requires.2 c.requires.4 refl refl c.before_stamp-front.ensures c.behind_stamp-sizes.ensures c.put_within.ensures c.put_within-2.ensures c.put_within-3.ensures c.put_padding.ensures
