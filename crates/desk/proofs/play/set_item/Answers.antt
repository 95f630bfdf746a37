-- `desk::play::set_item` meets its contract: the item's fields are those of its request. Assumes nothing.
use Rattle.profile.specs.Reader.{request_in}
use Rattle.desk.proofs.play.set_item.Goals as goal

pub returns : goal.returns
unfolding request_in
returns c = rw (← c.guid_of-vendor.ensures, ← c.name_of.ensures, ← c.data_of.ensures) c.set.ensures
