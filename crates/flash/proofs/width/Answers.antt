-- `flash::width` meets its contract, number by number. Assumes nothing.
use Rattle.std.proofs.Common.{arith}
use Rattle.std.proofs.lemmas.Bool.Decides.{nat_tests}
use Rattle.model.specs.Stores.{width_of}
use Rattle.flash.proofs.width.Goals as goal

pub returns-in-2 : goal.returns-in-2
unfolding width_of
returns-in-2 c = grind (arith, nat_tests)

pub returns-in_default : goal.returns-in_default
unfolding width_of
returns-in_default c = grind (arith, nat_tests)
