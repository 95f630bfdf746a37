-- `capi::mode_number` meets its contract. Assumes nothing.
use Rattle.capi.specs.Numbers.{mode_number_def}
use Rattle.capi.proofs.mode_number.Goals as goal

pub returns-in-Setup : goal.returns-in-Setup
unfolding mode_number_def
returns-in-Setup c = rw c.in-Setup.is

pub returns-in-User : goal.returns-in-User
unfolding mode_number_def
returns-in-User c = rw c.in-User.is

pub returns-in-Audit : goal.returns-in-Audit
unfolding mode_number_def
returns-in-Audit c = rw c.in-Audit.is

pub returns-in-Deployed : goal.returns-in-Deployed
unfolding mode_number_def
returns-in-Deployed c = rw c.in-Deployed.is
