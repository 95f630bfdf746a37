use Rattle.model.specs.Session.{fresh_session, no_sizes_def, no_locks_def}
use Rattle.model.proofs.Session.fresh.Goals as goal

pub returns : goal.returns
unfolding fresh_session no_sizes_def no_locks_def
returns c = rw c.kept.ensures
