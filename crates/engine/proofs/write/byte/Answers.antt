-- `engine::write::byte` meets its contract. Assumes nothing.
use Rattle.engine.specs.Write.{byte_by}
use Rattle.engine.proofs.write.byte.Goals as goal

pub returns-then-deploys : goal.returns-then-deploys
unfolding byte_by
returns-then-deploys c = rw c.if-deploys.true

pub returns-else-deploys : goal.returns-else-deploys
unfolding byte_by
returns-else-deploys c = rw c.if-deploys.false
