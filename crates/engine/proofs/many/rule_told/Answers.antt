-- `engine::many::rule_told` meets its contract: each variant has its number. Assumes nothing.
use Rattle.engine.proofs.many.rule_told.Goals as goal

pub returns-in-Refused : goal.returns-in-Refused
returns-in-Refused c = rw c.in-Refused.is c.from.ensures
