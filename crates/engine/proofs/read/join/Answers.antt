-- `engine::read::join` meets its contract: what its two stores write is the GUID and the name, one behind the other. Assumes nothing.
use Rattle.output.proofs.Writing.{wrote-append}
use borrow.Author.Rules.{rules}
use Rattle.engine.proofs.read.join.Goals as goal

pub put_bytes-requires : goal.put_bytes-requires
put_bytes-requires c = search (rules, c.put_bytes-next.ensures.place)

pub returns : goal.returns
returns c = (wrote-append c.put_bytes-next.ensures c.put_bytes.ensures).buffer
