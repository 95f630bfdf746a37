-- `engine::read::give` meets its contract: rule 14 decides, and else the bytes are delivered.
-- Assumes nothing.
use mathlib.Core.Path.{refl}
use lib.ListN.{length}
use borrow.Author.Tests.{lt-ltb, le-ltb}
use Rattle.engine.proofs.Reading.{short-buffer, long-buffer}
use Rattle.engine.proofs.read.give.Goals as goal

pub returns-then-buffer-bytes : goal.returns-then-buffer-bytes
returns-then-buffer-bytes c =
    let a = c.args in
    rw c.refused.ensures
    (short-buffer a.bytes.now a.attributes a.buffer.now (length a.bytes.now) refl (lt-ltb _ _ c.if-buffer-bytes.true))

pub returns : goal.returns
returns c =
    let a = c.args in
    long-buffer a.bytes.now a.attributes a.buffer.now (length a.bytes.now) refl (le-ltb _ _ c.if-buffer-bytes.false) c.deliver.ensures
