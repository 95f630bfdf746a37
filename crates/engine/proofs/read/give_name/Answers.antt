-- `engine::read::give_name` meets its contract: rule 14 decides, and else the GUID is delivered and the name behind it, which is both delivered.
-- Assumes nothing.
use Prim.Native.Nat.{◌+◌, ◌<◌, ◌≤◌}
use native.Mathlib.Omega.{arith}
use mathlib.Core.Path.{sym}
use mathlib.Core.List.{◌++◌}
use lib.ListN.{length, length-append}
use borrow.Author.Tests.{lt-ltb, le-ltb}
use Rattle.engine.proofs.Copying.{copied_behind}
use Rattle.engine.proofs.Reading.{short-buffer, long-buffer}
use Rattle.engine.proofs.read.give_name.Goals as goal

pub returns-then-buffer-front : goal.returns-then-buffer-front
returns-then-buffer-front c =
    let a = c.args in
    let n = length-append a.vendor.now a.name.now in
    let short : length a.buffer.now < length (a.vendor.now ++ a.name.now) = omega (arith, c.if-buffer-front.true) in
    rw c.refused.ensures
    (short-buffer (a.vendor.now ++ a.name.now) 0 a.buffer.now (length a.vendor.now + length a.name.now) (sym n) (lt-ltb _ _ short))

pub returns : goal.returns
returns c =
    let a = c.args in
    let n = length-append a.vendor.now a.name.now in
    let long : length (a.vendor.now ++ a.name.now) ≤ length a.buffer.now = omega (arith, c.if-buffer-front.false) in
    let front = c.deliver in
    let both = copied_behind a.vendor.now a.name.now a.buffer.now front.new.buffer c.deliver-2.new.buffer (omega (arith, front.auto.buffer)) front.ensures c.deliver-2.ensures in
    long-buffer (a.vendor.now ++ a.name.now) 0 a.buffer.now (length a.vendor.now + length a.name.now) (sym n) (le-ltb _ _ long) both
