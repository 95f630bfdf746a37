-- `region::judge::entry_sound` meets its contract: an unfinished entry is sound. Assumes nothing.
use Rattle.std.proofs.Common.{length, sym}
use Rattle.region.proofs.Judging.{sound-unfinished}
use Rattle.region.proofs.judge.entry_sound.Goals as goal

pub returns-then-e-eq255 : goal.returns-then-e-eq255
returns-then-e-eq255 c =
    let a = c.args in
    sym (sound-unfinished a.y a.s.now 0 a.e (length a.s.now) c.if-e-eq255.true)
