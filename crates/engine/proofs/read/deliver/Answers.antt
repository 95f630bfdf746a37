-- `engine::read::deliver` meets its contract: the front of the buffer becomes the bytes.
-- Assumes nothing.
use mathlib.Core.Path.{refl, ◌∙◌}
use lib.ListN.{length}
use Rattle.engine.proofs.Copying.{copy-all}
use Rattle.std.proofs.lemmas.Slice.{put_mid-paste}
use Rattle.engine.proofs.read.deliver.Goals as goal

pub returns : goal.returns
returns c =
    let s = c.args.bytes.now in
    put_mid-paste 0 _ c.args.buffer.now _ s (length s) c.copy_from_slice.ensures.after refl refl ∙ copy-all c.args.buffer.now s (length s) refl
