-- `engine::read::next_name` meets its contract: it hands on what `name_behind` answers.
-- Assumes nothing.
use Rattle.model.specs.Name.{keyed}
use Rattle.engine.proofs.Reading.{next-answered}
use Rattle.engine.proofs.read.next_name.Goals as goal

pub returns : goal.returns
returns c =
    let a = c.args in
    next-answered a.c a.view (keyed a.name.now a.vendor.now) a.buffer.now a.image.now c.name_behind-answer.ensures
