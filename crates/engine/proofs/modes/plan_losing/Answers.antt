-- `engine::modes::plan_losing` meets its contract: PK's value goes, so it matters not which it were. Assumes nothing.
use mathlib.Core.Bool.{false≢true}
use Rattle.engine.proofs.modes.plan_losing.Goals as goal

pub fold-requires : goal.fold-requires
fold-requires c =
    let p = c.requires in
    let j = p.0 in (
      record {
        tail = j.tail;
        ready = j.ready;
        first = j.first;
        second = j.second;
        named = λ x. absurd (false≢true x);
        valid = λ x. absurd (false≢true x);
        room = j.room;
      },
      p.1,
    )
