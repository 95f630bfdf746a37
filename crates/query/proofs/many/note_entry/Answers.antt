-- `query::many::note_entry` meets its contract: a name to which the table does not lead is not the entry's, and in one state alone is an entry noted. Assumes nothing.
use mathlib.Core.Path.{sym, ◌∙◌}
use Rattle.query.proofs.Several.{noted-all, noted_other}
use Rattle.query.proofs.many.note_entry.Goals as goal

pub returns-then-is_live : goal.returns-then-is_live
returns-then-is_live c =
    let a = c.args in
    noted-all a.keys.now a.sizes.now a.region.now a.placed.at a.placed.entry _ _ a.told c.requires.4 c.names.ensures.2 c.note.ensures

pub returns-else-is_live : goal.returns-else-is_live
returns-else-is_live c =
    let a = c.args in
    noted_other a.keys.now a.sizes.now a.region.now a.placed.at a.placed.entry (sym c.is_live.ensures ∙ c.if-is_live.false) a.found.now
