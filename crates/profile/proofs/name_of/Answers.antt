-- `profile::name_of` meets its contract: a part of what is left from the GUID on. Assumes nothing.
use lib.Seq.{drop-drop}
use Rattle.profile.proofs.name_of.Goals as goal

pub returns : goal.returns
returns c =
    let a = c.args in
    rw (c.cut.ensures, c.from.ensures, drop-drop 16 a.t.at a.file.now)
