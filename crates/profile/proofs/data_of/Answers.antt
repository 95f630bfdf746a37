-- `profile::data_of` meets its contract: a part of what is left after the GUID. Assumes nothing.
use Prim.Native.Nat.{◌+◌}
use lib.Seq.{drop-drop}
use Rattle.profile.proofs.data_of.Goals as goal

pub returns : goal.returns
returns c =
    let a = c.args in
    let t = a.t in
    let file = a.file.now in
    rw (c.cut.ensures, c.from-named.ensures, c.from.ensures, drop-drop 16 t.at file, drop-drop t.name (t.at + 16) file)
