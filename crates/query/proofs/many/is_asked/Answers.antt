-- `query::many::is_asked` meets its contract: of a live entry its GUID and name decide, which stand one behind the other. Assumes nothing.
use Prim.Native.Nat.{ℕ}
use mathlib.Core.Path.{ap, ap₂, ◌∙◌}
use mathlib.Core.List.{List, ◌++◌}
use Rattle.model.specs.Layout.{authenticated}
use Rattle.model.specs.Lists.{same}
use Rattle.model.specs.Entry.{header_fields_in}
use Rattle.layout.specs.Head.{name_in}
use Rattle.region.proofs.Meetings.{sought-named}
use Rattle.model.specs.Beside.{asked_bytes}
use Rattle.query.proofs.Several.{sought-entry}
use Rattle.query.proofs.many.is_asked.Goals as goal

pub returns : goal.returns
returns c =
    let a = c.args in
    let r = a.region.now in
    let key = asked_bytes a.keys.now a.k a.size in
    c.equal.ensures
    ∙ ap₂ same
    (c.key_of.ensures ∙ ap (λ (x : List ℕ). (header_fields_in authenticated x).vendor ++ name_in authenticated x a.placed.entry) c.from-rest.ensures)
    c.asked-key.ensures
    ∙ sought-named authenticated r a.placed.at a.placed.entry key c.requires.2 c.requires.1
    ∙ sought-entry r a.placed.at a.placed.entry key c.requires.1
