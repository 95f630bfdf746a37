-- `profile::body` meets its contract: the item ends where its sizes say, if that is within the file. Assumes nothing.
use borrow.Author.Rules.{rules}
use mathlib.Core.Path.{◌≡◌, sym, ◌∙◌}
use mathlib.Core.Bool.{true, false}
use Rattle.model.specs.Lists.{among}
use Rattle.model.specs.Profile.{item_attributes}
use Rattle.profile.proofs.Places.{body-here, body-other, body-short}
use Rattle.profile.proofs.body.Goals as goal

pub returns-then-next-s : goal.returns-then-next-s
returns-then-next-s c =
    let a = c.args in
    let e : among item_attributes a.attributes ≡ true = sym c.is_item.ensures ∙ c.if-is_item.true in
    (body-here a.s.now a.attributes a.name a.size a.at e c.if-next-s.true, (c.if-next-s.true, c.if-next-s.true))

pub returns-else-next-s : goal.returns-else-next-s
returns-else-next-s c =
    let a = c.args in
    let e : among item_attributes a.attributes ≡ true = sym c.is_item.ensures ∙ c.if-is_item.true in
    (body-short a.s.now a.attributes a.name a.size a.at e (search rules) c.if-next-s.false, tt)

pub returns-else-is_item : goal.returns-else-is_item
returns-else-is_item c =
    let a = c.args in
    let e : among item_attributes a.attributes ≡ false = sym c.is_item.ensures ∙ c.if-is_item.false in
    (body-other a.s.now a.attributes a.name a.size a.at e, tt)
