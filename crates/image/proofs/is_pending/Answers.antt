-- `image::is_pending` meets its contract: the work block is closed and the spare is a clean region. Assumes nothing.
use borrow.Author.Rules.{rules}
use mathlib.Core.Path.{◌≡◌, refl, sym, ◌∙◌}
use Rattle.model.specs.Layout.{authenticated}
use Rattle.image.proofs.Cut.{parted, pending-of, not-pending}
use Rattle.image.proofs.Look.{is_clean, told-closed, told-clean}
use Rattle.image.proofs.is_pending.Goals as goal

pub returns-then-not-ends_in_fc : goal.returns-then-not-ends_in_fc
returns-then-not-ends_in_fc c =
    let a = c.args in
    sym (not-pending a.image.now a.b (parted a.image.now a.b c.requires.0) (told-closed refl c.requires.2 c.ends_in_fc.ensures ∙ c.if-not-ends_in_fc.true))

pub returns : goal.returns
returns c =
    let a = c.args in
    let p = parted a.image.now a.b c.requires.0 in
    let closed = told-closed refl c.requires.2 c.ends_in_fc.ensures in
    let h : c.is_some_and.result ≡ is_clean c.judge.result = search rules in
    h ∙ told-clean authenticated (c.cut-spare.ensures ∙ p.its-spare) c.judge.ensures ∙ sym (pending-of a.image.now a.b p (closed ∙ c.if-not-ends_in_fc.false))
