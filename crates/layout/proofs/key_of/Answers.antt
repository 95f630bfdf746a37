-- `layout::key_of` meets its contract: GUID and name are one part of the bytes. Assumes nothing.
use Prim.Native.Nat.{ℕ, ◌+◌}
use mathlib.Core.Path.{ap, ◌∙◌}
use Rattle.model.specs.Lists.{part}
use Rattle.layout.proofs.Named.{unnamed-key, named-key}
use Rattle.layout.proofs.key_of.Goals as goal

pub returns-then-e-eq255 : goal.returns-then-e-eq255
returns-then-e-eq255 c =
    let a = c.args in
    c.cut.ensures
    ∙ ap (λ (i : ℕ). part i 16 a.s.now) c.vendor-at.ensures.0
    ∙ unnamed-key a.y a.s.now a.e c.if-e-eq255.true

pub returns : goal.returns
returns c =
    let a = c.args in
    c.cut-2.ensures
    ∙ ap (λ (i : ℕ). part i (16 + a.e.name) a.s.now) c.vendor-at.ensures.0
    ∙ named-key a.y a.s.now a.e c.if-e-eq255.false
