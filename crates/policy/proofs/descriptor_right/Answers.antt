use mathlib.Core.Path.{sym, ap, ◌∙◌}
use mathlib.Core.Bool.{true≢false}
use mathlib.Core.List.{List}
use Prim.Native.Nat.{ℕ}
use lib.ListN.{replicate}
use Rattle.model.specs.Lists.{same}
use Rattle.policy.proofs.Descriptor.{right-zeros, wrong_size, wrong-kind}
use Rattle.policy.proofs.descriptor_right.Goals as goal
use Rattle.policy.proofs.descriptor_right.Goals.{then-size_right, else-size_right}

pub returns-then-kind_right : goal.returns-then-kind_right
returns-then-kind_right c =
    let b = c.args.bytes.now in
    elim c.if-size_right.branch [
      | then-size_right w ↦
          c.equal.ensures
          ∙ ap (λ (s : List ℕ). same s (replicate 9 0)) c.cut.ensures
          ∙ sym (right-zeros b (sym c.size_right.ensures ∙ w.if-size_right.true) (sym w.kind_right.ensures ∙ sym w.value-is ∙ c.if-kind_right.true))
      | else-size_right w ↦ absurd (true≢false (sym c.if-kind_right.true ∙ w.value-is ∙ w.if-size_right.false))
    ]

pub returns-else-kind_right : goal.returns-else-kind_right
returns-else-kind_right c =
    let b = c.args.bytes.now in
    c.if-kind_right.false
    ∙ elim c.if-size_right.branch [
      | then-size_right w ↦ sym (wrong-kind b (sym w.kind_right.ensures ∙ sym w.value-is ∙ c.if-kind_right.false))
      | else-size_right w ↦ sym (wrong_size b (sym c.size_right.ensures ∙ w.if-size_right.false))
    ]
