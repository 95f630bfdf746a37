use Rattle.std.proofs.Common.{ℕ, List, ◌++◌, length, drop, ◌∙◌}
use mathlib.Core.Path.{ap₂}
use Rattle.policy.proofs.Descriptor.{front-laid}
use Rattle.policy.proofs.stamp_in.Goals as goal

pub returns : goal.returns
returns c =
    ap₂ (λ (front none : List ℕ). front ++ drop (length c.cut-front.result.now) none) c.copy_from_slice.ensures.after c.no_stamp-stamp.ensures
    ∙ rw c.cut-front.ensures (front-laid c.args.bytes.now)
