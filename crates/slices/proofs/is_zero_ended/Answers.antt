-- The windows that are asked cover the name up to its last character, which is zero.
use Prim.Native.Nat.{◌+◌, ◌-◌}
use native.Mathlib.Omega.{arith}
use mathlib.Core.Path.{refl, sym, ◌∙◌}
use lib.ListN.{length, get_or}
use Rattle.slices.proofs.Windows.{number-zero, nonzero-join, nonzero-less, named-last}
use Rattle.slices.proofs.is_zero_ended.Goals as goal

pub returns-then-n-lt10 : goal.returns-then-n-lt10
returns-then-n-lt10 c =
    let s = c.args.name.now in
    let n = length s in
    let p = c.requires in
    let z = number-zero (get_or s (n - 2) 0) (get_or s (n - 2 + 1) 0) (sym c.character.ensures.0 ∙ c.if-character-ne0.false) in
    λ t. named-last s n refl (c.front_nonzero.ensures.yes t) p.0 p.1 p.2 ∙ z

pub returns-then-n-le18 : goal.returns-then-n-le18
returns-then-n-le18 c =
    let s = c.args.name.now in
    let n = length s in
    let p = c.requires in
    let z = number-zero (get_or s (n - 2) 0) (get_or s (n - 2 + 1) 0) (sym c.character.ensures.0 ∙ c.if-character-ne0.false) in
    let w = c.eight_nonzero.ensures c.if-eight_nonzero.true in
    λ t. named-last s n refl (nonzero-less s 0 (n - 10 + 8) (n - 2) (nonzero-join s 0 8 (n - 10) (n - 10 + 8) w.0 w.1 (omega arith)) (omega arith)) p.0 p.1 p.2 ∙ z

pub returns-else-n-le18 : goal.returns-else-n-le18
returns-else-n-le18 c =
    let s = c.args.name.now in
    let n = length s in
    let p = c.requires in
    let z = number-zero (get_or s (n - 2) 0) (get_or s (n - 2 + 1) 0) (sym c.character.ensures.0 ∙ c.if-character-ne0.false) in
    let w = c.eight_nonzero.ensures c.if-eight_nonzero.true in
    λ t. named-last s n refl (nonzero-less s 0 (n - 10 + 8) (n - 2)
    (nonzero-join s 0 (n - 10) (n - 10) (n - 10 + 8) (nonzero-join s 0 8 8 (n - 10) w.0 (c.inner_nonzero.ensures t) (omega arith)) w.1 (omega arith)) (omega arith)) p.0 p.1 p.2 ∙ z
