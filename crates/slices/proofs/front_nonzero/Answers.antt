use Rattle.std.proofs.Common.{◌≡◌, ◌+◌, ◌-◌, get_or, length, false, sym, refl, ◌∙◌, arith}
use Rattle.model.specs.Name.{zero_character}
use Rattle.slices.proofs.Ended.{ended-early, ended-next}
use Rattle.slices.proofs.Windows.{number-zero, number-nonzero, nonzero-none, nonzero-join, nonzero-less, nonzero-one}
use Rattle.slices.proofs.front_nonzero.Goals as goal

pub loop-i-init : goal.loop-i-init
loop-i-init c = (omega arith, refl, nonzero-none c.args.name.now 0, refl)

pub returns-then-character-eq0-clause-no : goal.returns-then-character-eq0-clause-no
returns-then-character-eq0-clause-no c =
    let s = c.args.name.now in
    let i = c.loop-i.i in
    λ t. c.loop-i.invariant.3 ∙ ended-early s i (omega arith) (number-zero (get_or s i 0) (get_or s (i + 1) 0) (sym c.character.ensures.0 ∙ c.if-character-eq0.true))

pub loop-i-preserved : goal.loop-i-preserved
loop-i-preserved c =
    let s = c.args.name.now in
    let i = c.loop-i.i in
    let other : zero_character (get_or s i 0) (get_or s (i + 1) 0) ≡ false = number-nonzero (get_or s i 0) (get_or s (i + 1) 0) (λ z. c.if-character-eq0.false (c.character.ensures.0 ∙ z)) in (
      omega arith,
      omega arith,
      nonzero-join s 0 i i (i + 2) c.loop-i.invariant.2 (nonzero-one s i c.loop-i.invariant.1 other) (omega arith),
      c.loop-i.invariant.3 ∙ ended-next s i (omega arith) other,
    )

pub returns-clause-yes : goal.returns-clause-yes
returns-clause-yes c =
    let s = c.args.name.now in
    λ t. nonzero-less s 0 c.loop-i.i (length s - 2) c.loop-i.invariant.2 (omega arith)
