use Rattle.std.proofs.Common.{◌+◌, ◌-◌, length, get_or, refl, sym, ◌∙◌, arith}
use Rattle.slices.proofs.Ended.{named-short, named-long, named-odd, named-ended}
use Rattle.slices.proofs.Windows.{number-test, named-last}
use Rattle.slices.proofs.is_named.Goals as goal
use Rattle.slices.proofs.is_named.Goals.{then-n-lt4-via-then-n-lt4, then-n-lt4-via-else-n-lt4+then-n-gt-LONGEST_NAME, then-n-lt4-via-else-n-lt4+else-n-gt-LONGEST_NAME+then-n-ne0}

pub returns-then-n-lt4 : goal.returns-then-n-lt4
returns-then-n-lt4 c =
    let s = c.args.name.now in
    elim c.then-n-lt4.branch [
      | then-n-lt4-via-then-n-lt4 w ↦ sym (named-short s w.if-n-lt4.true)
      | then-n-lt4-via-else-n-lt4+then-n-gt-LONGEST_NAME w ↦ sym (named-long s w.if-n-lt4.false w.if-n-gt-LONGEST_NAME.true)
      | then-n-lt4-via-else-n-lt4+else-n-gt-LONGEST_NAME+then-n-ne0 w ↦ sym (named-odd s (omega arith))
    ]

pub returns-then-front_nonzero : goal.returns-then-front_nonzero
returns-then-front_nonzero c =
    let s = c.args.name.now in
    let n = length s in
    number-test (get_or s (n - 2) 0) (get_or s (n - 2 + 1) 0) c.character.result c.character.ensures.0
    ∙ sym (named-last s n refl (c.front_nonzero.ensures.yes c.if-front_nonzero.true) c.if-n-lt4.false c.if-n-gt-LONGEST_NAME.false c.if-n-ne0.false)

pub returns-else-front_nonzero : goal.returns-else-front_nonzero
returns-else-front_nonzero c =
    let s = c.args.name.now in
    c.if-front_nonzero.false ∙ sym (named-ended s c.if-n-lt4.false c.if-n-gt-LONGEST_NAME.false ∙ c.front_nonzero.ensures.no c.if-front_nonzero.false)
