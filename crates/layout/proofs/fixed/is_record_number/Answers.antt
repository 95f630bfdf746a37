-- `layout::fixed::is_record_number` meets its contract: the digits decide, and then the two bytes of the last character. Assumes nothing.
use mathlib.Core.Path.{◌≡◌, ◌∙◌}
use mathlib.Core.Bool.{◌&&◌}
use lib.ListN.{get_or}
use lib.Dec.{eqb}
use Rattle.layout.proofs.Records.{digits_bytes}
use Rattle.layout.proofs.fixed.is_record_number.Goals as goal
use Rattle.layout.proofs.fixed.is_record_number.Goals.{then-has_digits, else-has_digits}

pub returns-then-name-eq0 : goal.returns-then-name-eq0
returns-then-name-eq0 c =
    let s = c.args.name.now in
    let both : c.if-has_digits.value ≡ (c.has_digits.result && eqb (get_or s 24 0) 0) =
    elim c.if-has_digits.branch [ then-has_digits w ↦ rw w.if-has_digits.true w.value-is | else-has_digits w ↦ rw w.if-has_digits.false (w.value-is ∙ w.if-has_digits.false) ] in
    rw (digits_bytes s c.requires, ← c.has_digits.ensures, ← both, c.if-name-eq0.true)

pub returns-else-name-eq0 : goal.returns-else-name-eq0
returns-else-name-eq0 c =
    let s = c.args.name.now in
    let both : c.if-has_digits.value ≡ (c.has_digits.result && eqb (get_or s 24 0) 0) =
    elim c.if-has_digits.branch [ then-has_digits w ↦ rw w.if-has_digits.true w.value-is | else-has_digits w ↦ rw w.if-has_digits.false (w.value-is ∙ w.if-has_digits.false) ] in
    rw (digits_bytes s c.requires, ← c.has_digits.ensures, ← both, c.if-name-eq0.false)
