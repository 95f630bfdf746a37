-- `output::put_decimal` meets its contract: the digits are those of the tenth and one more.
-- Assumes nothing.
use Prim.Native.Nat.{ℕ}
use native.Mathlib.Omega.{arith}
use mathlib.Core.Path.{sym, ap, ◌∙◌}
use mathlib.Core.List.{[], ◌∷◌}
use borrow.Author.Rules.{rules}
use Rattle.output.proofs.Writing.{wrote-append, wrote_as}
use Rattle.output.proofs.Digits.{decimal-one, decimal-more, decimal-length}
use Rattle.output.proofs.+put_decimal.Goals as goal

pub returns-then-n-lt10 : goal.returns-then-n-lt10
returns-then-n-lt10 t c =
    let a = c.args in
    let it = ap (λ (d : ℕ). d ∷ []) c.digit.ensures in
    (wrote_as (it ∙ sym (decimal-one a.n (search rules))) c.put_byte.ensures, omega (arith, c.put_byte.ensures.place))

pub returns : goal.returns
returns t c =
    let a = c.args in
    let last = ap (λ (d : ℕ). d ∷ []) c.digit-2.ensures in
    let both = wrote-append c.put_decimal-next.ensures.0 (wrote_as last c.put_byte-2.ensures) in
    let all = wrote_as (sym (decimal-more a.n (search rules))) both in
    (all, omega (arith, all.place, decimal-length a.n (search rules)))
