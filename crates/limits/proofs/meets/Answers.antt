-- `limits::meets` meets its contract: its looks are the tests of the definition, in their order. Assumes nothing.
use Prim.Native.Nat.{ℕ, ◌+◌, ◌≤◌}
use mathlib.Core.Path.{◌≡◌, sym, ap₂, ◌∙◌}
use mathlib.Core.Bool.{true, false}
use mathlib.Core.List.{◌++◌}
use lib.ListN.{length}
use Rattle.model.specs.Lists.{among, part}
use Rattle.model.specs.Limits.{Limit, limit_of, little, widths}
use Rattle.limits.proofs.Fields.{too_short, too_long, other_width, outside, by_field}
use Rattle.limits.proofs.meets.Goals as goal

pub returns-then-n-u32_at : goal.returns-then-n-u32_at
unfolding limit_of
returns-then-n-u32_at c =
    let a = c.args in
    sym (too_short (limit_of a.t.now) a.old.now a.own.now (rw c.u32_at.ensures at c.if-n-u32_at.true))

pub returns-then-u32_at-n : goal.returns-then-u32_at-n
unfolding limit_of
returns-then-u32_at-n c =
    let a = c.args in
    sym (too_long (limit_of a.t.now) a.old.now a.own.now (rw c.u32_at-2.ensures at c.if-u32_at-n.true))

pub returns-then-not-is_width : goal.returns-then-not-is_width
unfolding limit_of
returns-then-not-is_width c =
    let a = c.args in
    let w : among widths c.u32_at-width.result ≡ false = sym c.is_width.ensures ∙ c.if-not-is_width.true in
    sym (other_width (limit_of a.t.now) a.old.now a.own.now (rw c.u32_at-width.ensures at w))

pub returns-then-n-at : goal.returns-then-n-at
unfolding limit_of
returns-then-n-at c =
    let a = c.args in
    sym (outside (limit_of a.t.now) a.old.now a.own.now (rw (c.u32_at-at.ensures, c.u32_at-width.ensures) at c.if-n-at.true))

pub field-requires : goal.field-requires
field-requires c = sym c.is_width.ensures ∙ c.if-not-is_width.false

pub returns : goal.returns
unfolding limit_of
returns c =
    let a = c.args in
    let t : Limit = limit_of a.t.now in
    let size : ℕ = length a.old.now + length a.own.now in
    let least : t.least ≤ size = rw c.u32_at.ensures at c.if-n-u32_at.false in
    let most : size ≤ t.most = rw c.u32_at-2.ensures at c.if-u32_at-n.false in
    let given : among widths c.u32_at-width.result ≡ true = sym c.is_width.ensures ∙ c.if-not-is_width.false in
    let wide : among widths t.width ≡ true = rw c.u32_at-width.ensures at given in
    let inside : t.at + t.width ≤ size = rw (c.u32_at-at.ensures, c.u32_at-width.ensures) at c.if-n-at.false in
    let number : c.field.result ≡ little (part t.at t.width (a.old.now ++ a.own.now)) =
    c.field.ensures ∙ ap₂ (λ (at w : ℕ). little (part at w (a.old.now ++ a.own.now))) c.u32_at-at.ensures c.u32_at-width.ensures in
    rw (c.is_allowed.ensures, number) (sym (by_field t a.old.now a.own.now least most wide inside))
