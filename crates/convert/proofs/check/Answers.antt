-- `convert::check` meets its contract: the first test that fails decides.
-- Assumes nothing.
use Prim.Native.Nat.{ℕ, ◌*◌}
use native.Mathlib.Omega.{arith}
use mathlib.Core.Path.{sym, ap, ◌∙◌}
use borrow.Author.Tests.{lt-ltb, le-ltb}
use Rattle.std.specs.Prelude.{is_err}
use Rattle.std.proofs.lemmas.Result.{err_from_is_err_and}
use Rattle.model.specs.Image.{region_size, block}
use Rattle.model.specs.Change.{space_in}
use Rattle.model.specs.Move.{rule20, moved_values}
use Rattle.image.proofs.Cut.{parted}
use Rattle.image.proofs.Look.{rule-broken}
use Rattle.convert.proofs.Checks.{told-unready, told-ready, source-wrong, target-wrong, unready, too-stamped, too_large, fitting, cut-values, cut-space}
use Rattle.convert.proofs.check.Goals as goal

pub returns-in_err-b : goal.returns-in_err-b
returns-in_err-b c =
    let a = c.args in
    let told = err_from_is_err_and c.from_residual.result c.from_residual.ensures.1 in
    let e = c.in_err-b.ensures in
    rw (told.1, told.2, rule-broken e.value e.ok_part) (sym (source-wrong a.from a.to a.image.now a.target.now (sym c.blocks-2.ensures.0 ∙ e.ok_part)))

pub returns-in_err-t : goal.returns-in_err-t
returns-in_err-t c =
    let a = c.args in
    let p = parted a.image.now c.in_ok-b.b (sym c.blocks-2.ensures.0 ∙ c.in_ok-b.ensures.ok_part) in
    let told = err_from_is_err_and c.from_residual-in_err-t.result c.from_residual-in_err-t.ensures.1 in
    let e = c.in_err-t.ensures in
    rw (told.1, told.2, rule-broken e.value e.ok_part) (sym (target-wrong a.from a.to a.image.now a.target.now p.right-length (sym c.blocks-3.ensures.0 ∙ e.ok_part)))

pub returns-then-is_err : goal.returns-then-is_err
returns-then-is_err c =
    let a = c.args in
    let img = a.image.now in
    let tgt = a.target.now in
    let p = parted img c.in_ok-b.b (sym c.blocks-2.ensures.0 ∙ c.in_ok-b.ensures.ok_part) in
    let q = parted tgt c.in_ok-t.t (sym c.blocks-3.ensures.0 ∙ c.in_ok-t.ensures.ok_part) in
    let d = told-unready a.from img p.right-length (ap is_err (sym c.check_call.ensures) ∙ sym c.is_err.ensures.value ∙ c.if-is_err.true) in
    sym (unready a.from a.to img tgt p.right-length q.right-length d)

pub returns-then-is_unstampable : goal.returns-then-is_unstampable
returns-then-is_unstampable c =
    let a = c.args in
    let img = a.image.now in
    let tgt = a.target.now in
    let p = parted img c.in_ok-b.b (sym c.blocks-2.ensures.0 ∙ c.in_ok-b.ensures.ok_part) in
    let q = parted tgt c.in_ok-t.t (sym c.blocks-3.ensures.0 ∙ c.in_ok-t.ensures.ok_part) in
    let d = told-ready a.from img (ap is_err (sym c.check_call.ensures) ∙ sym c.is_err.ensures.value ∙ c.if-is_err.false) in
    let same = c.cut-region.ensures ∙ p.its-region in
    let u = ap (rule20 a.to) (sym (cut-values a.from a.to img same)) ∙ sym c.is_unstampable.ensures in
    sym (too-stamped a.from a.to img tgt p.right-length q.right-length d (u ∙ c.if-is_unstampable.true))

pub returns-then-t-needed : goal.returns-then-t-needed
unfolding region_size block
returns-then-t-needed c =
    let a = c.args in
    let img = a.image.now in
    let tgt = a.target.now in
    let p = parted img c.in_ok-b.b (sym c.blocks-2.ensures.0 ∙ c.in_ok-b.ensures.ok_part) in
    let q = parted tgt c.in_ok-t.t (sym c.blocks-3.ensures.0 ∙ c.in_ok-t.ensures.ok_part) in
    let d = told-ready a.from img (ap is_err (sym c.check_call.ensures) ∙ sym c.is_err.ensures.value ∙ c.if-is_err.false) in
    let same = c.cut-region.ensures ∙ p.its-region in
    let u = ap (rule20 a.to) (sym (cut-values a.from a.to img same)) ∙ sym c.is_unstampable.ensures in
    let size = ap (λ (n : ℕ). 4096 * n) q.same in
    let n = c.needed.ensures ∙ cut-space a.from a.to img same (4096 * c.in_ok-t.t) p.right-length d in
    sym (too_large a.from a.to img tgt p.right-length q.right-length d (u ∙ c.if-is_unstampable.false)
    (lt-ltb (region_size tgt) (space_in a.to (moved_values a.from img)) (omega (arith, size, n, c.if-t-needed.true))))

pub returns : goal.returns
unfolding region_size block
returns c =
    let a = c.args in
    let img = a.image.now in
    let tgt = a.target.now in
    let p = parted img c.in_ok-b.b (sym c.blocks-2.ensures.0 ∙ c.in_ok-b.ensures.ok_part) in
    let q = parted tgt c.in_ok-t.t (sym c.blocks-3.ensures.0 ∙ c.in_ok-t.ensures.ok_part) in
    let d = told-ready a.from img (ap is_err (sym c.check_call.ensures) ∙ sym c.is_err.ensures.value ∙ c.if-is_err.false) in
    let same = c.cut-region.ensures ∙ p.its-region in
    let u = ap (rule20 a.to) (sym (cut-values a.from a.to img same)) ∙ sym c.is_unstampable.ensures in
    let size = ap (λ (n : ℕ). 4096 * n) q.same in
    let n = c.needed.ensures ∙ cut-space a.from a.to img same (4096 * c.in_ok-t.t) p.right-length d in
    rw (← p.same, ← q.same)
    (sym (fitting a.from a.to img tgt p.right-length q.right-length d (u ∙ c.if-is_unstampable.false)
    (le-ltb (region_size tgt) (space_in a.to (moved_values a.from img)) (omega (arith, size, n, c.if-t-needed.false)))))
