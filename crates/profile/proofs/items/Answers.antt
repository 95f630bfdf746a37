-- `profile::items` meets its contract: the items read stand before those still to be read, and each ends within the file. Assumes nothing.
use Prim.Native.Nat.{ℕ, ◌<◌}
use native.Mathlib.Omega.{arith}
use mathlib.Core.Path.{◌≡◌, sym, ap, ◌∙◌, subst}
use lib.ListN.{length, length-set}
use Rattle.profile.specs.Reader.{requests_in}
use Rattle.profile.proofs.Filled.{read_up_to, AllWithin, item-missing, item-more, more_within, read_whole, read-over}
use Rattle.profile.proofs.items.Goals as goal

pub returns-in_err-setting : goal.returns-in_err-setting
returns-in_err-setting c =
    let a = c.args in
    let l = c.loop-i in
    rw c.from_residual.ensures (sym (l.invariant.3 ∙ item-missing a.file.now l.at a.count l.i l.list c.loop-i-test.true c.in_err-setting.ensures.0))

pub loop-i-preserved : goal.loop-i-preserved
loop-i-preserved c =
    let a = c.args in
    let l = c.loop-i in
    let inside : l.i < length l.list = omega arith in
    let t = c.in_ok-setting in (
      t.ensures.1.0,
      length-set l.list l.i t.setting ∙ l.invariant.1,
      more_within (length a.file.now) l.i l.list t.setting inside l.invariant.2 t.ensures.1.1,
      l.invariant.3 ∙ item-more a.file.now l.at a.count l.i l.list c.loop-i-test.true t.setting t.next t.ensures.0 inside,
    )

pub returns-then-at-file : goal.returns-then-at-file
unfolding requests_in
returns-then-at-file c =
    let a = c.args in
    let l = c.loop-i in
    let done : l.i ≡ a.count = omega arith in record {
      same = sym (l.invariant.3 ∙ ap (λ (n : ℕ). read_up_to a.file.now a.count l.list n l.at) done ∙ read_whole a.file.now a.count l.at l.list c.if-at-file.true);
      few = omega arith;
      within = subst (λ (n : ℕ). AllWithin (length a.file.now) l.list n) done l.invariant.2;
    }

pub returns : goal.returns
returns c =
    let a = c.args in
    let l = c.loop-i in
    let done : l.i ≡ a.count = omega arith in
    sym (l.invariant.3 ∙ ap (λ (n : ℕ). read_up_to a.file.now a.count l.list n l.at) done ∙ read-over a.file.now a.count l.at l.list l.invariant.0 c.if-at-file.false)
