-- `engine::items::plan_file` meets its contract: rules 25 and 26 on the file that was read, then its items. Assumes nothing.
use mathlib.Core.Path.{sym, subst, ◌∙◌}
use Rattle.profile.proofs.Whole.{read-no-form}
use Rattle.profile.specs.Reader.{Reads}
use Rattle.plan.proofs.Parts.{refused-plans}
use Rattle.engine.proofs.Profiling.{formed, twice, file-refused, twice-refused}
use Rattle.image.proofs.Look.{rule-broken}
use Rattle.std.proofs.lemmas.Result.{err_from_is_err_and}
use Rattle.engine.proofs.items.plan_file.Goals as goal

pub returns-in_err-settings : goal.returns-in_err-settings
returns-in_err-settings c =
    let a = c.args in
    let p = c.requires in
    let none = c.in_err-settings.ensures.ok_part in
    let told = err_from_is_err_and c.from_residual.result c.from_residual.ensures.1 in
    rw (told.1, told.2, rule-broken c.in_err-settings.ensures.value c.in_err-settings.ensures.ok_part) (λ m s h. refused-plans _ _ _ _ (file-refused m s a.file.now a.image.now p.0.unbroken (read-no-form a.file.now (subst (Reads a.file.now) none c.read.ensures))))

pub shares_name-requires : goal.shares_name-requires
shares_name-requires c = (subst (Reads c.args.file.now) c.in_ok-settings.ensures.ok_part c.read.ensures).few

pub returns-then-shares_name : goal.returns-then-shares_name
returns-then-shares_name c =
    let a = c.args in
    let r = subst (Reads c.args.file.now) c.in_ok-settings.ensures.ok_part c.read.ensures in
    λ m s h. refused-plans _ _ _ _ (twice-refused m s a.file.now a.image.now c.requires.0.unbroken (formed r) (twice r _ (sym c.shares_name.ensures ∙ c.if-shares_name.true)))

pub plan_items-requires : goal.plan_items-requires
plan_items-requires c =
    let p = c.requires in
    record {
      ready = p.0;
      bytes = (p.1, p.2);
      room = p.3;
      says = p.4;
      reads = subst (Reads c.args.file.now) c.in_ok-settings.ensures.ok_part c.read.ensures;
      apart = sym c.shares_name.ensures ∙ c.if-shares_name.false;
    }
