-- `decision::before_room` meets its contract: the parts are judged over the data that would be there. Assumes nothing.
use Prim.Native.Nat.{ℕ, ◌+◌}
use native.Mathlib.Omega.{arith}
use mathlib.Core.Bool.{Bool, cond}
use mathlib.Core.List.{List, [], ◌++◌}
use mathlib.Core.Path.{sym, ap, ap₂, ◌∙◌}
use lib.ListN.{length}
use Rattle.model.specs.Name.{keyed}
use Rattle.model.specs.Region.{entries, values}
use Rattle.model.specs.Limits.{Limit, limits_in}
use Rattle.limits.specs.Broken.{broken_by}
use Rattle.values.specs.Found.{old_data_def}
use Rattle.decision.specs.Decision.{request_of}
use Rattle.decision.specs.Parts.{kept_data_def, leaves_by, new_size, limited_by}
use Rattle.decision.proofs.Assembled.{new-size, tried_here}
use Rattle.decision.proofs.Accepted.{item-small}
use Rattle.std.specs.Prelude.{Ok}
use Rattle.std.proofs.lemmas.Result.{err_from_is_err_and}
use Rattle.decision.proofs.before_room.Goals as goal

pub judge-requires-clause-proper_data : goal.judge-requires-clause-proper_data
unfolding new_size kept_data_def
judge-requires-clause-proper_data c =
    let a = c.args in
    let kept = c.kept_data-kept.ensures ∙ ap (λ (t : Bool). cond t (old_data_def a.region.now a.old) []) c.appends.ensures in
    (c.proper-proper.ensures, ap (λ (b : List ℕ). length b + length c.proper-proper.result.now) kept)

pub returns-in_err-what : goal.returns-in_err-what
unfolding limited_by kept_data_def
returns-in_err-what c =
    let a = c.args in
    let p = c.requires in
    let q = request_of a.name.now a.vendor.now a.asking.attributes a.bytes.now a.asking.presence a.asking.verdict in
    let r = a.region.now in
    let b = a.asking.attributes in
    let ls : List Limit = limits_in a.limits.now a.t.rules (keyed a.name.now a.vendor.now) in
    let kept = c.kept_data-kept.ensures ∙ ap (λ (t : Bool). cond t (old_data_def r a.old) []) c.appends.ensures in
    let proper = c.proper-proper.ensures in
    let forbidden = c.forbids-forbidden.ensures ∙ ap₂ (λ (x y : List ℕ). broken_by ls (leaves_by a.old b (length y)) (x ++ y)) kept proper in
    let e = err_from_is_err_and c.from_residual.result c.from_residual.ensures.1 in
    rw (e.1, e.2) (sym (tried_here a.t q r p.sound_region a.old p.found_value ls ∙ ap₂ limited_by (sym forbidden) (sym c.in_err-what.ensures)))

pub returns-then-forbidden : goal.returns-then-forbidden
unfolding limited_by kept_data_def
returns-then-forbidden c =
    let a = c.args in
    let p = c.requires in
    let q = request_of a.name.now a.vendor.now a.asking.attributes a.bytes.now a.asking.presence a.asking.verdict in
    let r = a.region.now in
    let b = a.asking.attributes in
    let ls : List Limit = limits_in a.limits.now a.t.rules (keyed a.name.now a.vendor.now) in
    let kept = c.kept_data-kept.ensures ∙ ap (λ (t : Bool). cond t (old_data_def r a.old) []) c.appends.ensures in
    let proper = c.proper-proper.ensures in
    let forbidden = c.forbids-forbidden.ensures ∙ ap₂ (λ (x y : List ℕ). broken_by ls (leaves_by a.old b (length y)) (x ++ y)) kept proper in
    sym (tried_here a.t q r p.sound_region a.old p.found_value ls ∙ ap₂ limited_by (sym forbidden ∙ c.if-forbidden.true) (sym c.in_ok-what.ensures))

pub returns : goal.returns
unfolding limited_by new_size kept_data_def
returns c =
    let a = c.args in
    let p = c.requires in
    let q = request_of a.name.now a.vendor.now a.asking.attributes a.bytes.now a.asking.presence a.asking.verdict in
    let r = a.region.now in
    let b = a.asking.attributes in
    let ls : List Limit = limits_in a.limits.now a.t.rules (keyed a.name.now a.vendor.now) in
    let kept = c.kept_data-kept.ensures ∙ ap (λ (t : Bool). cond t (old_data_def r a.old) []) c.appends.ensures in
    let proper = c.proper-proper.ensures in
    let forbidden = c.forbids-forbidden.ensures ∙ ap₂ (λ (x y : List ℕ). broken_by ls (leaves_by a.old b (length y)) (x ++ y)) kept proper in
    let size = ap₂ (λ (x y : List ℕ). length x + length y) kept proper in (
      sym (tried_here a.t q r p.sound_region a.old p.found_value ls ∙ ap₂ limited_by (sym forbidden ∙ c.if-forbidden.false) (sym c.in_ok-what.ensures)),
      size,
      λ e. omega (
        arith,
        size,
        new-size a.t q r p.sound_region a.old p.found_value,
        item-small a.t q (values (entries r)) (sym c.in_ok-what.ensures ∙ ap Ok e),
      ),
    )
