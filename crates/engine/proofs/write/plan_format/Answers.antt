-- `engine::write::plan_format` meets its contract: refused by rule 1, or what `planner::format::plan` plans. Assumes nothing.
use native.Mathlib.Omega.{arith}
use Prim.Native.Nat.{◌≤◌}
use mathlib.Core.Path.{◌≡◌, sym, ap, ◌∙◌}
use lib.ListN.{length}
use Rattle.model.specs.declared.Rule.TheVariants.{Length}
use Rattle.model.specs.StartUp.{format_plan}
use Rattle.model.specs.Image.{blocks}
use Rattle.model.proofs.Parts.{right-parts, parts-blocks}
use Rattle.image.proofs.Cut.{parted}
use Rattle.plan.proofs.Parts.{refused-plans}
use Rattle.planner.proofs.Formatting.{format-refused}
use borrow.Author.Rules.{rules}
use Rattle.image.proofs.Look.{rule-broken}
use Rattle.std.proofs.lemmas.Result.{err_from_is_err_and}
use Rattle.engine.proofs.write.plan_format.Goals as goal

pub returns-in_err-b : goal.returns-in_err-b
returns-in_err-b c =
    let a = c.args in
    let told = err_from_is_err_and c.from_residual.result c.from_residual.ensures.1 in
    rw (told.1, told.2, rule-broken c.in_err-b.ensures.value c.in_err-b.ensures.ok_part) (refused-plans _ a.image.now (format_plan a.image.now) Length (format-refused a.image.now (sym c.blocks-2.ensures.0 ∙ c.in_err-b.ensures.ok_part)))

pub plan-requires : goal.plan-requires
plan-requires c =
    let img = c.args.image.now in
    let found = c.in_ok-b.ensures.ok_part in
    let p = parted img c.in_ok-b.b (sym c.blocks-2.ensures.0 ∙ found) in
    let i = right-parts img p.right-length in
    let same : blocks img ≡ i.b = ap blocks i.whole ∙ parts-blocks i.parts in
    let low : 1 ≤ c.in_ok-b.b = omega (arith, i.parts.low, p.same) in
    let room : length c.args.content.now ≡ 28672 = search rules in
    (sym c.blocks-2.ensures.0 ∙ found, low, rw found at c.blocks-2.ensures.1, room)
