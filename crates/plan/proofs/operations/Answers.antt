use Rattle.std.proofs.Common.{◌≡◌, ◌<◌, length, get_or, sym, ◌∙◌, map, rules, arith}
use Rattle.std.proofs.lemmas.List.{length-map, get_or-map, same_lists}
use Rattle.plan.specs.declared.Step.TheVariants.{Nothing}
use Rattle.plan.specs.Numbers.{operation_of, operations_of}
use Rattle.plan.proofs.operations.Goals as goal

pub returns : goal.returns
unfolding operations_of
returns c =
    let plan = c.args.plan in
    same_lists c.loop-i.ops (map operation_of plan) (rw length-map (omega arith))
    (λ k d h.
    let lt : k < length plan = omega arith in
    c.loop-i.invariant.1 k d (omega arith) ∙ sym (get_or-map operation_of plan k Nothing d lt))
