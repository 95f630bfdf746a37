-- Four quarters and what is left are the whole.
use Prim.Native.Nat.{◌*◌, ◌/◌}
use mathlib.Core.Path.{sym, ap, ◌∙◌}
use mathlib.Core.Bool.{Bool, ◌&&◌}
use lib.ListN.{length, drop}
use Rattle.model.specs.Lists.{all_ff}
use Rattle.slices.proofs.Blank.{blank-cuts, blank-each}
use Rattle.slices.proofs.is_blank.Goals as goal

pub returns-then-are_blank : goal.returns-then-are_blank
returns-then-are_blank c =
    let s = c.args.s.now in
    let q = length s / 4 in
    c.is_blank_rest.ensures ∙ blank-each c.from.result.now ∙ ap all_ff c.from.ensures
    ∙ sym (blank-cuts s _ _ _ _ q c.cut.ensures c.cut-2.ensures c.cut-3.ensures c.cut-4.ensures
    ∙ ap (λ (t : Bool). t && all_ff (drop (4 * q) s)) (sym c.are_blank.ensures ∙ c.if-are_blank.true))

pub returns-else-are_blank : goal.returns-else-are_blank
returns-else-are_blank c =
    let s = c.args.s.now in
    let q = length s / 4 in
    c.if-are_blank.false ∙ sym (blank-cuts s _ _ _ _ q c.cut.ensures c.cut-2.ensures c.cut-3.ensures c.cut-4.ensures
    ∙ ap (λ (t : Bool). t && all_ff (drop (4 * q) s)) (sym c.are_blank.ensures ∙ c.if-are_blank.false))
