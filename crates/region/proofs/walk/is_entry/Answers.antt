-- `region::walk::is_entry` meets its contract: what it compares, in its own order, is what the definition does.
-- Assumes nothing.
use Rattle.std.proofs.Common.{◌≡◌, false, length, sym, ap, ◌∙◌}
use Rattle.model.specs.Lists.{same}
use Rattle.region.specs.Walk.{entry_as}
use Rattle.region.proofs.Entries.{other_length, by_key}
use Rattle.region.proofs.walk.is_entry.Goals as goal
use Rattle.region.proofs.walk.is_entry.Goals.{then-own-name, else-own-name}

pub returns-else-equal : goal.returns-else-equal
returns-else-equal c =
    let a = c.args in
    let no = c.if-equal.false in
    elim c.if-own-name.branch [
      | then-own-name w ↦
          let g : same (entry_as a.y a.region.now a.at a.e).name a.name.now ≡ false =
          sym (w.equal.ensures ∙ ap (λ l. same l a.name.now) c.name_of-own.ensures) ∙ sym w.value-is ∙ no in
          no ∙ sym (by_key a.y a.region.now a.at a.e a.state a.name.now a.vendor.now c.if-e-state.false ∙ rw g)
      | else-own-name w ↦
          no ∙ sym (other_length a.y a.region.now a.at a.e a.state a.name.now a.vendor.now (λ p. w.if-own-name.false (ap length c.name_of-own.ensures ∙ p)))
    ]
