-- `decision::beside::found` meets its contract: PlatMode is looked up where PK comes or goes. Assumes nothing.
use mathlib.Core.Path.{sym, ◌∙◌}
use Rattle.decision.specs.Parts.{beside_found}
use Rattle.decision.proofs.beside.found.Goals as goal
use Rattle.decision.proofs.beside.found.Goals.{else-moves-via-then-moves+else-is_pk, else-moves-via-else-moves}

pub returns-then-is_pk : goal.returns-then-is_pk
unfolding beside_found
returns-then-is_pk c = rw (sym c.moves.ensures ∙ c.if-moves.true, sym c.is_pk.ensures ∙ c.if-is_pk.true) c.platform.ensures

pub returns : goal.returns
unfolding beside_found
returns c =
    elim c.else-moves.branch [
      | else-moves-via-then-moves+else-is_pk w ↦ rw (sym c.moves.ensures ∙ w.if-moves.true, sym w.is_pk.ensures ∙ w.if-is_pk.false)
      | else-moves-via-else-moves w ↦ rw (sym c.moves.ensures ∙ w.if-moves.false)
    ]
