-- `slices::four_nonzero` meets its contract: where each of the four numbers is not 0, no character is zero. Assumes nothing.
use Rattle.slices.proofs.Windows.{window}
use Rattle.slices.proofs.four_nonzero.Goals as goal

pub returns : goal.returns
returns c =
    let a = c.args in
    λ t.
    window a.name.now a.i c.requires.1 c.character.result c.character-2.result c.character-3.result c.character-4.result
    c.character.ensures.0 c.character-2.ensures.0 c.character-3.ensures.0 c.character-4.ensures.0 t
