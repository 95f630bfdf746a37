-- `session::lent::enlist` meets its contract: its three stores, one after the other. Assumes nothing.
use Prim.Native.Nat.{ℕ, ◌+◌, ◌*◌}
use mathlib.Core.Path.{ap, ◌∙◌}
use mathlib.Core.List.{List}
use lib.ListN.{length}
use lib.Seq.{sets}
use Rattle.session.specs.Written.{number_bytes, enlisted}
use Rattle.session.proofs.lent.enlist.Goals as goal

pub returns : goal.returns
unfolding enlisted
returns c =
    let a = c.args in
    c.put_number-2.ensures
    ∙ ap (λ (l : List ℕ). sets l 6960 (number_bytes (a.place + 1)))
    (c.put_number.ensures ∙ ap (λ (l : List ℕ). sets l (6964 + 4 * a.place) (number_bytes (length a.name.now))) c.put_place.ensures)
