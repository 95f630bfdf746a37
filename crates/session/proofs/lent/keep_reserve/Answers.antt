-- `session::lent::keep_reserve` meets its contract: at runtime the bytes kept back are R, at most 4,096. Assumes nothing.
use Prim.Native.Nat.{ℕ}
use mathlib.Core.Path.{ap, ◌∙◌}
use lib.Seq.{sets}
use Rattle.model.specs.Session.{counted_reserve}
use Rattle.session.specs.Written.{number_bytes}
use Rattle.session.proofs.lent.keep_reserve.Goals as goal

pub returns : goal.returns
returns c =
    let a = c.args in
    c.put_number.ensures
    ∙ ap (λ (n : ℕ). sets a.s.now a.at (number_bytes n)) (c.reserved-kept.ensures.0 ∙ ap counted_reserve c.u32_at.ensures)
