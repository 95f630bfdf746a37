-- `output::put_hex_byte` meets its contract: the high digit, then the low one.
-- Assumes nothing.
use Prim.Native.Nat.{ℕ, ◌/◌, ◌%◌}
use mathlib.Core.Path.{ap, ◌∙◌}
use mathlib.Core.List.{[], ◌∷◌}
use Rattle.output.specs.Text.{hex_of, digit}
use Rattle.output.proofs.Writing.{wrote-append, wrote_as}
use Rattle.output.proofs.put_hex_byte.Goals as goal

pub returns : goal.returns
unfolding hex_of
returns c =
    let high = ap (λ (d : ℕ). d ∷ []) (c.digit.ensures ∙ ap (λ (n : ℕ). digit (n / 16)) c.from-n.ensures) in
    let low = ap (λ (d : ℕ). d ∷ []) (c.digit-2.ensures ∙ ap (λ (n : ℕ). digit (n % 16)) c.from-n.ensures) in
    let first = wrote_as high c.put_byte-next.ensures in
    let both = wrote-append first (wrote_as low c.put_byte.ensures) in
    (both, both.place)
