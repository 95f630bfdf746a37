-- `capi::vs_format` meets its contract: it is the engine's, with the answer in numbers. Assumes nothing.
use mathlib.Core.Path.{ap, ◌∙◌}
use Rattle.capi.specs.Numbers.{numbers_of}
use Rattle.capi.proofs.vs_format.Goals as goal

pub returns : goal.returns
returns c =
    let e = c.format-answer.ensures in (c.from.ensures ∙ ap numbers_of e.0, e.1, e.2)
