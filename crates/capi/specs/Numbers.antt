-- Answers in numbers, as they cross to C: the values of c/varstore.h.
use Rattle.std.specs.Prelude.{ℕ, List}
use Rattle.capi.specs.declared.Answered.{Answered}
use Rattle.capi.specs.declared.Checked.{Checked}
use Rattle.capi.specs.declared.Present.{Present}
use Rattle.model.specs.declared.PlatMode.{PlatMode}
use Rattle.model.specs.declared.PlatMode.TheVariants as mode
use Rattle.model.specs.Lists.{on_some}
use Rattle.model.specs.Image.{blocks, region}
use Rattle.model.specs.Region.{tail_at, values_of}
use Rattle.model.specs.Request.{mode_of}
use Rattle.model.specs.Rules.{first_broken, image_rules}
use Rattle.model.specs.Answers.{Outcome, done, stopped, refused, rule_number}

-- 0 done with its number of stores, 1 stopped, 2 refused with its rule
unfoldable pub numbers_of : Outcome → Answered
numbers_of (done stores) = record { kind = 0; rule = 0; stores = stores }
numbers_of stopped = record { kind = 1; rule = 0; stores = 0 }
numbers_of (refused rule) = record { kind = 2; rule = rule; stores = 0 }

-- a check of rules 1 and 2: b and the offset of the tail, or the rule broken
unfoldable pub checked_of : List ℕ → Checked
checked_of img =
    on_some
    (first_broken (image_rules img))
    (λ rule. record { answer = numbers_of (refused (rule_number rule)); blocks = 0; tail = 0 })
    (record { answer = numbers_of (done 0); blocks = blocks img; tail = tail_at (region img) })

-- 0 setup, 1 user, 2 audit, 3 deployed
unfoldable pub mode_number_def : PlatMode → ℕ
mode_number_def mode.Setup = 0
mode_number_def mode.User = 1
mode_number_def mode.Audit = 2
mode_number_def mode.Deployed = 3

-- the mode by rules 1 and 2, or the rule broken
unfoldable pub present_of : List ℕ → Present
present_of img =
    on_some
    (first_broken (image_rules img))
    (λ rule. record { answer = numbers_of (refused (rule_number rule)); mode = 0 })
    (record { answer = numbers_of (done 0); mode = mode_number_def (mode_of (values_of img)) })
