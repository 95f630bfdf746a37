-- A check and the platform's mode, told in numbers, by what was found.
-- Assumes nothing.
use Prim.Native.Nat.{ℕ}
use native.Mathlib.Omega.{arith}
use mathlib.Core.Path.{◌≡◌, refl}
use mathlib.Core.List.{List}
use mathlib.Core.Option.{Option, none, some}
use Rattle.std.specs.Prelude.{Result, Ok, Err}
use Rattle.model.specs.Layout.{authenticated}
use Rattle.model.specs.declared.Rule.{Rule}
use Rattle.model.specs.declared.PlatMode.{PlatMode}
use Rattle.model.specs.declared.Answer.TheVariants.{Done, Refused}
use Rattle.model.specs.Lists.{on_some}
use Rattle.model.specs.Region.{values_of}
use Rattle.model.specs.Request.{mode_of}
use Rattle.model.specs.Rules.{first_broken, image_rules}
use Rattle.model.specs.Answers.{answer_of, rule_number}
use Rattle.image.specs.Check.{call_of}
use Rattle.image.specs.declared.Ready.{Ready}
use Rattle.image.proofs.Readiness.{refused-rule, is-ready}
use Rattle.engine.specs.Modes.{platform_of}
use Rattle.capi.specs.declared.Answered.{Answered}
use Rattle.capi.specs.declared.Checked.{Checked}
use Rattle.capi.specs.declared.Present.{Present}
use Rattle.capi.specs.Numbers.{numbers_of, checked_of, mode_number_def, present_of}

-- rules 1 and 2 are kept
pub ready-told : (img : List ℕ) {ready : Ready} (x : Answered) → call_of img ≡ Ok ready → x ≡ numbers_of (answer_of (Done 0))
    → ◌≡◌ {A = Checked} (record { answer = x; blocks = ready.blocks; tail = ready.tail }) (checked_of img)
unfolding checked_of
ready-told img x e f =
    let i = is-ready authenticated e in
    rw (i.unbroken, i.number, i.tail-at, f) refl

-- the first that is broken
pub broken-told : (img : List ℕ) (rule : Rule) (x : Answered) → call_of img ≡ Err rule → x ≡ numbers_of (answer_of (Refused rule))
    → ◌≡◌ {A = Checked} (record { answer = x; blocks = 0; tail = 0 }) (checked_of img)
unfolding checked_of
broken-told img rule x e f = rw (refused-rule authenticated img rule e, f) refl

-- the mode, and the same of it
module _ (img : List ℕ) (x : Answered) where
  pub mode-told : (m : PlatMode) (n : ℕ) → platform_of img ≡ Ok m → x ≡ numbers_of (answer_of (Done 0)) → n ≡ mode_number_def m
      → ◌≡◌ {A = Present} (record { answer = x; mode = n }) (present_of img)
  unfolding present_of platform_of
  mode-told m n e f g = go (first_broken (image_rules img)) e
    where
      go : (o : Option Rule) → on_some {B = Result PlatMode Rule} o Err (Ok (mode_of (values_of img))) ≡ Ok m
          → ◌≡◌ {A = Present}
          (record { answer = x; mode = n })
          (on_some o (λ rule. record { answer = numbers_of (answer_of (Refused rule)); mode = 0 })
          (record { answer = numbers_of (answer_of (Done 0)); mode = mode_number_def (mode_of (values_of img)) }))
      go none e = let is : mode_of (values_of img) ≡ m = cc in rw (is, f, g) refl
      go (some rule) e = let z : ◌≡◌ {A = ℕ} 0 1 = cc in absurd (omega arith)

  pub unready-told : (rule : Rule) → platform_of img ≡ Err rule → x ≡ numbers_of (answer_of (Refused rule))
      → ◌≡◌ {A = Present} (record { answer = x; mode = 0 }) (present_of img)
  unfolding present_of platform_of
  unready-told rule e f = go (first_broken (image_rules img)) e
    where
      go : (o : Option Rule) → on_some {B = Result PlatMode Rule} o Err (Ok (mode_of (values_of img))) ≡ Err rule
          → ◌≡◌ {A = Present}
          (record { answer = x; mode = 0 })
          (on_some o (λ rule. record { answer = numbers_of (answer_of (Refused rule)); mode = 0 })
          (record { answer = numbers_of (answer_of (Done 0)); mode = mode_number_def (mode_of (values_of img)) }))
      go none e = let z : ◌≡◌ {A = ℕ} 0 1 = cc in absurd (omega arith)
      go (some other) e = let is : other ≡ rule = cc in rw (is, f) refl
