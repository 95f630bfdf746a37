-- A script as a whole: its numbers are read in turn, each within its limit, then its steps.
-- Assumes nothing.
use Prim.Native.Nat.{ℕ, ◌≤◌, ◌<◌}
use mathlib.Core.Path.{◌≡◌, refl, sym, ap, ◌∙◌}
use mathlib.Core.Bool.{false, cond, ◌&&◌, true≢false}
use mathlib.Core.List.{List, [], ◌∷◌}
use mathlib.Core.Option.{Option, none, some}
use Rattle.std.specs.Prelude as code
use lib.ListN.{length, drop}
use lib.Dec.{leb}
use borrow.Author.Tests.{le-leb, lt-leb}
use Rattle.model.specs.Lists.{is_some, on_some}
use Rattle.model.specs.Profile.{Number, number_at}
use Rattle.profile.specs.declared.Numeral.{Numeral}
use Rattle.profile.specs.Reader.{number_of}
use Rattle.desk.specs.Script.{Step, Script, steps_at, counted_steps, script_of}
use Rattle.desk.specs.Reader.{form_of}

abbrev of_steps : ℕ → Option (List Step) → Option Script
of_steps b o = on_some o (λ ts. some (record { blocks = b; steps = ts })) none

abbrev of-count : ℕ → Option Number → Option Script
of-count b o = on_some o (λ n. cond (leb n.value 500) (of_steps b (steps_at n.value n.rest)) none) none

abbrev of_blocks : Option Number → Option Script
of_blocks o = on_some o (λ b. cond (leb 1 b.value && leb b.value 7) (counted_steps b.value b.rest) none) none

pub too_long : (s : List ℕ) → 65536 < length s → form_of s code.None ≡ script_of s
unfolding form_of script_of
too_long s h = rw (lt-leb (length s) 65536 h)

drop-none : (s : List ℕ) → drop 0 s ≡ s
drop-none [] = refl
drop-none (x ∷ s) = refl

module _ (s : List ℕ) (short : length s ≤ 65536) (x : code.Option Numeral) (e : number_of s x ≡ number_at (drop 0 s)) where
  first : script_of s ≡ of_blocks (number_of s x)
  unfolding script_of
  first = rw (le-leb (length s) 65536 short) (ap of_blocks (sym (e ∙ ap number_at (drop-none s))))

  pub no_blocks : x ≡ code.None → form_of s code.None ≡ script_of s
  unfolding number_of form_of
  no_blocks f = sym (first ∙ ap (λ (r : code.Option Numeral). of_blocks (number_of s r)) f)

  module _ (b at : ℕ) (f : x ≡ code.Some (record { value = b; next = at })) where
    second : script_of s ≡ cond (leb 1 b && leb b 7) (counted_steps b (drop at s)) none
    unfolding number_of
    second = first ∙ ap (λ (r : code.Option Numeral). of_blocks (number_of s r)) f

    pub too_few : b < 1 → form_of s code.None ≡ script_of s
    unfolding form_of
    too_few h = sym (second ∙ rw (lt-leb 1 b h))

    pub too_large : 1 ≤ b → 7 < b → form_of s code.None ≡ script_of s
    unfolding form_of
    too_large l h = sym (second ∙ rw (le-leb 1 b l, lt-leb b 7 h))

    module _ (low : 1 ≤ b) (high : b ≤ 7) (y : code.Option Numeral) (g : number_of s y ≡ number_at (drop at s)) where
      third : script_of s ≡ of-count b (number_of s y)
      unfolding counted_steps
      third = second ∙ rw (le-leb 1 b low, le-leb b 7 high) (ap (of-count b) (sym g))

      pub no-count : y ≡ code.None → form_of s code.None ≡ script_of s
      unfolding number_of form_of
      no-count h = sym (third ∙ ap (λ (r : code.Option Numeral). of-count b (number_of s r)) h)

      module _ (n from : ℕ) (h : y ≡ code.Some (record { value = n; next = from })) where
        fourth : script_of s ≡ cond (leb n 500) (of_steps b (steps_at n (drop from s))) none
        unfolding number_of
        fourth = third ∙ ap (λ (r : code.Option Numeral). of-count b (number_of s r)) h

        pub too-many-steps : 500 < n → form_of s code.None ≡ script_of s
        unfolding form_of
        too-many-steps k = sym (fourth ∙ rw (lt-leb n 500 k))

        pub all_there : n ≤ 500 → form_of s (code.Some (record { blocks = b; count = n; from = from })) ≡ script_of s
        unfolding form_of
        all_there k = sym (fourth ∙ rw (le-leb n 500 k))

        pub not_there : n ≤ 500 → is_some (steps_at n (drop from s)) ≡ false → form_of s code.None ≡ script_of s
        unfolding form_of
        not_there k f = sym (sym (all_there k) ∙ go (steps_at n (drop from s)) f)
          where
            go : (o : Option (List Step)) → is_some o ≡ false → of_steps b o ≡ none
            go none f = refl
            go (some ts) f = absurd (true≢false f)
