-- 02 (m), the form of a script: "It holds b (1 to 7), the number of steps, up to 500, then each step: its kind (0 set, 1 delete, 2 a set cut after n whole stores and
-- followed by a start-up), for kind 2 the n, and the fields of one profile item, its data empty for kind 1."; "numbers written as in profiles".
use Rattle.std.specs.Prelude.{ℕ, zero, suc, cond, ◌&&◌, List, [], ◌∷◌, length, eqb, leb}
use Rattle.std.proofs.Math.Option.{Option, none, some}
use Rattle.model.specs.Lists.{is_empty, on_some}
use Rattle.model.specs.Request.{Request}
use Rattle.model.specs.Profile.{number_at, item_at}

-- a step: the set of its item, which deletes where the data are empty; for kind 2 the n
pub record Step : Type 0 where
  pub asked : Request
  pub cut_after_def : Option ℕ

-- a step, and the bytes behind it
pub record Stepped : Type 0 where
  pub one : Step
  pub rest : List ℕ

-- "the fields of one profile item"
unfoldable pub item_step : Option ℕ → List ℕ → Option Stepped
item_step n s = on_some (item_at s) (λ i. some (record { one = record { asked = i.asked; cut_after_def = n }; rest = i.rest })) none

-- "its data empty for kind 1"
unfoldable pub delete_step : List ℕ → Option Stepped
delete_step s = on_some (item_step none s) (λ t. cond (is_empty t.one.asked.bytes) (some t) none) none

-- "for kind 2 the n"
unfoldable pub cut_step : List ℕ → Option Stepped
cut_step s = on_some (number_at s) (λ n. item_step (some n.value) n.rest) none

-- "its kind (0 set, 1 delete, 2 a set cut ..)", and no other
unfoldable pub kind_step : ℕ → List ℕ → Option Stepped
kind_step k s = cond (eqb k 0) (item_step none s) (cond (eqb k 1) (delete_step s) (cond (eqb k 2) (cut_step s) none))

unfoldable pub step_at : List ℕ → Option Stepped
step_at s = on_some (number_at s) (λ k. kind_step k.value k.rest) none

-- so many steps, and no bytes left over
unfoldable pub steps_at : ℕ → List ℕ → Option (List Step)
steps_at zero s = cond (is_empty s) (some []) none
steps_at (suc n) s = on_some (step_at s) (λ t. on_some (steps_at n t.rest) (λ ts. some (t.one ∷ ts)) none) none

-- "a script of at most 65,536 bytes"
abbrev pub script_space : ℕ
script_space = 65536

-- "the number of steps, up to 500"
abbrev pub step_space : ℕ
step_space = 500

pub record Script : Type 0 where
  pub blocks : ℕ
  pub steps : List Step

-- "the number of steps, .. then each step", for a b that was read
unfoldable pub counted_steps : ℕ → List ℕ → Option Script
counted_steps b s =
    on_some
    (number_at s)
    (λ n. cond (leb n.value step_space) (on_some (steps_at n.value n.rest) (λ ts. some (record { blocks = b; steps = ts })) none) none)
    none

-- none: "the script is not of this form, passes a limit or leaves bytes over"
unfoldable pub script_of : List ℕ → Option Script
script_of s =
    cond
    (leb (length s) script_space)
    (on_some (number_at s) (λ b. cond (leb 1 b.value && leb b.value 7) (counted_steps b.value b.rest) none) none)
    none
