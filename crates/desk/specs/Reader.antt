-- What the reader of a script gives, at places of the script.
use Rattle.std.specs.Prelude.{ℕ, ◌≤◌, ◌≡◌, true, List, drop, Option, Some, None}
use Rattle.std.proofs.Math.Option as math
use Rattle.model.specs.Lists.{is_some, on_some}
use Rattle.profile.specs.Reader.{request_in, Within}
use Rattle.desk.specs.declared.Asked.{Asked}
use Rattle.desk.specs.declared.Form.{Form}
use Rattle.desk.specs.Script.{Step, Stepped, Script, steps_at}

-- the n of a step that is cut
abbrev pub cut_at : Option ℕ → math.Option ℕ
cut_at (Some n) = math.some n
cut_at None = math.none

-- what a step asks for, by places
abbrev pub step_in : List ℕ → Asked → Step
step_in s a = record { asked = request_in s a.item; cut_after_def = cut_at a.limit }

-- a step that was read, and the bytes behind it
unfoldable pub step_of : List ℕ → Option (Asked × ℕ) → math.Option Stepped
step_of s (Some t) = math.some (record { one = step_in s t.0; rest = drop t.1 s })
step_of s None = math.none

-- it ends within so many bytes
abbrev pub Stops : ℕ → Option (Asked × ℕ) → Type 0
Stops size (Some t) = (t.1 ≤ size) × Within size t.0.item
Stops size None = Unit {0}

-- a script that was read
unfoldable pub form_of : List ℕ → Option Form → math.Option Script
form_of s (Some f) =
    on_some (steps_at f.count (drop f.from s)) (λ ts. math.some (record { blocks = f.blocks; steps = ts })) math.none
form_of s None = math.none

-- it keeps to its limits, and its steps are there
abbrev pub Holds : List ℕ → Option Form → Type 0
Holds s (Some f) = (1 ≤ f.blocks) × (f.blocks ≤ 7) × (f.count ≤ 500) × (is_some (steps_at f.count (drop f.from s)) ≡ true)
Holds s None = Unit {0}
