-- Cases of 02 (h) as rows of a table of their own: stores that fail at a dead address, by evaluation. A row has a context, and the stores of its call are not told
-- again: they are those of 01's rows.
-- Assumes nothing.
use Prim.Native.Nat.{ℕ}
use mathlib.Core.Path.{◌≡◌, refl}
use mathlib.Core.List.{List, [], ◌∷◌, ◌++◌}
use lib.ListN.{replicate}
use Rattle.model.specs.declared.Context.{Context}
use Rattle.model.specs.Set.{Plan}
use Rattle.model.specs.StartUp.{format_plan}
use Rattle.model.specs.Answers.{Outcome, done, stopped, refused, outcome, image_after}
use Rattle.model.specs.Book.{Call, plan_of}
use Rattle.table.proofs.Row.{computed, unlimited, ff, header, image, empty, rate, four, start_id, rate_header, rate_entry, setting, rate_stands}

-- an image, what is planned on it, n and dead addresses; the answer, and the whole image after it
pub record Row : Type 0 where
  pub image : List ℕ
  pub plan : Plan
  pub limit : ℕ
  pub dead : List ℕ
  pub count : ℕ
  pub answer : Outcome
  pub left : List ℕ

abbrev context_of : Row → Context
context_of row = record { limit = row.limit; count = row.count; dead = row.dead; width = 1; side = 0 }

pub record Holds (row : Row) : Type 0 where
  pub answer : outcome (context_of row) row.plan row.image ≡ row.answer
  pub left : image_after (context_of row) row.plan row.image ≡ row.left

-- every row of a table holds
infixr 5 ◌and◌
pub data HoldAll : List Row → Type 0 where
  end : HoldAll []
  ◌and◌ : {row : Row} {rows : List Row} → Holds row → HoldAll rows → HoldAll (row ∷ rows)

-- a call on an image, with n and one dead address
abbrev with-dead : List ℕ → Call → ℕ → ℕ → Outcome → List ℕ → Row
with-dead img call limit at answer left =
    record { image = img; plan = plan_of call img; limit = limit; dead = at ∷ replicate 15 0; count = 1; answer = answer; left = left }

-- RATE, new or replaced by other data
abbrev set_rate : ℕ → Call
set_rate b = setting rate 0x07 (four b)

-- ---- RATE is new, and its state at 30 is dead: the 59 other bytes of the header are stored, and 7F is store 59, counted from 0, and fails

abbrev headed : List ℕ
headed = image (header ++ start_id ++ ff 1 ++ rate_header ++ ff 4008)

abbrev state_dead : Row
state_dead = with-dead empty (set_rate 0x64) unlimited 30 (refused 23) headed

state_dead-holds : Holds state_dead
unfolding computed
state_dead-holds = record { answer = refl; left = refl }

-- "A stop before it comes first": n = 59 is stopped, n = 60 fails
abbrev stopped_before : Row
stopped_before = with-dead empty (set_rate 0x64) 59 30 stopped headed

stopped_before-holds : Holds stopped_before
unfolding computed
stopped_before-holds = record { answer = refl; left = refl }

abbrev failed_at : Row
failed_at = with-dead empty (set_rate 0x64) 60 30 (refused 23) headed

failed_at-holds : Holds failed_at
unfolding computed
failed_at-holds = record { answer = refl; left = refl }

-- ---- "the earlier ones remaining": RATE is replaced, and the byte where its entry begins is dead: the old one is 3E

abbrev tail_dead : Row
tail_dead = with-dead rate_stands (set_rate 0x65) unlimited 104 (refused 23) (image (header ++ rate_entry 0x3E 0x64 ++ ff 3992))

tail_dead-holds : Holds tail_dead
unfolding computed
tail_dead-holds = record { answer = refl; left = refl }

-- ---- a delete marks a leftover first: where the leftover's state is dead nothing is stored

abbrev beside : List ℕ
beside = image (header ++ rate_entry 0x3E 0x64 ++ rate_entry 0x3F 0x65 ++ ff 3916)

abbrev leftover_dead : Row
leftover_dead = with-dead beside (setting rate 0x00 []) unlimited 30 (refused 23) beside

leftover_dead-holds : Holds leftover_dead
unfolding computed
leftover_dead-holds = record { answer = refl; left = refl }

-- ---- "where a bit would have to fall": data of FF are stored over FF, at dead addresses too

abbrev nothing_falls : Row
nothing_falls = record {
  image = empty;
  plan = plan_of (setting rate 0x07 (ff 4)) empty;
  limit = unlimited;
  dead = (98 ∷ 99 ∷ 100 ∷ 101 ∷ []) ++ replicate 12 0;
  count = 4;
  answer = done 75;
  left = image (header ++ start_id ++ (0x3F ∷ []) ++ rate_header ++ rate ++ ff 3998);
}

nothing_falls-holds : Holds nothing_falls
unfolding computed
nothing_falls-holds = record { answer = refl; left = refl }

-- ---- "up to 16 dead addresses (more are ignored)": the sixteenth counts, repeated ones and ones outside use up places, the seventeenth does not

abbrev among-sixteen : ℕ → List ℕ → Outcome → List ℕ → Row
among-sixteen count dead answer left =
    record { image = empty; plan = plan_of (set_rate 0x64) empty; limit = unlimited; dead = dead; count = count; answer = answer; left = left }

abbrev sixteenth : Row
sixteenth = among-sixteen 17 (replicate 15 99999 ++ (30 ∷ [])) (refused 23) headed

sixteenth-holds : Holds sixteenth
unfolding computed
sixteenth-holds = record { answer = refl; left = refl }

abbrev seventeenth : Row
seventeenth = among-sixteen 17 (replicate 16 99999 ++ (30 ∷ [])) (done 75) rate_stands

seventeenth-holds : Holds seventeenth
unfolding computed
seventeenth-holds = record { answer = refl; left = refl }

abbrev not_given : Row
not_given = among-sixteen 15 (replicate 15 99999 ++ (30 ∷ [])) (done 75) rate_stands

not_given-holds : Holds not_given
unfolding computed
not_given-holds = record { answer = refl; left = refl }

-- ---- a format: its erases do not fail, at dead addresses with bits that they raise; the header's first byte does, behind three of them

abbrev formatted : Row
formatted = record {
  image = replicate 12288 0x00;
  plan = format_plan (replicate 12288 0x00);
  limit = unlimited;
  dead = (0 ∷ 4096 ∷ []) ++ replicate 14 0;
  count = 2;
  answer = refused 23;
  left = ff 12288;
}

formatted-holds : Holds formatted
unfolding computed
formatted-holds = record { answer = refl; left = refl }

-- ---- the table

pub table : List Row
table =
    state_dead
    ∷ stopped_before
    ∷ failed_at
    ∷ tail_dead
    ∷ leftover_dead
    ∷ nothing_falls
    ∷ sixteenth
    ∷ seventeenth
    ∷ not_given
    ∷ formatted
    ∷ []

pub worn : HoldAll table
unfolding table
worn =
    state_dead-holds
    and stopped_before-holds
    and failed_at-holds
    and tail_dead-holds
    and leftover_dead-holds
    and nothing_falls-holds
    and sixteenth-holds
    and seventeenth-holds
    and not_given-holds
    and formatted-holds
    and end
