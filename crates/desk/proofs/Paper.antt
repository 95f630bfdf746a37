-- What is printed of scripts: the paper's first value, further steps without a compaction, and scripts that are not of the form, all by computing.
-- Assumes nothing.
use Prim.Native.Nat.{ℕ, zero, suc}
use mathlib.Core.Path.{◌≡◌, refl}
use mathlib.Core.Bool.{true}
use mathlib.Core.List.{List, [], ◌∷◌, ◌++◌}
use lib.ListN.{replicate}
use Rattle.model.specs.Lists.{is_some}
use Rattle.model.proofs.Evaluated.{evaluated}
use Rattle.output.specs.Text.{ascii, digit, leading, decimal_of}
use Rattle.report.specs.Varlist.{field, refused_line}
use Rattle.desk.specs.Script.{item_step, delete_step, cut_step, kind_step, step_at, steps_at, counted_steps, script_of}
use Rattle.desk.specs.Season.{empty_image, no_limits_def, desk_setup, desk_session, desk_context, all_erases, played, played_whole, followed_by, then_started, cut_or_whole, step_played, word_of, step_line, line_of, step_lines, season_text}

-- all that a row's evaluation opens
unfoldable pub computed : Unit {0}
unfolding evaluated ascii digit leading decimal_of field refused_line item_step delete_step cut_step kind_step step_at steps_at counted_steps script_of empty_image no_limits_def desk_setup desk_session desk_context all_erases played played_whole followed_by then_started cut_or_whole step_played word_of step_line line_of step_lines season_text
computed = tt

-- ---- what the scripts are made of; every byte is written out here

abbrev guid : List ℕ
guid =
    0x01 ∷ 0x02 ∷ 0x03 ∷ 0x04 ∷ 0x05 ∷ 0x06 ∷ 0x07 ∷ 0x08 ∷ 0x09 ∷ 0x0A ∷ 0x0B ∷ 0x0C ∷ 0x0D ∷ 0x0E ∷ 0x0F ∷ 0x10 ∷ []

abbrev rate : List ℕ
rate = 0x52 ∷ 0x00 ∷ 0x41 ∷ 0x00 ∷ 0x54 ∷ 0x00 ∷ 0x45 ∷ 0x00 ∷ 0x00 ∷ 0x00 ∷ []

-- RATE with four bytes of data, and without
abbrev rate_item : ℕ → List ℕ
rate_item b = (0x07 ∷ 0x0A ∷ 0x04 ∷ []) ++ guid ++ rate ++ (b ∷ 0x00 ∷ 0x00 ∷ 0x00 ∷ [])

abbrev no_item : ℕ → List ℕ
no_item a = (a ∷ 0x0A ∷ 0x00 ∷ []) ++ guid ++ rate

-- ---- rows

-- "Document 01's first value gives `done 75 104 0`."
pub first-value : season_text ((0x01 ∷ 0x01 ∷ 0x00 ∷ []) ++ rate_item 0x64) ≡ ascii "done 75 104 0\n"
unfolding computed
first-value = refl

-- set, set to the same, to another one, deleted, deleted again
pub further-steps : season_text
    ((0x01 ∷ 0x05 ∷ [])
    ++ (0x00 ∷ rate_item 0x64)
    ++ (0x00 ∷ rate_item 0x64)
    ++ (0x00 ∷ rate_item 0x65)
    ++ (0x01 ∷ no_item 0x07)
    ++ (0x01 ∷ no_item 0x07))
    ≡ ascii "done 75 104 0\ndone 0 104 0\ndone 77 180 0\ndone 1 180 0\nrefused 11 0 180 0\n"
unfolding computed
further-steps = refl

-- a set of kind 0 with empty data deletes as well; a delete with other attributes than the stored ones breaks 7
pub deleted : season_text ((0x01 ∷ 0x03 ∷ []) ++ (0x00 ∷ rate_item 0x64) ++ (0x01 ∷ no_item 0x03) ++ (0x00 ∷ no_item 0x07)) ≡ ascii "done 75 104 0\nrefused 7 0 104 0\ndone 1 104 0\n"
unfolding computed
deleted = refl

-- cut after as many stores as there are: done, and the start-up after it has nothing to do; cut after 61 the header stands, and it counts as an entry
pub cut-steps : season_text ((0x01 ∷ 0x02 ∷ []) ++ (0x02 ∷ 0x4B ∷ rate_item 0x64) ++ (0x02 ∷ 0x3D ∷ rate_item 0x65)) ≡ ascii "done 75 104 0\nstopped 61 180 0\n"
unfolding computed
cut-steps = refl

-- no steps: nothing is printed
pub no_steps : season_text (0x07 ∷ 0x00 ∷ []) ≡ []
unfolding computed
no_steps = refl

abbrev refuses : List ℕ → Type 0
refuses s = season_text s ≡ ascii "refused 27\n"

-- nothing; no number of steps; b 0 and 8; a number in another form than the shortest
pub no-script : refuses [] × refuses (0x01 ∷ []) × refuses (0x00 ∷ 0x00 ∷ []) × refuses (0x08 ∷ 0x00 ∷ []) × refuses (0x01 ∷ 0x80 ∷ 0x00 ∷ [])
unfolding computed
no-script = (refl, refl, refl, refl, refl)

-- 501 steps, all of them there
abbrev repeated : ℕ → List ℕ → List ℕ
repeated zero s = []
repeated (suc n) s = s ++ repeated n s

abbrev deletes : List ℕ
deletes = repeated 501 (0x01 ∷ no_item 0x07)

pub too_many : refuses ((0x01 ∷ 0xF5 ∷ 0x03 ∷ []) ++ deletes) × (is_some (steps_at 501 deletes) ≡ true)
unfolding computed
too_many = (refl, refl)

-- a step is missing; bytes are left over; an unknown kind; a delete with data; other attributes; an item that is too short
pub no_step :
    refuses (0x01 ∷ 0x01 ∷ [])
    × refuses ((0x01 ∷ 0x01 ∷ 0x00 ∷ []) ++ rate_item 0x64 ++ (0x00 ∷ []))
    × refuses ((0x01 ∷ 0x01 ∷ 0x03 ∷ []) ++ rate_item 0x64)
    × refuses ((0x01 ∷ 0x01 ∷ 0x01 ∷ []) ++ rate_item 0x64)
    × refuses ((0x01 ∷ 0x01 ∷ 0x00 ∷ []) ++ no_item 0x27)
    × refuses ((0x01 ∷ 0x01 ∷ 0x00 ∷ 0x07 ∷ 0x0A ∷ 0x05 ∷ []) ++ guid ++ rate ++ (0x64 ∷ 0x00 ∷ 0x00 ∷ 0x00 ∷ []))
unfolding computed
no_step = (refl, refl, refl, refl, refl, refl)

-- 65,537 bytes, of the form but for that; with a byte less of data the script is played, and its step breaks 12
abbrev long : ℕ → ℕ → List ℕ
long size low = (0x01 ∷ 0x01 ∷ 0x00 ∷ 0x07 ∷ 0x04 ∷ low ∷ 0xFF ∷ 0x03 ∷ []) ++ guid ++ (0x41 ∷ 0x00 ∷ 0x00 ∷ 0x00 ∷ []) ++ replicate size 0x11

pub too_long : refuses (long 65509 0xE5) × (season_text (long 65508 0xE4) ≡ ascii "refused 12 0 28 0\n")
unfolding computed
too_long = (refl, refl)
