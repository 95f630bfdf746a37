-- 02 (m), "A season tried on the desk": what is played of a script, and what is printed of it.
use Rattle.std.specs.Prelude.{ℕ, suc, ◌+◌, ◌*◌, ◌-◌, false, List, [], ◌∷◌, ◌++◌, length, take, replicate}
use Rattle.std.proofs.Math.Option.{Option, none, some}
use Rattle.model.specs.declared.Tenant.{Tenant}
use Rattle.model.specs.declared.Setup.{Setup}
use Rattle.model.specs.declared.Session.{Session}
use Rattle.model.specs.declared.Context.{Context}
use Rattle.model.specs.declared.Rule.TheVariants as rule
use Rattle.model.specs.Lists.{on_some}
use Rattle.model.specs.Image.{block, region_header_size, region_header_def, region}
use Rattle.model.specs.Region.{tail_at}
use Rattle.model.specs.Session.{fresh_session}
use Rattle.model.specs.Stores.{Store, page, erase}
use Rattle.model.specs.Set.{Plan}
use Rattle.model.specs.StartUp.{start_up_plan}
use Rattle.model.specs.Answers.{rule_number, Outcome, done, stopped, refused, stores_of, made_of, outcome, image_after}
use Rattle.model.specs.Book.{set_plan}
use Rattle.output.specs.Text.{ascii}
use Rattle.report.specs.Varlist.{field, refused_line}
use Rattle.desk.specs.Script.{Step, script_of}

-- ---- what a script is "run against"

-- "an empty image": as formatting leaves one of b blocks
unfoldable pub empty_image : ℕ → List ℕ
empty_image b = region_header_def (block * b) ++ replicate (block * (2 * b + 1) - region_header_size) 0xFF

-- "our share L less 28, the rest of the session 0": no custom mode, no reserve, no bytes for error records, a modem with no bytes and a GUID of zeros, under which no name
-- is ours, no rules for settings, zeros in their table
abbrev pub no_tenant_def : Tenant
no_tenant_def = record { share = 0; reserve = 0; vendor = replicate 16 0 }

unfoldable pub no_limits_def : List ℕ
no_limits_def = replicate 6912 0

unfoldable pub desk_setup : ℕ → Setup
desk_setup b = record {
  custom = 0;
  reserve = 0;
  records = 0;
  share = block * b - region_header_size;
  modem = no_tenant_def;
  rules = 0;
  limits = no_limits_def;
}

-- phase 0 and no locks
unfoldable pub desk_session : ℕ → Session
desk_session b = fresh_session (desk_setup b)

-- "w 1"; every call has its n, no dead bytes, and is ours
unfoldable pub desk_context : ℕ → Context
desk_context n = record { limit = n; count = 0; dead = replicate 16 0; width = 1; side = 0 }

-- ---- what a call does

-- the blocks that a list of stores erases
unfoldable pub all_erases : List Store → ℕ
all_erases [] = 0
all_erases (page at bs ∷ ss) = all_erases ss
all_erases (erase b ∷ ss) = suc (all_erases ss)

-- its answer, the image that it leaves, its stores, and the erases among these
pub record Played : Type 0 where
  pub answer : Outcome
  pub image : List ℕ
  pub stores : ℕ
  pub erases : ℕ

-- with n: "its erases equal those of the listed stores, up to each cut"
unfoldable pub played : ℕ → Plan → List ℕ → Played
played n plan img = record {
  answer = outcome (desk_context n) plan img;
  image = image_after (desk_context n) plan img;
  stores = made_of (desk_context n) plan img;
  erases = all_erases (take (made_of (desk_context n) plan img) (stores_of 1 plan));
}

-- a call that is not cut: n is not below the number of its stores
unfoldable pub played_whole : Plan → List ℕ → Played
played_whole plan img = played (length (stores_of 1 plan)) plan img

-- ---- what a step does

-- "the step's stores, a start-up's among them": a call and the one behind it, by the answer of the first
unfoldable pub followed_by : Played → Played → Played
followed_by p q = record { answer = p.answer; image = q.image; stores = p.stores + q.stores; erases = p.erases + q.erases }

-- "followed by a start-up", whatever the answer; it is given what the session has, and is not cut
unfoldable pub then_started : ℕ → Played → Played
then_started b p = followed_by p (played_whole (start_up_plan (desk_setup b) p.image) p.image)

-- "0 set, 1 delete, 2 a set cut after n whole stores and followed by a start-up"
unfoldable pub cut_or_whole : ℕ → Option ℕ → Plan → List ℕ → Played
cut_or_whole b none plan img = played_whole plan img
cut_or_whole b (some n) plan img = then_started b (played n plan img)

unfoldable pub step_played : ℕ → Step → List ℕ → Played
step_played b t img = cut_or_whole b t.cut_after_def (set_plan false (desk_session b) t.asked img) img

-- ---- what is printed

-- "`done`, `stopped` or `refused` and its number"
unfoldable pub word_of : Outcome → List ℕ
word_of (done stores) = ascii "done"
word_of stopped = ascii "stopped"
word_of (refused rule) = field (ascii "refused ") rule

-- "then in decimal the step's stores, .. tail offset, and erases so far"
unfoldable pub step_line : Outcome → ℕ → ℕ → ℕ → List ℕ
step_line o stores tail erases =
    word_of o ++ field (ascii " ") stores ++ field (ascii " ") tail ++ field (ascii " ") erases ++ ascii "\n"

-- of what a step did, behind so many erases
unfoldable pub line_of : ℕ → Played → List ℕ
line_of before p = step_line p.answer p.stores (tail_at (region p.image)) (before + p.erases)

-- "For every step it prints a line", each step on the image that the last one left, its erases added to those before it
unfoldable pub step_lines : ℕ → List Step → List ℕ → ℕ → List ℕ
step_lines b [] img before = []
step_lines b (t ∷ ts) img before =
    line_of before (step_played b t img)
    ++ step_lines b ts (step_played b t img).image (before + (step_played b t img).erases)

-- *what is printed of a script*: its steps from an empty image and "from 0" erases on; "27 when the script is not of this form, passes a limit or leaves bytes over,
-- before the first step; then only `refused 27` is printed"
unfoldable pub season_text : List ℕ → List ℕ
season_text s =
    on_some
    (script_of s)
    (λ p. step_lines p.blocks p.steps (empty_image p.blocks) 0)
    (refused_line (rule_number rule.Script))
