-- What `varlist` prints of the paper's first case, of the empty store that it begins with, and of two refused images, and what is printed of the first case in
-- the plain form: all by computing.
-- Assumes nothing.
use Prim.Native.Nat.{ℕ, ◌*◌, ◌-◌}
use mathlib.Core.Path.{◌≡◌, refl}
use mathlib.Core.Bool.{false}
use mathlib.Core.List.{List, [], ◌∷◌, ◌++◌}
use lib.ListN.{replicate}
use Rattle.model.specs.declared.Setup.{Setup}
use Rattle.model.specs.Layout.{plain}
use Rattle.model.specs.Image.{region_header_def, region_header_in}
use Rattle.model.specs.Session.{fresh_session}
use Rattle.model.specs.Request.{Request}
use Rattle.model.specs.Stores.{after}
use Rattle.model.specs.Answers.{stores_of}
use Rattle.model.specs.Book.{set_plan}
use Rattle.model.proofs.Evaluated.{evaluated}
use Rattle.output.specs.Text.{ascii, digit, hex_of, leading, decimal_of}
use Rattle.report.specs.Varlist.{field, summary_line, key_text, entry_line, value_line, value_lines, refused_line, store_text, varlist_text, list_text}

-- the definitions, and texts over them, opened at once
unfoldable pub computed : Unit {0}
unfolding evaluated ascii digit hex_of leading decimal_of field summary_line key_text entry_line value_line value_lines refused_line store_text list_text
computed = tt

-- an empty store, b = 1
unfoldable pub empty_store : List ℕ
empty_store = region_header_def 4096 ++ replicate (3 * 4096 - 28) 0xFF

-- "Name RATE (10 bytes), GUID 01 02 up to 10, attributes 0x07, data 64 00 00 00, b = 1."
unfoldable pub set_rate : Request
set_rate = record {
  name = 0x52 ∷ 0 ∷ 0x41 ∷ 0 ∷ 0x54 ∷ 0 ∷ 0x45 ∷ 0 ∷ 0 ∷ 0 ∷ [];
  vendor = 1 ∷ 2 ∷ 3 ∷ 4 ∷ 5 ∷ 6 ∷ 7 ∷ 8 ∷ 9 ∷ 0x0A ∷ 0x0B ∷ 0x0C ∷ 0x0D ∷ 0x0E ∷ 0x0F ∷ 0x10 ∷ [];
  attributes = 0x07;
  bytes = 0x64 ∷ 0 ∷ 0 ∷ 0 ∷ [];
  presence = 0;
  verdict = 0;
}

-- 02 (f): "In 01's cases our share is L less 28, the rest 0."
unfoldable pub old_setup : Setup
old_setup = record {
  custom = 0;
  reserve = 0;
  records = 0;
  share = 4096 - 28;
  modem = record { share = 0; reserve = 0; vendor = replicate 16 0 };
  rules = 0;
  limits = [];
}

-- the store after it: "75 stores; entry 28 to 104 with padding"
unfoldable pub rate_store : List ℕ
rate_store = after 75 (stores_of 1 (set_plan false (fresh_session old_setup) set_rate empty_store)) empty_store

empty-text : varlist_text empty_store ≡ ascii "region 4096 used 28 live 0\n"
unfolding computed empty_store
empty-text = refl

rate-text : varlist_text rate_store ≡ ascii "region 4096 used 104 live 1\n0102030405060708090A0B0C0D0E0F10 52004100540045000000 07 4\n"
unfolding computed empty_store set_rate old_setup rate_store
rate-text = refl

none-text : varlist_text [] ≡ ascii "refused 1\n"
unfolding computed
none-text = refl

-- no region header
blank-text : varlist_text (replicate (3 * 4096) 0xFF) ≡ ascii "refused 2\n"
unfolding computed
blank-text = refl

-- ---- the plain form

-- the same value there: its entry has 28 bytes less, 28 to 76 with padding
unfoldable pub plain_store : List ℕ
plain_store =
    region_header_in plain 4096
    ++ (0xAA ∷ 0x55 ∷ 0x3F ∷ 0 ∷ 0x07 ∷ 0 ∷ 0 ∷ 0 ∷ 0x0A ∷ 0 ∷ 0 ∷ 0 ∷ 0x04 ∷ 0 ∷ 0 ∷ 0 ∷ [])
    ++ set_rate.vendor
    ++ set_rate.name
    ++ set_rate.bytes
    ++ replicate (3 * 4096 - 74) 0xFF

plain-text : list_text plain plain_store ≡ ascii "region 4096 used 76 live 1\n0102030405060708090A0B0C0D0E0F10 52004100540045000000 07 4\n"
unfolding computed set_rate plain_store
plain-text = refl

-- `varlist` refuses it
plain-refused : varlist_text plain_store ≡ ascii "refused 2\n"
unfolding computed set_rate plain_store
plain-refused = refl

-- and `plainlist` a store of the authenticated form
authenticated-refused : list_text plain empty_store ≡ ascii "refused 2\n"
unfolding computed empty_store
authenticated-refused = refl
