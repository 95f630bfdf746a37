-- 02 (e), "Settings that must make sense": the rules for settings that stand in a session, and when data meet one. Whether a set breaks one is rule 21.
use Rattle.std.specs.Prelude.{ℕ, ◌+◌, ◌*◌, min, Bool, cond, ◌&&◌, List, [], ◌∷◌, map, length, take, leb}
use Rattle.model.specs.declared.Setup.{Setup}
use Rattle.model.specs.Lists.{part, range, keep, among, u32_at, numbers_at}
use Rattle.model.specs.Name.{Key, keyed, same_key_def}
use Rattle.model.specs.Session.{is_yes, name_space}

-- a rule: "for a variable, by name and GUID, a smallest and largest size, read-only or not, and at a byte offset a field of 1, 2 or 4 bytes that must be in a list of up
-- to eight numbers or between two numbers"; of the name's bytes the first `size` are the name, of the numbers the first `count` are in use, and 0 is no, anything else yes
pub record Limit : Type 0 where
  pub size : ℕ
  pub least : ℕ
  pub most : ℕ
  pub fixed : ℕ
  pub at : ℕ
  pub width : ℕ
  pub ranged : ℕ
  pub low : ℕ
  pub high : ℕ
  pub count : ℕ
  pub numbers : List ℕ
  pub name : List ℕ
  pub vendor : List ℕ

-- by its bytes, and the one at a place of a table: 216 bytes, numbers of four, then 128 bytes for the name and the GUID
abbrev pub limit_size : ℕ
limit_size = 216

unfoldable pub limit_of : List ℕ → Limit
limit_of s = record {
  size = u32_at s 0;
  least = u32_at s 4;
  most = u32_at s 8;
  fixed = u32_at s 12;
  at = u32_at s 16;
  width = u32_at s 20;
  ranged = u32_at s 24;
  low = u32_at s 28;
  high = u32_at s 32;
  count = u32_at s 36;
  numbers = numbers_at s 40 8;
  name = part 72 name_space s;
  vendor = part 200 16 s;
}

abbrev pub limit_at : List ℕ → ℕ → Limit
limit_at table i = limit_of (part (limit_size * i) limit_size table)

-- "for a variable, by name and GUID": the name is as long as its size says
abbrev pub limit_key : Limit → Key
limit_key t = keyed (take t.size t.name) t.vendor

-- a rule whose name is not well formed is for no variable: so one that would be longer than the 128 bytes for it; any other is not that of a call, which met rule 3
abbrev pub is_for_def : Limit → Key → Bool
is_for_def t k = leb t.size name_space && same_key_def (limit_key t) k

-- "Up to 32 such rules (more are ignored ..) stand in the session": those in use, and of them those for a name
abbrev pub limit_space : ℕ
limit_space = 32

unfoldable pub limits_in : List ℕ → ℕ → Key → List Limit
limits_in table rules k = keep (λ t. is_for_def t k) (map (limit_at table) (range 0 (min rules limit_space)))

abbrev pub limits_for : Setup → Key → List Limit
limits_for u k = limits_in u.limits u.rules k

-- a field's number: multi-byte fields are little-endian
unfoldable pub little : List ℕ → ℕ
little [] = 0
little (b ∷ s) = b + 256 * little s

-- "a list of up to eight numbers", "numbers past eight" "are ignored"
unfoldable pub listed : List ℕ → ℕ → ℕ → Bool
listed numbers count n = among (take (min count 8) numbers) n

-- a number "must be in a list of up to eight numbers or between two numbers, ends included"
unfoldable pub allowed : Limit → ℕ → Bool
allowed t n = cond (is_yes t.ranged) (leb t.low n && leb n t.high) (listed t.numbers t.count n)

-- "a field of 1, 2 or 4 bytes"
abbrev pub widths : List ℕ
widths = 1 ∷ 2 ∷ 4 ∷ []

-- data meet a rule: "a smallest and largest size", and "at a byte offset a field"; "A field of another width, or one not wholly inside the data, breaks its rule."
unfoldable pub meets : Limit → List ℕ → Bool
meets t bytes =
    leb t.least (length bytes)
    && leb (length bytes) t.most
    && among widths t.width
    && leb (t.at + t.width) (length bytes)
    && allowed t (little (part t.at t.width bytes))
