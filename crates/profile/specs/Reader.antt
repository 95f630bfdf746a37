-- What the reader of a profile gives, at places of the file.
use Rattle.std.specs.Prelude.{ℕ, ◌+◌, ◌≤◌, ◌<◌, ◌≡◌, List, map, length, take, drop, get_or, Option, Some, None}
use Rattle.std.proofs.Math.Option as math
use Rattle.model.specs.Lists.{part}
use Rattle.model.specs.Request.{Request}
use Rattle.model.specs.Profile.{Number, Item, profile_of}
use Rattle.profile.specs.declared.Numeral.{Numeral}
use Rattle.profile.specs.declared.Setting.{Setting}
use Rattle.profile.specs.declared.Settings.{Settings}

-- a number that was read at a place of a file: its value, and the bytes after it
unfoldable pub number_of : List ℕ → Option Numeral → math.Option Number
number_of s (Some n) = math.some (record { value = n.value; rest = drop n.next s })
number_of s None = math.none

-- it is below a number, and ends within so many bytes
abbrev pub Below : ℕ → ℕ → Option Numeral → Type 0
Below most size (Some n) = (n.value < most) × (n.next ≤ size)
Below most size None = Unit {0}

-- the set that an item asks for
unfoldable pub request_in : List ℕ → Setting → Request
request_in file t = record {
  name = part (t.at + 16) t.name file;
  vendor = part t.at 16 file;
  attributes = t.attributes;
  bytes = part (t.at + 16 + t.name) t.size file;
  presence = 0;
  verdict = 0;
}

-- an item ends within the file
abbrev pub Within : ℕ → Setting → Type 0
Within size t = t.at + 16 + t.name + t.size ≤ size

-- an item that was read, and the bytes after it
unfoldable pub item_of : List ℕ → Option (Setting × ℕ) → math.Option Item
item_of s (Some t) = math.some (record { asked = request_in s t.0; rest = drop t.1 s })
item_of s None = math.none

-- it ends within so many bytes
abbrev pub Ends : ℕ → Option (Setting × ℕ) → Type 0
Ends size (Some t) = (t.1 ≤ size) × Within size t.0
Ends size None = Unit {0}

-- those of all items, in file order
unfoldable pub requests_in : List ℕ → Settings → List Request
requests_in file p = map (request_in file) (take p.count p.list)

abbrev pub no_setting : Setting
no_setting = record { attributes = 0; at = 0; name = 0; size = 0 }

-- these items are what is asked, and every one ends within the file. Open is what the places after the last item hold, and which of several places with the same bytes
-- is given
pub record AreItems (asked : math.Option (List Request)) (file : List ℕ) (p : Settings) : Type 0 where
  pub same : math.some (requests_in file p) ≡ asked
  pub few : p.count ≤ 8
  pub within : (i : ℕ) → i < p.count → Within (length file) (get_or p.list i no_setting)

-- what was read of a file is what is asked
abbrev pub ReadsAs : math.Option (List Request) → List ℕ → Option Settings → Type 0
ReadsAs asked file (Some p) = AreItems asked file p
ReadsAs asked file None = math.none ≡ asked

-- what was read of a file is what its definition says
abbrev pub Reads : List ℕ → Option Settings → Type 0
Reads file o = ReadsAs (profile_of file) file o
