-- Which entry a get and a next-name answer with: that of the value which the rules name, by tests on the entries themselves.
use Rattle.std.specs.Prelude.{ℕ, Bool, not, cond, ◌&&◌, ◌||◌, List, [], ◌∷◌, Option, Some, None}
use Rattle.std.specs.Option.{option_or}
use Rattle.std.proofs.Math.Option.{Option as Maybe, none, some}
use Rattle.model.specs.Lists.{same, keep, first, head}
use Rattle.model.specs.Name.{Key, same_key_def, empty_name}
use Rattle.model.specs.Walk.{Entry, entry_key}
use Rattle.model.specs.Region.{is_value}
use Rattle.model.specs.Request.{runtime_access_def}
use Rattle.model.specs.Sides.{owns}
use Rattle.region.specs.Walk.{entry_at}
use Rattle.region.specs.declared.Met.{Met}
use Rattle.region.specs.declared.Placed.{Placed}

-- the entry of a region that was found by its offset and numbers
abbrev pub entry_in : List ℕ → Option Placed → Maybe Entry
entry_in r (Some p) = some (entry_at r p.at p.entry)
entry_in r None = none

-- "at runtime, values without RT are absent to get and next-name": of attributes, and of an entry beside all entries
abbrev pub visible : Bool → ℕ → Bool
visible runtime attributes = not runtime || runtime_access_def attributes

unfoldable pub is_seen_def : Bool → List Entry → Entry → Bool
is_seen_def runtime es e = is_value es e && visible runtime e.header.attributes

-- an entry is a value that is seen, of this name and GUID
unfoldable pub is_sought_def : Bool → Key → List Entry → Entry → Bool
is_sought_def runtime k es e = same_key_def (entry_key e) k && is_seen_def runtime es e

-- the entry of the value to get
unfoldable pub entry_to_get : Bool → Key → List Entry → Maybe Entry
entry_to_get runtime k es = first (λ e. same_key_def (entry_key e) k) (keep (is_seen_def runtime es) es)

-- the entry that comes after another's name in a list; none where that name is absent or the last
unfoldable pub entry_following : Key → List Entry → Maybe Entry
entry_following k [] = none
entry_following k (e ∷ es) = cond (same_key_def (entry_key e) k) (head es) (entry_following k es)

-- the one to go on with: the first of a list, or the first behind a name
abbrev pub going_on : Bool → Key → List Entry → Maybe Entry
going_on passed k es = cond passed (head es) (entry_following k es)

-- "Next-name shows a side only its own values": an entry is a value that is seen, and the side's own; and it is of this name and GUID besides
unfoldable pub is_shown_def : List ℕ → Bool → Bool → List Entry → Entry → Bool
is_shown_def guid modem runtime es e = is_seen_def runtime es e && owns guid modem (entry_key e)

unfoldable pub is_passed_def : List ℕ → Bool → Bool → Key → List Entry → Entry → Bool
is_passed_def guid modem runtime k es e = same_key_def (entry_key e) k && is_shown_def guid modem runtime es e

-- the entry of the next value: the first after the empty name, whatever the GUID
unfoldable pub entry_to_name : List ℕ → Bool → Bool → Key → List Entry → Maybe Entry
entry_to_name guid modem runtime k es = going_on (same k.name empty_name) k (keep (is_shown_def guid modem runtime es) es)

-- "A name's value is its 3F entry, else its 3E entry": the offset of the one that holds it, by where the name is met
abbrev pub standing_at : Met → Option ℕ
standing_at m = option_or m.added m.replacing
