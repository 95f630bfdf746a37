-- 02 (f), "A second tenant in the same region": whose a name is, what a side sees, what its values take of its share, and how many names it has locked.
use Rattle.std.specs.Prelude.{ℕ, ◌+◌, Bool, true, false, not, cond, ◌&&◌, List, length, leb}
use Rattle.model.specs.declared.Setup.{Setup}
use Rattle.model.specs.declared.Session.{Session}
use Rattle.model.specs.Lists.{same, keep, range}
use Rattle.model.specs.Image.{region_header_size}
use Rattle.model.specs.Name.{Key, same_key_def, well_named, record_name}
use Rattle.model.specs.Entry.{Value, key_of}
use Rattle.model.specs.Session.{counted_locks, lock_at}
use Rattle.model.specs.Request.{is_key_name_def, key_mode}
use Rattle.model.specs.Change.{record_sizes, other_sizes}

-- "All names under one vendor GUID, named in the session, are the modem's; the rest are ours, key names and error records always included.": by that GUID;
-- 02 (j), "PlatMode is ours, like the key names."
unfoldable pub modem_name : List ℕ → Key → Bool
modem_name guid k = same k.vendor guid && not (is_key_name_def k) && not (same_key_def k key_mode) && not (record_name k)

-- a name is a side's own
unfoldable pub owns : List ℕ → Bool → Key → Bool
owns guid modem k = cond modem (modem_name guid k) (not (modem_name guid k))

-- what a side sees of the values: "only its own", in their order
unfoldable pub view : List ℕ → Bool → List Value → List Value
view guid modem vs = keep (λ v. owns guid modem (key_of v)) vs

-- "a side's sum without error records"
unfoldable pub side_sizes : List ℕ → Bool → List Value → ℕ
side_sizes guid modem vs = other_sizes (view guid modem vs)

-- "both shares and H and the 28 header bytes fit in L"
unfoldable pub shares_fit : Setup → ℕ → Bool
shares_fit u size = leb (region_header_size + u.share + u.modem.share + u.records) size

-- and values keep to them: neither "a side above its share" nor "the error records above H"
unfoldable pub allotted : Setup → ℕ → List Value → Bool
allotted u size vs =
    shares_fit u size
    && leb (side_sizes u.modem.vendor false vs) u.share
    && leb (side_sizes u.modem.vendor true vs) u.modem.share
    && leb (record_sizes vs) u.records

-- the places of the lock list that hold a side's names; one that is not well formed is no side's
unfoldable pub locks_of_def : Bool → Session → ℕ
locks_of_def modem s =
    length
    (keep (λ i. well_named (lock_at s i).name && owns s.setup.modem.vendor modem (lock_at s i)) (range 0 (counted_locks s)))
