-- 01, "Rules a call can break, in checking order", with those of 02 in their places. ruleN says whether rule N is broken.
use Rattle.std.specs.Prelude.{ℕ, ◌+◌, Bool, true, false, not, cond, ◌&&◌, ◌||◌, List, [], ◌∷◌, ◌++◌, length, eqb, leb, ltb}
use Rattle.std.proofs.Math.Option.{Option, none, some}
use Rattle.model.specs.declared.Layout.{Layout}
use Rattle.model.specs.declared.Setup.{Setup}
use Rattle.model.specs.declared.Session.{Session}
use Rattle.model.specs.declared.Terms.{Terms}
use Rattle.model.specs.declared.View.{View}
use Rattle.model.specs.declared.PlatMode.{PlatMode}
use Rattle.model.specs.declared.Rule.{Rule}
use Rattle.model.specs.declared.Rule.TheVariants.{Length, Unready, Name, Attributes, KeyAttributes, Locked, Standing, Descriptor, Verdict, Stamp, Absent, DataSize, Room, Buffer, LockPhase, LockSpace, RecordName, RecordSpace, Setting, Side, Mode, File, Twice}
use Rattle.model.specs.Layout.{authenticated}
use Rattle.model.specs.Lists.{same, keep, any, among, is_empty, is_some, on_some, head}
use Rattle.model.specs.Image.{right_length, region_size, spare}
use Rattle.model.specs.Name.{Key, same_key_def, well_named, empty_name, record_name}
use Rattle.model.specs.Entry.{Value, key_of}
use Rattle.model.specs.Region.{max_data, stored_attributes, record_bit, entries, values, values_of, find}
use Rattle.model.specs.Work.{ready_in, ready_for_start_up, pending}
use Rattle.model.specs.Session.{is_yes, in_boot_def, at_runtime_def, custom_mode, share_of, reserved, counted_locks, lock_space, side_locks, locked}
use Rattle.model.specs.Request.{Request, request_key, runtime_access_def, time_based_def, appends, without_append_def, is_key_name_def, key_pk, key_mode, mode_of, wanted_verdicts, right_descriptor, stamp_to_store, later}
use Rattle.model.specs.Profile.{profile_of, items_in, shares_name_def}
use Rattle.model.specs.Limits.{Limit, limits_for, meets}
use Rattle.model.specs.Change.{Change, nothing, remove, put, change_of, change_in, changes_of, mode_changes, changes_in, step, steps, leaves, space_of, is_error_record_def, record_sizes}
use Rattle.model.specs.Sides.{owns, view, side_sizes, allotted, locks_of_def}

-- "The first broken is the answer": of rules in checking order, each with whether it is broken
unfoldable pub first_broken : List (Rule × Bool) → Option Rule
first_broken [] = none
first_broken (t ∷ ts) = cond t.1 (some t.0) (first_broken ts)

-- 1. "The image length is not 4,096 × (2b + 1) with b from 1 to 7."
unfoldable pub rule1 : List ℕ → Bool
rule1 img = not (right_length img)

-- 2. "A call finds the region not clean, the spare not all FF, or the work block not well formed or ending in FC;
unfoldable pub rule2_in : Layout → List ℕ → Bool
rule2_in y img = not (ready_in y img)

abbrev pub rule2 : List ℕ → Bool
rule2 = rule2_in authenticated

--     a start-up finds nothing pending and the region not sound."
unfoldable pub rule2_start_up : List ℕ → Bool
rule2_start_up img = not (ready_for_start_up img)

-- 3. "The name is not well formed (next-name also takes the two-byte empty name, to begin)."
unfoldable pub rule3 : Key → Bool
rule3 k = not (well_named k.name)

unfoldable pub rule3_next : Key → Bool
rule3_next k = not (well_named k.name || same k.name empty_name)

-- 22. 02 (f): "when a call names the other side's name, the empty one apart, after 3": by the modem's GUID and the side; next-name's empty name is no side's
unfoldable pub rule22 : List ℕ → Bool → Key → Bool
rule22 guid modem k = not (owns guid modem k)

unfoldable pub rule22_next : List ℕ → Bool → Key → Bool
rule22_next guid modem k = not (same k.name empty_name) && rule22 guid modem k

--     "when a start-up finds (in the spare if pending) a side above its share, the error records above H, or shares that do not fit, after 2"
unfoldable pub values_found : List ℕ → List Value
values_found img = cond (pending img) (values (entries (spare img))) (values_of img)

unfoldable pub rule22_start_up : Setup → List ℕ → Bool
rule22_start_up u img = not (allotted u (region_size img) (values_found img))

-- 4. "Attributes without 0x40 are none of 0, 0x03, 0x07, 0x23, 0x27, or are exactly 0x40, or at runtime are not 0 and lack RT."; 02 (a):
--    "Attribute 0x0F becomes legal in rule 4". By whether the phase is runtime, and attributes
unfoldable pub rule4 : Bool → ℕ → Bool
rule4 runtime a =
    not (among (0 ∷ stored_attributes) (without_append_def a))
    || eqb a 0x40
    || (runtime && not (eqb a 0) && not (runtime_access_def a))

-- 5. "A key name has other attributes than 0x27 or 0x67."
unfoldable pub rule5 : Key → ℕ → Bool
rule5 k a = is_key_name_def k && not (among (0x27 ∷ 0x67 ∷ []) a)

-- 17. 02 (a): "when a call with attributes other than 0 has attribute 0x08 without this GUID and name form, or both of those without 0x08, after 5"
unfoldable pub rule17 : Key → ℕ → Bool
rule17 k a = not (eqb a 0) && cond (record_bit a) (not (record_name k)) (record_name k)

-- 6. "The name is locked and the phase is not boot."
unfoldable pub rule6 : Session → Key → Bool
rule6 s k = locked s k && not (in_boot_def s)

-- 7. "A value stands and the attributes without 0x40 are neither 0 nor the stored ones, or are 0 over a stored 0x20, or the phase is runtime and the stored ones lack RT."
--    By whether the phase is runtime, attributes and the stored ones
unfoldable pub unlike_stored : ℕ → ℕ → Bool
unlike_stored asked stored = not (among (0 ∷ stored ∷ []) asked) || (eqb asked 0 && time_based_def stored)

unfoldable pub rule7 : Bool → ℕ → ℕ → Bool
rule7 runtime a stored = unlike_stored (without_append_def a) stored || (runtime && not (runtime_access_def stored))

-- 8. "A descriptor is wanted and does not fit the form above or the data."
unfoldable pub rule8 : ℕ → List ℕ → Bool
rule8 a bytes = time_based_def a && not (right_descriptor bytes)

-- 9. "A wanted verdict is absent.": by the verdicts of which one is wanted, and the verdict given
unfoldable pub rule9 : List ℕ → ℕ → Bool
rule9 wanted verdict = not (is_empty wanted) && not (among wanted verdict)

-- 10. "A verdict was wanted, a value stands, and the stamp is not later than its own."; 02 (b): "Rule 10 no longer concerns appends"
unfoldable pub rule10 : ℕ → List ℕ → List ℕ → Option Value → Bool
rule10 a wanted stamp old =
    not (appends a) && not (is_empty wanted) && on_some old (λ v. not (later stamp v.stamp)) false

-- 11. "The value to get, delete or go on from is absent (..), or next-name has reached the end.": of a set, and of a get or next-name
unfoldable pub rule11 : Change → Option Value → Bool
rule11 nothing old = false
rule11 (remove k) old = not (is_some old)
rule11 (put v) old = false

unfoldable pub rule11_read : Option Value → Bool
rule11_read found = not (is_some found)

-- 12. "The data would exceed 2,048 bytes.": where a value is put; no other change has data
unfoldable pub rule12 : Change → Bool
rule12 nothing = false
rule12 (remove k) = false
rule12 (put v) = ltb max_data (length v.bytes)

-- 21. 02 (e): "when a rule for that name is broken, after 12, before 18": "Rules are tried on the data as they would stand, if any, also where nothing changes. Deletes
--     obey only read-only, which also refuses every set.": of the rules for the name, over what stands there
unfoldable pub rule21 : List Limit → Change → Option Value → Bool
rule21 ls c old = any (λ t. is_yes t.fixed || on_some (leaves c old) (λ v. not (meets t v.bytes)) false) ls

-- a change puts a value of a kind; "a delete, or a set that stores nothing, never meets" 13, and 18 has "its exemptions"
abbrev pub puts : (Value → Bool) → Change → Bool
puts f nothing = false
puts f (remove k) = false
puts f (put v) = f v

abbrev pub removes : Change → Bool
removes nothing = false
removes (remove k) = true
removes (put v) = false

-- 18. 02 (a): "when after a set of one their rounded sizes exceed H, before 13 and with its exemptions": of changes one after another
unfoldable pub rule18 : Terms → List Change → List Value → Bool
rule18 t cs vs = any (puts is_error_record_def) cs && ltb t.records (record_sizes (steps cs vs))

-- 13. "28 plus the rounded entry sizes of all values after the change, plus R at runtime, exceeds L", which 02 (f) reads: "a side's sum without error records, with its
--     reserve at runtime, against its share, and still 28 plus all values against L (an error record's set meets only this)": of changes of the side's own names
unfoldable pub rule13 : Terms → ℕ → List Change → List Value → Bool
rule13 t size cs vs =
    (any (puts (λ v. not (is_error_record_def v))) cs && ltb t.share (side_sizes t.vendor t.modem (steps cs vs) + t.reserve))
    || (any (puts (λ v. true)) cs && ltb size (space_of (steps cs vs)))

-- 15. "A lock is asked after the boot phase."
unfoldable pub rule15 : Session → Bool
rule15 s = not (in_boot_def s)

-- 16. "The lock list holds 16 other names.", which 02 (f) reads: "eight of that side's names or no free place"; a name already listed needs none
unfoldable pub rule16 : Bool → Session → Key → Bool
rule16 modem s k = (leb side_locks (locks_of_def modem s) || leb lock_space (counted_locks s)) && not (locked s k)

-- 24. 02 (j): "when another transition is requested, or a set or delete names PlatMode, after 9": of a mode request's changes, and of a set's name
unfoldable pub rule24 : List Change → Bool
rule24 cs = is_empty cs

unfoldable pub rule24_set : Key → Bool
rule24_set k = same_key_def k key_mode

-- 6 of a mode request: "(PlatMode, and PK if lost)"
unfoldable pub rule6_mode : Session → List Change → Bool
rule6_mode s cs = rule6 s key_mode || (any removes cs && rule6 s key_pk)

-- 25. 02 (l): "when the file is not of this form or leaves bytes over, after 2"
unfoldable pub rule25 : List ℕ → Bool
rule25 file = not (is_some (profile_of file))

-- 26. 02 (l): "when two items share name and GUID, after 25"
unfoldable pub rule26 : List Request → Bool
rule26 rs = shares_name_def rs

-- what a session says to a side's set: whether the phase is runtime, whether the call names the other side's name (22), whether rule 6 bars it, custom mode, the side's
-- bytes kept back and its share, H, and how many rules for settings are in use; which side it is, and the modem's GUID
abbrev pub terms_if : Bool → Session → Bool → Bool → Terms
terms_if modem s foreign barred = record {
  runtime = at_runtime_def s;
  foreign = foreign;
  barred = barred;
  custom = custom_mode s;
  reserve = reserved modem s;
  share = share_of modem s.setup;
  records = s.setup.records;
  rules = s.setup.rules;
  modem = modem;
  vendor = s.setup.modem.vendor;
}

-- to a call of a side that names no name
unfoldable pub terms_for_def : Bool → Session → Terms
terms_for_def modem s = terms_if modem s false false

-- to a set of a name
unfoldable pub terms_of : Bool → Session → Key → Terms
terms_of modem s k = terms_if modem s (rule22 s.setup.modem.vendor modem k) (rule6 s k)

-- and to a side's get and next-name
unfoldable pub view_of : Bool → Session → View
view_of modem s = record { runtime = at_runtime_def s; modem = modem; vendor = s.setup.modem.vendor }

-- "Sets, deletes among them, meet 1 to 13", with 22, 17, 21 and 18 in their places: the image, the call itself, what stands, the result, the rules for its name, room
unfoldable pub image_rules_in : Layout → List ℕ → List (Rule × Bool)
image_rules_in y img = (Length, rule1 img) ∷ (Unready, rule2_in y img) ∷ []

abbrev pub image_rules : List ℕ → List (Rule × Bool)
image_rules = image_rules_in authenticated

unfoldable pub request_rules : Terms → Request → List (Rule × Bool)
request_rules t r =
    (Name, rule3 (request_key r))
    ∷ (Side, t.foreign)
    ∷ (Attributes, rule4 t.runtime r.attributes)
    ∷ (KeyAttributes, rule5 (request_key r) r.attributes)
    ∷ (RecordName, rule17 (request_key r) r.attributes)
    ∷ (Locked, t.barred)
    ∷ []

-- in a mode, over the value that stands
abbrev pub wanted_of : Terms → Request → PlatMode → Option Value → List ℕ
wanted_of t r mode old = wanted_verdicts t.custom r.presence mode (request_key r) r.attributes (is_some old)

unfoldable pub standing_rules : Terms → Request → PlatMode → Option Value → List (Rule × Bool)
standing_rules t r mode old =
    (Standing, on_some old (λ v. rule7 t.runtime r.attributes v.attributes) false)
    ∷ (Descriptor, rule8 r.attributes r.bytes)
    ∷ (Verdict, rule9 (wanted_of t r mode old) r.verdict)
    ∷ (Mode, rule24_set (request_key r))
    ∷ (Stamp, rule10 r.attributes (wanted_of t r mode old) (stamp_to_store r) old)
    ∷ []

unfoldable pub result_rules : Request → Option Value → List (Rule × Bool)
result_rules r old = (Absent, rule11 (change_of r old) old) ∷ (DataSize, rule12 (change_of r old)) ∷ []

-- 01's, (a)'s and (f)'s but room, over a list of values
unfoldable pub item_rules : Terms → Request → List Value → List (Rule × Bool)
item_rules t r vs =
    request_rules t r
    ++ standing_rules t r (mode_of vs) (find (request_key r) vs)
    ++ result_rules r (find (request_key r) vs)

-- the rules for its name, over the value that stands
unfoldable pub setting_rules : List Limit → Request → Option Value → List (Rule × Bool)
setting_rules ls r old = (Setting, rule21 ls (change_of r old) old) ∷ []

-- room for changes, in a region of so many bytes
unfoldable pub room_rules : Terms → ℕ → List Change → List Value → List (Rule × Bool)
room_rules t size cs vs = (RecordSpace, rule18 t cs vs) ∷ (Room, rule13 t size cs vs) ∷ []

unfoldable pub set_broken : Bool → Session → Request → List ℕ → Option Rule
set_broken modem s r img =
    first_broken
    (image_rules img
    ++ item_rules (terms_of modem s (request_key r)) r (values_of img)
    ++ setting_rules (limits_for s.setup (request_key r)) r (find (request_key r) (values_of img))
    ++ room_rules (terms_of modem s (request_key r)) (region_size img) (changes_of r (values_of img)) (values_of img))

-- 02 (l), "Each item is checked in turn as if those before it stood": by all rules of a set but room, those for its name among them, before the next item
abbrev pub limits_on : Session → Request → List Limit
limits_on s r = limits_for s.setup (request_key r)

unfoldable pub items_rules : Bool → Session → List Request → List Value → List (Rule × Bool)
items_rules modem s [] vs = []
items_rules modem s (r ∷ rs) vs =
    item_rules (terms_of modem s (request_key r)) r vs
    ++ setting_rules (limits_on s r) r (find (request_key r) vs)
    ++ items_rules modem s rs (step (change_in r vs) vs)

-- a profile of a side meets 1, 2, 25, 26 and its items' rules, 22 among them
unfoldable pub profile_rules : Bool → Session → List ℕ → List ℕ → List (Rule × Bool)
profile_rules modem s file img =
    image_rules img
    ++ ((File, rule25 file) ∷ (Twice, rule26 (items_in file)) ∷ [])
    ++ items_rules modem s (items_in file) (values_of img)

-- and "room is judged after the last, if one stores a value": 13 over the values after all items. An item with 0x03 or 0x07 puts no error record, so none breaks 18
unfoldable pub profile_broken : Bool → Session → List ℕ → List ℕ → Option Rule
profile_broken modem s file img =
    first_broken
    (profile_rules modem s file img
    ++ ((Room, rule13 (terms_for_def modem s) (region_size img) (changes_in (items_in file) (values_of img)) (values_of img)) ∷ []))

-- 02 (j), "A mode request meets 1, 2, 22, 6 (PlatMode, and PK if lost), 24, 13": of 2 or 3. "PlatMode is ours", so the modem's meets 22
unfoldable pub mode_rules : Bool → Session → ℕ → List ℕ → List (Rule × Bool)
mode_rules modem s m img =
    image_rules img
    ++ ((Side, rule22 s.setup.modem.vendor modem key_mode)
    ∷ (Locked, rule6_mode s (mode_changes m (values_of img)))
    ∷ (Mode, rule24 (mode_changes m (values_of img)))
    ∷ [])

unfoldable pub mode_broken : Bool → Session → ℕ → List ℕ → Option Rule
mode_broken modem s m img =
    first_broken
    (mode_rules modem s m img
    ++ ((Room, rule13 (terms_for_def modem s) (region_size img) (mode_changes m (values_of img)) (values_of img)) ∷ []))

-- "at runtime, values without RT are absent to get and next-name"
unfoldable pub seen : Bool → List Value → List Value
seen runtime vs = cond runtime (keep (λ v. runtime_access_def v.attributes) vs) vs

-- the value to get
unfoldable pub value_to_get : Bool → Key → List Value → Option Value
value_to_get runtime k vs = find k (seen runtime vs)

-- the value that comes after another's name in a list; none where that name is absent or the last
unfoldable pub following : Key → List Value → Option Value
following k [] = none
following k (v ∷ vs) = cond (same_key_def (key_of v) k) (head vs) (following k vs)

-- the next value: the first after the empty name, whatever the GUID; 02 (f): "Next-name shows a side only its own values"
unfoldable pub next_of : Key → List Value → Option Value
next_of k vs = cond (same k.name empty_name) (head vs) (following k vs)

unfoldable pub value_to_name : List ℕ → Bool → Bool → Key → List Value → Option Value
value_to_name guid modem runtime k vs = next_of k (seen runtime (view guid modem vs))

-- what a get and what next-name writes: the data; "the 16 GUID bytes and name"
abbrev pub got_bytes : Value → List ℕ
got_bytes v = v.bytes

abbrev pub named_bytes : Value → List ℕ
named_bytes v = v.vendor ++ v.name

-- 14. "The caller's buffer is shorter than the data to get, or than the 16 GUID bytes and name of next-name."
unfoldable pub rule14 : Option Value → (Value → List ℕ) → List ℕ → Bool
rule14 found bytes buffer = on_some found (λ v. ltb (length buffer) (length (bytes v))) false

-- "get and next-name 1, 2, 3, 11 and 14", with 22 after 3: after 1 and 2, a get's over a list of values, by the modem's GUID, the side and whether the phase is runtime
abbrev pub get_rules : List ℕ → Bool → Bool → Key → List ℕ → List Value → List (Rule × Bool)
get_rules guid modem runtime k buffer vs =
    (Name, rule3 k)
    ∷ (Side, rule22 guid modem k)
    ∷ (Absent, rule11_read (value_to_get runtime k vs))
    ∷ (Buffer, rule14 (value_to_get runtime k vs) got_bytes buffer)
    ∷ []

unfoldable pub get_broken : Bool → Session → Key → List ℕ → List ℕ → Option Rule
get_broken modem s k buffer img =
    first_broken (image_rules img ++ get_rules s.setup.modem.vendor modem (at_runtime_def s) k buffer (values_of img))

-- 02 (g): "one call for up to 64 names"; "More than 64 are refused 3, after 2": the call as a whole; each name then meets the rules of a get
abbrev pub get_space : ℕ
get_space = 64

unfoldable pub gets_broken : List Key → List ℕ → Option Rule
gets_broken ks img = first_broken (image_rules img ++ ((Name, ltb get_space (length ks)) ∷ []))

-- what next-name shows a side in a session
abbrev pub value_named : Bool → Session → Key → List ℕ → Option Value
value_named modem s k img = value_to_name s.setup.modem.vendor modem (at_runtime_def s) k (values_of img)

unfoldable pub next_broken : Bool → Session → Key → List ℕ → List ℕ → Option Rule
next_broken modem s k buffer img =
    first_broken
    (image_rules img
    ++ ((Name, rule3_next k)
    ∷ (Side, rule22_next s.setup.modem.vendor modem k)
    ∷ (Absent, rule11_read (value_named modem s k img))
    ∷ (Buffer, rule14 (value_named modem s k img) named_bytes buffer)
    ∷ []))

-- "start-up 1 and 2", and 22 after them
unfoldable pub start_up_broken : Setup → List ℕ → Option Rule
start_up_broken u img =
    first_broken ((Length, rule1 img) ∷ (Unready, rule2_start_up img) ∷ (Side, rule22_start_up u img) ∷ [])

-- "Locks meet 3, 15, 16 only", and 22 after 3
unfoldable pub lock_broken : Bool → Session → Key → Option Rule
lock_broken modem s k =
    first_broken
    ((Name, rule3 k)
    ∷ (Side, rule22 s.setup.modem.vendor modem k)
    ∷ (LockPhase, rule15 s)
    ∷ (LockSpace, rule16 modem s k)
    ∷ [])

-- "Formatting meets 1 only"
unfoldable pub format_broken : List ℕ → Option Rule
format_broken img = first_broken ((Length, rule1 img) ∷ [])
