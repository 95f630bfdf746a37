-- 01, "What a set does", and 02 (b): the change that a call makes of the list of values, for the book, for rules 13 and 18 and for a compaction alike.
use Rattle.std.specs.Prelude.{ℕ, ◌+◌, Bool, true, false, not, cond, ◌&&◌, ◌||◌, List, [], ◌∷◌, ◌++◌, length, eqb}
use Rattle.std.proofs.Math.Option.{Option, none, some}
use Rattle.model.specs.declared.PlatMode.{PlatMode}
use Rattle.model.specs.declared.PlatMode.TheVariants as mode
use Rattle.model.specs.Lists.{same, keep, is_some, on_some}
use Rattle.model.specs.declared.Layout.{Layout}
use Rattle.model.specs.Layout.{authenticated}
use Rattle.model.specs.Image.{region_header_size}
use Rattle.model.specs.Name.{Key, same_key_def}
use Rattle.model.specs.Entry.{Value, key_of, entry_size_in}
use Rattle.model.specs.Region.{record_bit, find}
use Rattle.model.specs.Request.{Request, request_key, time_based_def, appends, without_append_def, data_proper, stamp_to_store, later, key_pk, user_mode_def, key_mode, audit_mode, deployed_mode, mode_value, stores_mode, mode_of}

pub data Change : Type 0 where
  nothing : Change
  remove : Key → Change
  put : Value → Change

abbrev pub is_nothing : Change → Bool
is_nothing nothing = true
is_nothing (remove k) = false
is_nothing (put v) = false

-- "Attributes 0, or empty data proper without append, delete.": by attributes and the size of the data proper
unfoldable pub deletes : ℕ → ℕ → Bool
deletes a size = eqb a 0 || (eqb size 0 && not (appends a))

-- "An empty append changes nothing."; 02 (b): it "still changes nothing", whatever its stamp
unfoldable pub empty_append_def : ℕ → ℕ → Bool
empty_append_def a size = eqb size 0 && appends a

-- "Equal data and attributes, neither 0x20 nor 0x40 among them: no stores.": attributes and data proper beside those stored
unfoldable pub equal_to : ℕ → List ℕ → ℕ → List ℕ → Bool
equal_to a proper stored old = same proper old && eqb a stored && not (time_based_def a) && not (appends a)

-- "Append joins the data, and creates if absent."
unfoldable pub new_data : Request → Option Value → List ℕ
new_data r old = cond (appends r.attributes) (on_some old (λ v. v.bytes) [] ++ data_proper r) (data_proper r)

-- 02 (b): "with 0x20 the stored stamp becomes the later of the two, the old one if neither is later"
unfoldable pub later_of_def : List ℕ → List ℕ → List ℕ
later_of_def given old = cond (later given old) given old

-- the stamp to be stored: of an append with 0x20 over a value the later of the two, of any other set the one given
unfoldable pub new_stamp : Request → Option Value → List ℕ
new_stamp r old =
    cond
    (appends r.attributes && time_based_def r.attributes)
    (on_some old (λ v. later_of_def (stamp_to_store r) v.stamp) (stamp_to_store r))
    (stamp_to_store r)

-- "name, GUID, attributes without 0x40, stamp to be stored, data proper, an append's behind the old data"
unfoldable pub new_value : Request → Option Value → Value
new_value r old = record {
  name = r.name;
  vendor = r.vendor;
  attributes = without_append_def r.attributes;
  stamp = new_stamp r old;
  bytes = new_data r old;
}

-- the change that a set asks for, from its arguments and the value that stands
unfoldable pub change_of : Request → Option Value → Change
change_of r old =
    cond
    (deletes r.attributes (length (data_proper r)))
    (remove (request_key r))
    (cond
    (empty_append_def r.attributes (length (data_proper r))
    || on_some old (λ v. equal_to r.attributes (data_proper r) v.attributes v.bytes) false)
    nothing
    (put (new_value r old)))

-- the list of values after a change: a delete takes its value out, any other drops the old value and adds at the end
unfoldable pub without : Key → List Value → List Value
without k vs = keep (λ v. not (same_key_def (key_of v) k)) vs

unfoldable pub step : Change → List Value → List Value
step nothing vs = vs
step (remove k) vs = without k vs
step (put v) vs = without (key_of v) vs ++ (v ∷ [])

-- what stands under a change's own name after it, by what stood there
unfoldable pub leaves : Change → Option Value → Option Value
leaves nothing old = old
leaves (remove k) old = none
leaves (put v) old = some v

-- changes one after another
unfoldable pub steps : List Change → List Value → List Value
steps [] vs = vs
steps (c ∷ cs) vs = steps cs (step c vs)

-- the change of a set over a list of values
unfoldable pub change_in : Request → List Value → Change
change_in r vs = change_of r (find (request_key r) vs)

-- 02 (j): PlatMode's value is removed, if one stands
abbrev pub without_mode : List Value → List Change
without_mode vs = cond (is_some (find key_mode vs)) (remove key_mode ∷ []) []

-- 02 (j): the change of PlatMode that goes with one of PK, by the values before: "audit to deployed when PK is enrolled"; "a PK that comes or goes also removes a byte that
-- counts as absent, and one deleted in deployed the 3". A PK that is replaced neither comes nor goes
unfoldable pub beside_pk : Change → List Value → List Change
beside_pk nothing vs = []
beside_pk (remove k) vs = cond (same_key_def k key_pk) (without_mode vs) []
beside_pk (put v) vs =
    cond
    (same_key_def (key_of v) key_pk && not (user_mode_def vs))
    (cond (stores_mode audit_mode vs) (put (mode_value deployed_mode) ∷ []) (without_mode vs))
    []

-- the changes of a set: its own; "the book in 01 takes PK's change, if any, then PlatMode's"
unfoldable pub changes_of : Request → List Value → List Change
changes_of r vs = change_in r vs ∷ beside_pk (change_in r vs) vs

-- 02 (j): the changes of a mode request, which names 2 or 3: "Setup may go to audit; user to audit, losing PK, or to deployed"; none where it is another transition. A mode is
-- always put, so it "goes to the end even where its byte stays"
abbrev pub transition : PlatMode → ℕ → List Change
transition mode.Setup m = cond (eqb m audit_mode) (put (mode_value audit_mode) ∷ []) []
transition mode.Audit m = []
transition mode.User m =
    cond
    (eqb m audit_mode)
    (remove key_pk ∷ put (mode_value audit_mode) ∷ [])
    (cond (eqb m deployed_mode) (put (mode_value deployed_mode) ∷ []) [])
transition mode.Deployed m = []

unfoldable pub mode_changes : ℕ → List Value → List Change
mode_changes m vs = transition (mode_of vs) m

-- 02 (l), items "as sets, in file order", each over the values as those before it leave them; none is of PK, by rule 5, or of PlatMode, by 24
unfoldable pub changes_in : List Request → List Value → List Change
changes_in [] vs = []
changes_in (r ∷ rs) vs = change_in r vs ∷ changes_in rs (step (change_in r vs) vs)

-- the space that values take: "28 plus the rounded entry sizes of all values"
unfoldable pub entry_sizes_in : Layout → List Value → ℕ
entry_sizes_in y [] = 0
entry_sizes_in y (v ∷ vs) = entry_size_in y v + entry_sizes_in y vs

unfoldable pub space_in : Layout → List Value → ℕ
space_in y vs = region_header_size + entry_sizes_in y vs

abbrev pub entry_sizes : List Value → ℕ
entry_sizes = entry_sizes_in authenticated

abbrev pub space_of : List Value → ℕ
space_of = space_in authenticated

-- 02 (a): the error records among the values, and the others
abbrev pub is_error_record_def : Value → Bool
is_error_record_def v = record_bit v.attributes

unfoldable pub record_sizes : List Value → ℕ
record_sizes vs = entry_sizes (keep is_error_record_def vs)

unfoldable pub other_sizes : List Value → ℕ
other_sizes vs = entry_sizes (keep (λ v. not (is_error_record_def v)) vs)
