-- Not of document 01: what contracts cite.
use Rattle.std.specs.Prelude.{ℕ, ◌+◌, ◌*◌, ◌≤◌, ◌≡◌, Bool, true, false, not, cond, ◌&&◌, ◌||◌, List, [], ◌∷◌, ◌++◌, length, drop, eqb, leb, ltb}
use Rattle.std.proofs.Math.Option.{Option, none, some}
use Rattle.model.specs.declared.Layout.{Layout}
use Rattle.model.specs.declared.Session.{Session}
use Rattle.model.specs.declared.Terms.{Terms}
use Rattle.model.specs.declared.Rule.{Rule}
use Rattle.model.specs.declared.PlatMode.{PlatMode}
use Rattle.model.specs.declared.PlatMode.TheVariants as mode
use Rattle.model.specs.Layout.{authenticated, header_length, is_stamped_def}
use Rattle.model.specs.Lists.{any, keep, among, part, overlay}
use Rattle.model.specs.Name.{Key, same_key_def, keyed, well_named, record_name}
use Rattle.model.specs.Entry.{Value, key_of, no_stamp_def, read_header_in}
use Rattle.model.specs.Walk.{Entry, walk}
use Rattle.model.specs.Region.{stored_attributes, record_bit, max_data, find}
use Rattle.model.specs.Session.{lock_space, name_space, place_size, with_lock_def}
use Rattle.model.specs.Request.{Request, request_key, audit_mode, deployed_mode}
use Rattle.model.specs.Limits.{Limit}
use Rattle.model.specs.Change.{Change, nothing, remove, put, change_in}
use Rattle.model.specs.Rules.{terms_of, item_rules, setting_rules}
use Rattle.model.specs.Answers.{Outcome, done, stopped, refused, Reply, Given, Gots}

-- the entries of a region from an offset on, as a loop over them meets them
unfoldable pub from_in : Layout → List ℕ → ℕ → List Entry
from_in y r at = walk (header_length y) (read_header_in y) (drop at r) 0 at

abbrev pub from : List ℕ → ℕ → List Entry
from = from_in authenticated

-- one more lock where a place is free and the name fits it; else the session stays
unfoldable pub one_more_lock : Session → Key → Session
one_more_lock s k = cond (ltb s.count lock_space && leb (length k.name) name_space) (with_lock_def s k) s

-- what a session says to a side's set of a name: these terms, and this table of rules for settings
abbrev pub Says : Bool → Session → Key → Terms → List ℕ → Type 0
Says modem s k t table = (terms_of modem s k ≡ t) × (s.setup.limits ≡ table)

-- 02 (l), for the code: every item judged over the values as the call finds them, by what is said of its name and the rules for it; and its change over these
unfoldable pub items_alone : (Key → Terms) → (Key → List Limit) → List Request → List Value → List (Rule × Bool)
items_alone told limits [] vs = []
items_alone told limits (r ∷ rs) vs =
    item_rules (told (request_key r)) r vs
    ++ setting_rules (limits (request_key r)) r (find (request_key r) vs)
    ++ items_alone told limits rs vs

unfoldable pub changes_alone : List Request → List Value → List Change
changes_alone [] vs = []
changes_alone (r ∷ rs) vs = change_in r vs ∷ changes_alone rs vs

-- what holds of every item
abbrev pub EachItem : (Request → Type 0) → List Request → Type 0
EachItem P [] = Unit {0}
EachItem P (r ∷ rs) = P r × EachItem P rs

-- of changes, the names that they change and the values that they put; and the values of no such name, in their order
abbrev pub changed_keys : List Change → List Key
changed_keys [] = []
changed_keys (nothing ∷ cs) = changed_keys cs
changed_keys (remove k ∷ cs) = k ∷ changed_keys cs
changed_keys (put v ∷ cs) = key_of v ∷ changed_keys cs

abbrev pub put_values_def : List Change → List Value
put_values_def [] = []
put_values_def (nothing ∷ cs) = put_values_def cs
put_values_def (remove k ∷ cs) = put_values_def cs
put_values_def (put v ∷ cs) = v ∷ put_values_def cs

unfoldable pub without_all : List Key → List Value → List Value
without_all ks vs = keep (λ v. not (any (same_key_def (key_of v)) ks)) vs

-- 02 (j): how modes follow one another: "Setup may go to audit; user to audit, losing PK, or to deployed; audit to deployed when PK is enrolled ..; deployed to
-- setup when PK is deleted"; and as in 01, setup to user when PK is enrolled and user to setup when it is deleted
pub data Moves : PlatMode → PlatMode → Type 0 where
  stays : (m : PlatMode) → Moves m m
  setup-audit : Moves mode.Setup mode.Audit
  user-audit : Moves mode.User mode.Audit
  user-deployed : Moves mode.User mode.Deployed
  audit-deployed : Moves mode.Audit mode.Deployed
  deployed-setup : Moves mode.Deployed mode.Setup
  setup-user : Moves mode.Setup mode.User
  user-setup : Moves mode.User mode.Setup

-- the mode that a mode request names: 2 audit, 3 deployed, any other number none
abbrev pub mode_named : ℕ → Option PlatMode
mode_named to = cond (eqb to audit_mode) (some mode.Audit) (cond (eqb to deployed_mode) (some mode.Deployed) none)

-- what a value must be for its entry to be sound, and to be read back, in a form
pub record ValidIn (y : Layout) (v : Value) : Type 0 where
  pub named : well_named v.name ≡ true
  pub vendor : length v.vendor ≡ 16
  pub stamp : length v.stamp ≡ 16
  pub stampless : is_stamped_def y ≡ false → v.stamp ≡ no_stamp_def
  pub attributes : among stored_attributes v.attributes ≡ true
  pub recorded : (not (record_bit v.attributes) || record_name (key_of v)) ≡ true
  pub some-data : 1 ≤ length v.bytes
  pub few-data : length v.bytes ≤ max_data

abbrev pub Valid : Value → Type 0
Valid = ValidIn authenticated

-- what a get or next-name hands out beside its answer is what its reply says: size, attributes, the size needed, and the buffer as it leaves it
abbrev pub Gives : Reply → ℕ → ℕ → ℕ → List ℕ → Type 0
Gives reply size attributes needed buffer =
    (size ≡ reply.size) × (attributes ≡ reply.attributes) × (needed ≡ reply.needed) × (buffer ≡ reply.buffer)

-- 02 (g), at the interface. A name stands behind its GUID, in a place of 144 bytes. These bytes of a place, by their size; none, where they are not all lent or have no
-- room in a place
unfoldable pub asked_bytes : List ℕ → ℕ → ℕ → List ℕ
asked_bytes keys k size =
    cond (leb size place_size && eqb (length (part (place_size * k) size keys)) size) (part (place_size * k) size keys) []

-- the name and GUID of a place; and of every place from one on, by the list of sizes
abbrev pub asked_at : List ℕ → ℕ → ℕ → Key
asked_at keys k size = keyed (drop 16 (asked_bytes keys k size)) (part 0 16 (asked_bytes keys k size))

unfoldable pub asked_from : List ℕ → ℕ → List ℕ → List Key
asked_from keys k [] = []
asked_from keys k (size ∷ sizes) = asked_at keys k size ∷ asked_from keys (k + 1) sizes

abbrev pub asked : List ℕ → List ℕ → List Key
asked keys sizes = asked_from keys 0 sizes

-- the rule of an answer, 0 if it is done; of each name it and three more numbers
abbrev pub rule_told_def : Outcome → ℕ
rule_told_def (done stores) = 0
rule_told_def stopped = 0
rule_told_def (refused rule) = rule

unfoldable pub numbers_told : List Given → List ℕ
numbers_told [] = []
numbers_told (g ∷ gs) = rule_told_def g.answer ∷ g.size ∷ g.attributes ∷ g.needed ∷ numbers_told gs

-- what a many-get hands out beside its answer is what is given: its numbers at the front of those told, and the buffer as it leaves it
pub record Handed (gots : Gots) (told told' buffer' : List ℕ) : Type 0 where
  pub numbers : told' ≡ overlay 0 (numbers_told gots.items) told
  pub buffer : buffer' ≡ gots.buffer
