-- What a call that reads answers: refused by the rule broken with the buffer as it was, or done with the bytes at the buffer's front. A get and a next-name differ
-- only in the value found and in what they write of it.
-- Assumes nothing.
use Prim.Native.Nat.{ℕ, ◌+◌, ◌≤◌}
use native.Mathlib.Nat.{min-le_left}
use native.Mathlib.Omega.{arith}
use mathlib.Core.Path.{◌≡◌, refl, sym, ap, subst, ◌∙◌}
use mathlib.Core.Bool.{Bool, true, false}
use mathlib.Core.List.{List, [], ◌∷◌}
use mathlib.Core.Option.{Option as Maybe, none, some}
use Rattle.std.specs.Prelude.{Option, Some, None}
use lib.ListN.{length, drop, length-take}
use lib.Dec.{eqb, ltb}
use Rattle.model.specs.Layout.{authenticated}
use Rattle.model.specs.Lists.{on_some, overlay}
use Rattle.model.specs.Image.{region}
use Rattle.model.specs.Name.{Key, well_named}
use Rattle.model.specs.Entry.{Value}
use Rattle.model.specs.Walk.{Entry, entry_value_def, placed}
use Rattle.model.specs.Region.{entries, values, values_of, values_in}
use Rattle.model.specs.Rules.{first_broken, view_of, rule3, rule3_next, rule11_read, rule14, rule22, value_to_get, value_to_name, value_named, got_bytes, named_bytes, get_broken, next_broken}
use Rattle.model.specs.Answers.{rule_number, refusal, written, done, refused, outcome, get_reply, next_reply}
use Rattle.model.specs.Beside.{Gives}
use Rattle.model.specs.Book as book
use Rattle.model.specs.Book.{plan_of}
use Rattle.recovery.specs.Interface.{Returned}
use Rattle.recovery.proofs.Interface.{reading-image}
use Rattle.model.specs.Set.{refuse, make}
use Rattle.model.specs.declared.Session.{Session}
use Rattle.model.specs.declared.View.{View}
use Rattle.model.specs.declared.Context.{Context}
use Rattle.model.specs.Stores.{stores, reach}
use Rattle.model.proofs.Failing.{ended-done}
use Rattle.model.specs.declared.Rule.{Rule}
use Rattle.model.specs.declared.Rule.TheVariants.{Absent, Buffer}
use Rattle.model.specs.declared.Answer.TheVariants.{Done}
use Rattle.model.specs.declared.Got.{Got}
use Rattle.layout.specs.declared.Entry as numbers
use Rattle.region.specs.Walk.{entry_at, vendor_at, entry_as, vendor_as}
use Rattle.region.proofs.Entries.{vendor}
use Rattle.region.specs.declared.Placed.{Placed}
use Rattle.values.proofs.Sizes.{lengths}
use Rattle.query.specs.Query.{entry_in}
use Rattle.query.proofs.Held.{value_in}
use Rattle.engine.specs.Read.{found_broken, read_broken, reply_of, found_reply, short_of, reply_to, refused_got, Answered, next_at, next_broken_at, next_reply_at}
use Rattle.image.specs.declared.Ready.{Ready}
use Rattle.engine.proofs.Opened.{Opens, Refuses}

-- no stores: done with 0, whatever the context is
pub no_stores : (x : Context) (broken : Maybe Rule) (img : List ℕ)
    → outcome x (on_some broken refuse (make [] [])) img ≡ on_some broken (λ rule. refused (rule_number rule)) (done 0)
unfolding outcome reach stores
no_stores x none img = ended-done x.limit 0 0 (omega arith) (omega arith)
no_stores x (some rule) img = refl

-- a rule before 14 is broken
pub answered-refused : (rule : Rule) → eqb (rule_number rule) 14 ≡ false → (broken : Maybe Rule) → broken ≡ some rule
    → (found : Maybe Value) (bytes : Value → List ℕ) (attributes : Value → ℕ) (buffer : List ℕ)
    → Answered broken (reply_of broken found bytes attributes buffer) (refused_got rule 0) buffer
unfolding reply_of refusal
answered-refused rule n broken b found bytes attributes buffer =
    rw b (record { answer = refl; size = refl; attributes = refl; needed = rw n; buffer = refl })

-- nothing is found
pub answered-absent : (found : Maybe Value) → found ≡ none → (bytes : Value → List ℕ) (attributes : Value → ℕ) (buffer : List ℕ)
    → Answered (found_broken found bytes buffer) (found_reply found bytes attributes buffer) (refused_got Absent 0) buffer
unfolding found_broken first_broken rule11_read
answered-absent found f bytes attributes buffer =
    answered-refused Absent refl (found_broken found bytes buffer) (rw f) found bytes attributes buffer

-- a value is found, and its bytes are handed out
pub answered-found : (v : Value) (found : Maybe Value) → found ≡ some v → (bytes : Value → List ℕ) (attributes : Value → ℕ) (buffer : List ℕ)
    → (given : List ℕ) → given ≡ bytes v → (bits : ℕ) → bits ≡ attributes v → {got : Got} {after : List ℕ}
    → Answered (short_of given buffer) (reply_to given bits buffer) got after
    → Answered (found_broken found bytes buffer) (found_reply found bytes attributes buffer) got after
unfolding found_broken first_broken rule11_read rule14 reply_of short_of reply_to
answered-found v found f bytes attributes buffer given g bits a {got} {after} h =
    let h' : Answered (short_of (bytes v) buffer) (reply_to (bytes v) (attributes v) buffer) got after = rw (g, a) at h in
    rw f h'

-- if they fit
module _ (bytes : List ℕ) (attributes : ℕ) (buffer : List ℕ) where
  pub short-buffer : (size : ℕ) → size ≡ length bytes → ltb (length buffer) (length bytes) ≡ true
      → Answered (short_of bytes buffer) (reply_to bytes attributes buffer) (refused_got Buffer size) buffer
  unfolding short_of reply_to refusal
  short-buffer size s h = rw h (record { answer = refl; size = refl; attributes = refl; needed = s; buffer = refl })

  pub long-buffer : (size : ℕ) → size ≡ length bytes → ltb (length buffer) (length bytes) ≡ false → {after : List ℕ} → after ≡ overlay 0 bytes buffer
      → Answered (short_of bytes buffer) (reply_to bytes attributes buffer) (record { answer = Done 0; size = size; attributes = attributes; needed = 0 }) after
  unfolding short_of reply_to written
  long-buffer size s h e = rw h (record { answer = refl; size = s; attributes = refl; needed = refl; buffer = e })

-- ---- the value of the entry found

module _ (r : List ℕ) (f : Option Placed) (o : Maybe Entry) (q : entry_in r f ≡ o) (value : Maybe Value) (held : value_in o ≡ value) where
  pub value_found : (p : Placed) → f ≡ Some p → value ≡ some (entry_value_def (entry_at r p.at p.entry))
  value_found p e = sym held ∙ ap value_in (sym q) ∙ ap (λ (x : Option Placed). value_in (entry_in r x)) e

  pub value_none : f ≡ None → value ≡ none
  value_none p = sym held ∙ ap value_in (sym q) ∙ ap (λ (x : Option Placed). value_in (entry_in r x)) p

pub entry-attributes : (r : List ℕ) (at : ℕ) (e : numbers.Entry) → e.attributes ≡ (entry_at r at e).header.attributes
unfolding entry_as placed
entry-attributes r at e = refl

pub entry-vendor : (r : List ℕ) (at : ℕ) (e : numbers.Entry) → vendor_at r at ≡ (entry_at r at e).header.vendor
unfolding entry_as placed vendor_as
entry-vendor r at e = refl

-- none of it is longer than the region
pub short-data : (r : List ℕ) (at : ℕ) (e : numbers.Entry) → length (entry_at r at e).bytes ≤ length r
short-data r at e = let l = lengths authenticated r at e in omega (arith, l.whole)

pub short-name : (r : List ℕ) (at : ℕ) (e : numbers.Entry) → length (entry_at r at e).name ≤ length r
short-name r at e = let l = lengths authenticated r at e in omega (arith, l.whole)

pub short-vendor : (r : List ℕ) (at : ℕ) → length (vendor_at r at) ≤ 16
short-vendor r at = rw (vendor authenticated r at, length-take 16 (drop (at + 44) r)) (min-le_left 16 (length (drop (at + 44) r)))

-- ---- rules 1, 2, 3 and 22 before 11 and 14

module _ (img : List ℕ) (found : Maybe Value) (bytes : Value → List ℕ) (attributes : Value → ℕ) (buffer : List ℕ) where
  abbrev Read : Bool → Bool → Got → List ℕ → Type 0
  Read named foreign got after =
      Answered (read_broken img named foreign found bytes buffer) (reply_of (read_broken img named foreign found bytes buffer) found bytes attributes buffer) got after

  pub read_found : {x : Ready} {named foreign : Bool} → Opens img x named foreign → {got : Got} {after : List ℕ}
      → Answered (found_broken found bytes buffer) (found_reply found bytes attributes buffer) got after → Read named foreign got after
  unfolding read_broken found_broken
  read_found o {got} {after} h =
      subst (λ (x : Maybe Rule). Answered x (reply_of x found bytes attributes buffer) got after)
      (sym (o.later ((Absent, rule11_read found) ∷ (Buffer, rule14 found bytes buffer) ∷ []))) h

  pub read-refused : {rule : Rule} {named foreign : Bool} → Refuses img rule named foreign → Read named foreign (refused_got rule 0) buffer
  unfolding read_broken
  read-refused {rule} {named} {foreign} x =
      answered-refused rule x.before-14 (read_broken img named foreign found bytes buffer)
      (x.broken ((Absent, rule11_read found) ∷ (Buffer, rule14 found bytes buffer) ∷ [])) found bytes attributes buffer

pub read_as : (img : List ℕ) (bytes : Value → List ℕ) (attributes : Value → ℕ) (buffer : List ℕ) {found found' : Maybe Value} {named named' foreign foreign' : Bool} {got : Got} {after : List ℕ}
    → found ≡ found' → named ≡ named' → foreign ≡ foreign'
    → Read img found bytes attributes buffer named foreign got after → Read img found' bytes attributes buffer named' foreign' got after
read_as img bytes attributes buffer {found} {found'} {named} {named'} {foreign} {foreign'} {got} {after} f n o h =
    subst (λ (x : Maybe Value). Read img x bytes attributes buffer named' foreign' got after) f
    (subst (λ (x : Bool). Read img found bytes attributes buffer x foreign' got after) n
    (subst (λ (x : Bool). Read img found bytes attributes buffer named x got after) o h))

-- the region that was cut
pub region-get : (runtime : Bool) (k : Key) (img r : List ℕ) → r ≡ region img → value_to_get runtime k (values (entries r)) ≡ value_to_get runtime k (values_of img)
unfolding values_in
region-get runtime k img r p = ap (λ (x : List ℕ). value_to_get runtime k (values (entries x))) p

pub region-name : (v : View) (k : Key) (img r : List ℕ) → r ≡ region img → value_to_name v.vendor v.modem v.runtime k (values (entries r)) ≡ next_at v k img
unfolding values_in
region-name v k img r p = ap (λ (x : List ℕ). value_to_name v.vendor v.modem v.runtime k (values (entries x))) p

-- ---- whole calls, of every session that says what they are given

abbrev GetRead : View → Key → List ℕ → List ℕ → Got → List ℕ → Type 0
GetRead v k buffer img got after =
    Read img (value_to_get v.runtime k (values_of img)) got_bytes (λ v. v.attributes) buffer (well_named k.name) (rule22 v.vendor v.modem k) got after

pub get-answered : (x : Context) (v : View) (k : Key) (buffer img : List ℕ) {got : Got} {after : List ℕ}
    → GetRead v k buffer img got after
    → (m : Bool) (s : Session) → view_of m s ≡ v
    → Returned (book.get m s k buffer) x img img got.answer
    × Gives (get_reply m s k buffer img) got.size got.attributes got.needed after
unfolding plan_of get_reply get_broken view_of rule3 read_broken reply_of
get-answered x v k buffer img {got} {after} r m s e =
    let h : GetRead (view_of m s) k buffer img got after = subst (λ (w : View). GetRead w k buffer img got after) (sym e) r in
    ((h.answer ∙ sym (no_stores x (get_broken m s k buffer img) img), sym (reading-image x (book.get m s k buffer) img refl)), (h.size, h.attributes, h.needed, h.buffer))

-- a name has no attributes
no-attributes : (m : Bool) (s : Session) (k : Key) (buffer img : List ℕ) → (next_reply m s k buffer img).attributes ≡ 0
unfolding next_reply refusal written
no-attributes m s k buffer img = go (next_broken m s k buffer img) (value_named m s k img)
  where
    go : (o : Maybe Rule) (v : Maybe Value)
        → (on_some o (λ rule. refusal rule (on_some v (λ w. length (named_bytes w)) 0) buffer) (on_some v (λ w. written (named_bytes w) 0 buffer) (written [] 0 buffer))).attributes ≡ 0
    go (some rule) v = refl
    go none (some w) = refl
    go none none = refl

pub next-answered : (x : Context) (v : View) (k : Key) (buffer img : List ℕ) {got : Got} {after : List ℕ}
    → Answered (next_broken_at v k buffer img) (next_reply_at v k buffer img) got after
    → (m : Bool) (s : Session) → view_of m s ≡ v
    → Returned (book.next m s k buffer) x img img got.answer
    × Gives (next_reply m s k buffer img) got.size 0 got.needed after
unfolding plan_of next_reply next_broken view_of rule3_next read_broken reply_of
next-answered x v k buffer img {got} {after} r m s e =
    let h : Answered (next_broken_at (view_of m s) k buffer img) (next_reply_at (view_of m s) k buffer img) got after =
    subst (λ (w : View). Answered (next_broken_at w k buffer img) (next_reply_at w k buffer img) got after) (sym e) r in
    ((h.answer ∙ sym (no_stores x (next_broken m s k buffer img) img), sym (reading-image x (book.next m s k buffer) img refl)), (h.size, sym (no-attributes m s k buffer img), h.needed, h.buffer))
