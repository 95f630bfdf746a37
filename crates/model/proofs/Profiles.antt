-- A profile that breaks no rule: the image is ready, what its items put can be stored, and all values fit. No two of its items share a name, so what each leaves under its
-- name stays.
-- Assumes nothing.
use Prim.Native.Nat.{ℕ}
use native.Mathlib.Omega.{arith}
use mathlib.Core.Path.{◌≡◌, ◌∙◌}
use mathlib.Core.Bool.{Bool, true, false}
use mathlib.Core.List.{List, [], ◌∷◌, ◌++◌}
use mathlib.Core.Option.{Option, none}
use lib.ListN.{length}
use borrow.Author.Tests.{not-false}
use Rattle.model.specs.declared.Session.{Session}
use Rattle.model.specs.declared.Rule.{Rule}
use Rattle.model.specs.declared.Rule.TheVariants.{File, Twice, Room}
use Rattle.model.specs.Layout.{authenticated}
use Rattle.model.specs.Lists.{any, is_some}
use Rattle.model.specs.Image.{right_length, region_size}
use Rattle.model.specs.Name.{Key, same_key_def}
use Rattle.model.specs.Entry.{Value}
use Rattle.model.specs.Region.{values_of, find}
use Rattle.model.specs.Work.{ready_for_call}
use Rattle.model.specs.Request.{Request, request_key}
use Rattle.model.specs.Profile.{items_in, shares_name_def}
use Rattle.model.specs.Limits.{limits_for}
use Rattle.model.specs.Change.{Change, remove, put, change_in, changes_in, step, steps, leaves}
use Rattle.model.specs.Rules.{first_broken, rule1, rule2_in, rule21, rule13, rule25, rule26, terms_for_def, terms_of, image_rules, image_rules_in, item_rules, setting_rules, items_rules, profile_rules, profile_broken}
use Rattle.model.specs.Beside.{Valid, EachItem}
use Rattle.model.proofs.Tests.{or_split}
use Rattle.model.proofs.Encode.{AllValid}
use Rattle.model.proofs.Changes.{EachPut, Fitting, step-valid, room_after}
use Rattle.model.proofs.Files.{file-vendors}
use Rattle.model.proofs.Looking.{Others, other-change, find-steps, find-changed}
use Rattle.model.proofs.Requests.{none-append, unbroken, item-valid, item-present, image-valid, image-fits}

-- the rules of the first item, and of the others
module _ (m : Bool) (s : Session) (r : Request) (rs : List Request) (vs : List Value) (h : first_broken (items_rules m s (r ∷ rs) vs) ≡ none) where
  abbrev own : List (Rule × Bool)
  own = item_rules (terms_of m s (request_key r)) r vs

  abbrev for-name : List (Rule × Bool)
  for-name = setting_rules (limits_for s.setup (request_key r)) r (find (request_key r) vs)

  both : (first_broken (own ++ for-name) ≡ none) × (first_broken (items_rules m s rs (step (change_in r vs) vs)) ≡ none)
  unfolding items_rules
  both = none-append (own ++ for-name) (items_rules m s rs (step (change_in r vs) vs)) h

  pub first-own : first_broken (item_rules (terms_of m s (request_key r)) r vs) ≡ none
  first-own = (none-append own for-name both.0).0

  pub others-kept : first_broken (items_rules m s rs (step (change_in r vs) vs)) ≡ none
  others-kept = both.1

  first-tried : rule21 (limits_for s.setup (request_key r)) (change_in r vs) (find (request_key r) vs) ≡ false
  unfolding setting_rules change_in
  first-tried = unbroken for-name 21 (none-append own for-name both.0).1

pub items-valid : (m : Bool) (s : Session) (rs : List Request) (vs : List Value) → first_broken (items_rules m s rs vs) ≡ none → EachItem (λ r. length r.vendor ≡ 16) rs
    → AllValid authenticated vs → EachPut Valid (changes_in rs vs)
unfolding changes_in
items-valid m s [] vs h long valid = tt
items-valid m s (r ∷ rs) vs h long valid =
    let here : (v : Value) → change_in r vs ≡ put v → Valid v = λ v c. item-valid (terms_of m s (request_key r)) r vs (first-own m s r rs vs h) valid v c long.0 in
    (here, items-valid m s rs (step (change_in r vs) vs) (others-kept m s r rs vs h) long.1 (step-valid (change_in r vs) vs here valid))

-- a single change of a list of items that removes a value is of one that is there
items-present : (m : Bool) (s : Session) (rs : List Request) (vs : List Value) → first_broken (items_rules m s rs vs) ≡ none
    → (k : Key) → changes_in rs vs ≡ remove k ∷ [] → is_some (find k vs) ≡ true
unfolding changes_in
items-present m s [] vs h k e = let z : ◌≡◌ {A = ℕ} 0 1 = cc in absurd (omega arith)
items-present m s (r ∷ rs) vs h k e =
    item-present (terms_of m s (request_key r)) r vs (first-own m s r rs vs h) k (only e)
  where
    only : change_in r vs ∷ changes_in rs (step (change_in r vs) vs) ≡ remove k ∷ [] → change_in r vs ≡ remove k
    only e = cc

-- ---- a profile

module _ (m : Bool) (s : Session) (file : List ℕ) (img : List ℕ) (accepted : profile_broken m s file img ≡ none) where
  abbrev items : List Request
  items = items_in file

  abbrev form : List (Rule × Bool)
  form = (File, rule25 file) ∷ (Twice, rule26 items) ∷ []

  abbrev room : List (Rule × Bool)
  room = (Room, rule13 (terms_for_def m s) (region_size img) (changes_in items (values_of img)) (values_of img)) ∷ []

  before-room : (first_broken (image_rules img ++ form ++ items_rules m s items (values_of img)) ≡ none) × (first_broken room ≡ none)
  unfolding profile_broken profile_rules
  before-room = none-append (image_rules img ++ form ++ items_rules m s items (values_of img)) room accepted

  first-rules : (first_broken (image_rules img ++ form) ≡ none) × (first_broken (items_rules m s items (values_of img)) ≡ none)
  first-rules = none-append (image_rules img ++ form) (items_rules m s items (values_of img)) before-room.0

  pub profile-length : right_length img ≡ true
  unfolding image_rules_in rule1
  profile-length = not-false (right_length img) (unbroken _ 1 first-rules.0)

  pub profile-ready : ready_for_call img ≡ true
  unfolding image_rules_in rule2_in
  profile-ready = not-false (ready_for_call img) (unbroken _ 2 first-rules.0)

  pub profile-apart : shares_name_def items ≡ false
  unfolding image_rules_in rule26
  profile-apart = unbroken _ 26 first-rules.0

  pub profile-items : first_broken (items_rules m s items (values_of img)) ≡ none
  profile-items = first-rules.1

  pub profile-room : rule13 (terms_for_def m s) (region_size img) (changes_in items (values_of img)) (values_of img) ≡ false
  profile-room = unbroken _ 13 before-room.1

  pub profile-fitting : Fitting (changes_in items (values_of img)) (values_of img) (region_size img)
  profile-fitting = record {
    valid = items-valid m s items (values_of img) profile-items (file-vendors file) (image-valid img profile-length profile-ready);
    room = room_after (terms_for_def m s) (region_size img) (changes_in items (values_of img)) (values_of img) profile-room (image-fits img profile-length profile-ready);
    there = items-present m s items (values_of img) profile-items;
  }

-- ---- items with names of their own

others_apart : (k : Key) (rs : List Request) (vs : List Value) → any (λ q. same_key_def (request_key q) k) rs ≡ false → Others k (changes_in rs vs)
unfolding changes_in
others_apart k [] vs h = tt
others_apart k (r ∷ rs) vs h =
    let p = or_split (same_key_def (request_key r) k) (any (λ q. same_key_def (request_key q) k) rs) h in
    (other-change k r vs p.0, others_apart k rs (step (change_in r vs) vs) p.1)

-- what stands under an item's name in the end is what its own change left there, on which 21 was tried
pub items-tried : (m : Bool) (s : Session) (P : Request → Option Value → Type 0)
    → ((r : Request) (c : Change) (old : Option Value) → rule21 (limits_for s.setup (request_key r)) c old ≡ false → P r (leaves c old))
    → (rs : List Request) (vs : List Value) → shares_name_def rs ≡ false → first_broken (items_rules m s rs vs) ≡ none
    → EachItem (λ r. P r (find (request_key r) (steps (changes_in rs vs) vs))) rs
unfolding changes_in steps shares_name_def
items-tried m s P f [] vs apart h = tt
items-tried m s P f (r ∷ rs) vs apart h =
    let p = or_split (any (λ q. same_key_def (request_key q) (request_key r)) rs) (shares_name_def rs) apart in
    let vs' = step (change_in r vs) vs in
    let left : find (request_key r) (steps (changes_in rs vs') vs') ≡ leaves (change_in r vs) (find (request_key r) vs) =
    find-steps (request_key r) (changes_in rs vs') vs' (others_apart (request_key r) rs vs' p.0) ∙ find-changed r vs in
    (rw left (f r (change_in r vs) (find (request_key r) vs) (first-tried m s r rs vs h)), items-tried m s P f rs vs' p.1 (others-kept m s r rs vs h))
