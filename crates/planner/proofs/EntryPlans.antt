-- The plans write what the definitions have written: by the cases of what was found.
-- Assumes nothing.
use Prim.Native.Nat.{ℕ, ◌+◌, ◌-◌}
use native.Mathlib.Omega.{arith}
use mathlib.Core.Path.{◌≡◌, refl, sym, ap, ap₂, ◌∙◌}
use mathlib.Core.Bool.{true}
use mathlib.Core.List.{List, [], ◌∷◌, ◌++◌, append_assoc, append-nil}
use mathlib.Core.Option.{Option as Maybe, none, some}
use Rattle.std.specs.Prelude.{Option, Some, None}
use lib.ListN.{length, get_or, take, drop, replicate, length-append, length-replicate}
use lib.Seq.{take_at, drop_at}
use lib.Dec.{eqb}
use borrow.Author.Tests.{eqb-true}
use Rattle.model.specs.Lists.{part, first, is_some, on_some, or_else}
use Rattle.model.specs.Name.{Key, same_key_def}
use Rattle.model.specs.Entry.{Value, key_of, plain_size, entry_size_def, header_front, header_rest, entry_bytes, entry_bytes_in, extra_bytes, header_rest_in}
use Rattle.model.specs.Walk as walk
use Rattle.model.specs.Region.{is_entry_def, added, replacing, standing}
use Rattle.model.specs.Set.{mark_state, leftover, entry_stores, tail_to, tail_on, delete_to}
use Rattle.model.proofs.Tests.{and_split}
use Rattle.model.proofs.Values.{found}
use Rattle.values.specs.Found.{found_of, else_found}
use Rattle.region.specs.declared.Placed.{Placed}
use Rattle.values.specs.declared.Places.{Places}
use Rattle.values.proofs.Finds.{found-else}
use Rattle.plan.specs.declared.Step.{Step}
use Rattle.plan.specs.declared.Step.TheVariants as step
use Rattle.plan.specs.Plan.{is_mark, stores_of_step, expand}
use Rattle.planner.specs.Entries.{on_found, Below, mark_found_def, leftover_step, remove_step, retire_step, delete_plan, tail_plan}

pub standing-below : (end : ℕ) (x y : Option Placed) → Below end x → Below end y → Below end (else_found x y)
standing-below end (Some p) y h k = h
standing-below end None y h k = k

-- ---- one operation

mark-stores : (c : List ℕ) (o : Maybe walk.Entry) (v : ℕ) → stores_of_step c (mark_found_def (found_of o) v) ≡ on_some o (λ e. mark_state e.at v) []
unfolding stores_of_step mark_found_def
mark-stores c (some e) v = refl
mark-stores c none v = refl

leftover-stores : (c : List ℕ) (a r : Maybe walk.Entry)
    → stores_of_step c (on_found {A = Step} (found_of a) (λ at e. mark_found_def (found_of r) 0x3C) step.Nothing)
    ≡ on_some a (λ f. on_some r (λ e. mark_state e.at 0x3C) []) []
unfolding stores_of_step
leftover-stores c (some a) r = mark-stores c r 0x3C
leftover-stores c none r = refl

-- the entries found have the states that they were sought by
abbrev Stated : ℕ → Maybe walk.Entry → Type 0
Stated state (some e) = walk.state_of e ≡ state
Stated state none = Unit {0}

remove-stores : (c : List ℕ) (a r : Maybe walk.Entry) → Stated 0x3F a → Stated 0x3E r
    → stores_of_step c (on_found {A = Step} (found_of a) (λ at e. mark_found_def (found_of a) 0x3D) (mark_found_def (found_of r) 0x3C))
    ≡ on_some (or_else a r) (λ e. mark_state e.at (walk.state_of e - 0x02)) []
unfolding stores_of_step mark_found_def
remove-stores c (some a) r h k = ap (λ (s : ℕ). mark_state a.at (s - 0x02)) (sym h)
remove-stores c none (some r) h k = ap (λ (s : ℕ). mark_state r.at (s - 0x02)) (sym k)
remove-stores c none none h k = refl

remove-mark : (a r : Maybe walk.Entry) → is_some (or_else a r) ≡ true
    → is_mark (on_found {A = Step} (found_of a) (λ at e. mark_found_def (found_of a) 0x3D) (mark_found_def (found_of r) 0x3C)) ≡ true
unfolding mark_found_def
remove-mark (some a) r h = refl
remove-mark none (some r) h = refl
remove-mark none none h = h

-- as `remove` comes to it
pub on-found : (x : Option Placed) (a d : Step) {p : Placed} → x ≡ Some p → a ≡ on_found {A = Step} x (λ at e. a) d
on-found x a d p = rw p

-- ---- what was found of a name is what the entries hold of it

sought : (state : ℕ) (k : Key) (es : List walk.Entry) (o : Maybe walk.Entry) → first (is_entry_def state k) es ≡ o → Stated state o
sought state k es (some e) h =
    let g = found (is_entry_def state k) es e h in
    eqb-true (walk.state_of e) state (and_split (eqb (walk.state_of e) state) (same_key_def (walk.entry_key e) k) g.passes).0
sought state k es none h = tt

module _ (c : List ℕ) (places : Places) (k : Key) (es : List walk.Entry) (is-added : places.added ≡ found_of (added k es))
    (is-replacing : places.replacing ≡ found_of (replacing k es)) where
  leftover-is : stores_of_step c (leftover_step places) ≡ leftover k es
  unfolding leftover_step leftover
  leftover-is = rw (is-added, is-replacing) (leftover-stores c (added k es) (replacing k es))

  remove-is : stores_of_step c (remove_step places) ≡ on_some (standing k es) (λ e. mark_state e.at (walk.state_of e - 0x02)) []
  unfolding remove_step standing added replacing
  remove-is =
      rw (is-added, is-replacing)
      (remove-stores c (added k es) (replacing k es) (sought 0x3F k es (added k es) refl) (sought 0x3E k es (replacing k es) refl))

  retire-is : stores_of_step c (retire_step places) ≡ on_some (standing k es) (λ e. mark_state e.at 0x3C) []
  unfolding retire_step standing
  retire-is = rw (is-added, is-replacing, ← found-else (added k es) (replacing k es)) (mark-stores c (or_else (added k es) (replacing k es)) 0x3C)

  replace-is : stores_of_step c (mark_found_def places.added 0x3E) ≡ on_some (added k es) (λ e. mark_state e.at 0x3E) []
  replace-is = rw is-added (mark-stores c (added k es) 0x3E)

  -- *a delete's plan is its list of stores*
  pub delete-is : expand c (delete_plan places) ≡ delete_to k es
  unfolding expand stores_of_step delete_plan delete_to
  delete-is = rw (leftover-is, remove-is, append-nil)

  pub delete-to : expand c (take 2 (delete_plan places)) ≡ delete_to k es
  unfolding expand stores_of_step delete_plan delete_to
  delete-to = rw (leftover-is, remove-is, append-nil)

  pub delete-on : expand c (drop 2 (delete_plan places)) ≡ []
  unfolding expand stores_of_step delete_plan
  delete-on = refl

  -- a delete marks the entry that stands
  pub remove-marks : is_some (standing k es) ≡ true → is_mark (remove_step places) ≡ true
  unfolding remove_step standing
  remove-marks h = rw (is-added, is-replacing) (remove-mark (added k es) (replacing k es) h)

  -- the entry that stands
  pub standing-is : else_found places.added places.replacing ≡ found_of (standing k es)
  unfolding standing
  standing-is = ap₂ else_found is-added is-replacing ∙ sym (found-else (added k es) (replacing k es))

-- what the content holds of a value: its entry's header with FF in the place of its state, name and data
pub record Holds (c : List ℕ) (v : Value) : Type 0 where
  pub front : part 0 2 c ≡ header_front
  pub blank : get_or c 2 0 ≡ 0xFF
  pub rest : part 3 57 c ≡ header_rest v
  pub name : part 60 (length v.name) c ≡ v.name
  pub bytes : part (60 + length v.name) (length v.bytes) c ≡ v.bytes

-- *a tail write's plan is its list of stores*
pub tail-is : (c : List ℕ) (places : Places) (v : Value) (es : List walk.Entry) → places.added ≡ found_of (added (key_of v) es)
    → places.replacing ≡ found_of (replacing (key_of v) es) → Holds c v → (at : ℕ)
    → expand c (tail_plan places at (length v.name) (length v.bytes)) ≡ tail_to at v es ++ tail_on v es
unfolding expand stores_of_step tail_plan tail_to tail_on entry_stores
tail-is c places v es p q h at =
    rw (leftover-is c places (key_of v) es p q, replace-is c places (key_of v) es p q, retire-is c places (key_of v) es p q, h.front, h.rest, h.name, h.bytes, append-nil)
    (simp append_assoc)

-- up to the deciding store and on from there
pub tail-to : (c : List ℕ) (places : Places) (v : Value) (es : List walk.Entry) → places.added ≡ found_of (added (key_of v) es)
    → places.replacing ≡ found_of (replacing (key_of v) es) → Holds c v → (at : ℕ)
    → expand c (take 7 (tail_plan places at (length v.name) (length v.bytes))) ≡ tail_to at v es
unfolding expand stores_of_step tail_plan tail_to entry_stores
tail-to c places v es p q h at =
    rw (leftover-is c places (key_of v) es p q, replace-is c places (key_of v) es p q, h.front, h.rest, h.name, h.bytes, append-nil)
    (simp append_assoc)

pub tail-on : (c : List ℕ) (places : Places) (v : Value) (es : List walk.Entry) → places.added ≡ found_of (added (key_of v) es)
    → places.replacing ≡ found_of (replacing (key_of v) es) → (at : ℕ)
    → expand c (drop 7 (tail_plan places at (length v.name) (length v.bytes))) ≡ tail_on v es
unfolding expand stores_of_step tail_plan tail_on
tail-on c places v es p q at = rw (retire-is c places (key_of v) es p q, append-nil)

-- an entry's bytes at the front of the content hold its value, with a state of FF
rest-long : (v : Value) → length v.stamp ≡ 16 → length v.vendor ≡ 16 → length (header_rest v) ≡ 57
unfolding header_rest_in extra_bytes
rest-long v s g = simp (length-append, length-replicate) (omega arith)

pub entry-holds : (v : Value) (behind : List ℕ) → length v.stamp ≡ 16 → length v.vendor ≡ 16 → Holds (entry_bytes 0xFF v ++ behind) v
unfolding entry_bytes_in
entry-holds v behind s g =
    let f : List ℕ = header_front in
    let r : List ℕ = header_rest v in
    let z : List ℕ = replicate (entry_size_def v - plain_size v) 0xFF ++ behind in
    let two : length f ≡ 2 = unfold header_front in refl in
    let long : length r ≡ 57 = rest-long v s g in
    let e : f ++ (0xFF ∷ []) ++ r ++ v.name ++ v.bytes ++ replicate (entry_size_def v - plain_size v) 0xFF ++ behind ≡ f ++ (0xFF ∷ (r ++ (v.name ++ (v.bytes ++ z)))) = simp append_assoc in
    let e₃ : f ++ (0xFF ∷ (r ++ (v.name ++ (v.bytes ++ z)))) ≡ (f ++ (0xFF ∷ [])) ++ (r ++ (v.name ++ (v.bytes ++ z))) = simp append_assoc in
    let e₆ : f ++ (0xFF ∷ (r ++ (v.name ++ (v.bytes ++ z)))) ≡ (f ++ (0xFF ∷ r)) ++ (v.name ++ (v.bytes ++ z)) = simp append_assoc in
    let e₇ : f ++ (0xFF ∷ (r ++ (v.name ++ (v.bytes ++ z)))) ≡ (f ++ (0xFF ∷ (r ++ v.name))) ++ (v.bytes ++ z) = simp append_assoc in
    record {
      front = ap (part 0 2) e ∙ take_at f (0xFF ∷ (r ++ (v.name ++ (v.bytes ++ z)))) 2 two;
      blank = ap (λ (l : List ℕ). get_or l 2 0) e ∙ (unfold header_front in refl);
      rest =
          ap (part 3 57) (e ∙ e₃) ∙ ap (take 57) (drop_at (f ++ (0xFF ∷ [])) (r ++ (v.name ++ (v.bytes ++ z))) 3 (length-append f (0xFF ∷ []) ∙ omega arith))
          ∙ take_at r (v.name ++ (v.bytes ++ z)) 57 long;
      name =
          ap (part 60 (length v.name)) (e ∙ e₆)
          ∙ ap (take (length v.name)) (drop_at (f ++ (0xFF ∷ r)) (v.name ++ (v.bytes ++ z)) 60 (length-append f (0xFF ∷ r) ∙ omega arith))
          ∙ take_at v.name (v.bytes ++ z) (length v.name) refl;
      bytes =
          ap (part (60 + length v.name) (length v.bytes)) (e ∙ e₇)
          ∙ ap (take (length v.bytes)) (drop_at (f ++ (0xFF ∷ (r ++ v.name))) (v.bytes ++ z) (60 + length v.name) (length-append f (0xFF ∷ (r ++ v.name)) ∙ (let n = length-append r v.name in omega arith)))
          ∙ take_at v.bytes z (length v.bytes) refl;
    }
