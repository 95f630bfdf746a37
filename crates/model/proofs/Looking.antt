-- What the rules of a set look at among the values: its own name, and PK and PlatMode where it names a key. So lists that agree there are judged alike, and changes of
-- other names do not matter. A set's change is about its own name, and says by itself what stands there after it.
-- Assumes nothing.
use Prim.Native.Nat.{ℕ}
use native.Mathlib.Omega.{arith}
use mathlib.Core.Path.{◌≡◌, refl, sym, ap, ◌∙◌}
use mathlib.Core.Bool.{Bool, true, false, not, cond, ◌&&◌, ◌||◌, true≢false}
use mathlib.Core.List.{List, [], ◌∷◌, ◌++◌}
use mathlib.Core.Option.{Option, none, some}
use lib.ListN.{length}
use Rattle.model.specs.declared.Terms.{Terms}
use Rattle.model.specs.declared.PlatMode.{PlatMode}
use Rattle.model.specs.Lists.{keep, first, is_some, on_some}
use Rattle.model.specs.Name.{Key, same_key_def}
use Rattle.model.specs.Entry.{Value, key_of}
use Rattle.model.specs.Region.{find}
use Rattle.model.specs.Request.{Request, request_key, data_proper, is_key_name_def, key_pk, key_mode, audit_mode, deployed_mode, mode_value, user_mode_def, stores_mode, mode_of, wanted_verdicts}
use Rattle.model.specs.Change.{Change, nothing, remove, put, deletes, empty_append_def, equal_to, new_value, change_of, change_in, without_mode, beside_pk, changes_of, step, steps, without, leaves}
use Rattle.model.specs.Rules.{wanted_of, standing_rules, item_rules}
use Rattle.model.proofs.Tests.{key-refl, key-eq, key-sym}

-- the mode is asked for key names only
wanted-alike : (t : Terms) (r : Request) (u m : PlatMode) (old : Option Value) → (is_key_name_def (request_key r) ≡ true → u ≡ m) → wanted_of t r u old ≡ wanted_of t r m old
unfolding wanted_verdicts
wanted-alike t r u m old h = go (is_key_name_def (request_key r)) refl
  where
    go : (b : Bool) → is_key_name_def (request_key r) ≡ b → wanted_of t r u old ≡ wanted_of t r m old
    go true e = rw (e, h e)
    go false e = rw e

module _ (t : Terms) (r : Request) (ws vs : List Value) (looked : find (request_key r) ws ≡ find (request_key r) vs)
    (mode : is_key_name_def (request_key r) ≡ true → mode_of ws ≡ mode_of vs) where
  pub change-alike : change_in r ws ≡ change_in r vs
  unfolding change_in
  change-alike = ap (change_of r) looked

  pub items_alike : item_rules t r ws ≡ item_rules t r vs
  unfolding item_rules standing_rules
  items_alike = rw (looked, wanted-alike t r (mode_of ws) (mode_of vs) (find (request_key r) vs) mode)

-- ---- changes of other names

-- a change is about other names than k
abbrev pub Other : Key → Change → Type 0
Other k nothing = Unit {0}
Other k (remove j) = same_key_def j k ≡ false
Other k (put v) = same_key_def (key_of v) k ≡ false

find-without : (k j : Key) (vs : List Value) → same_key_def j k ≡ false → find k (without j vs) ≡ find k vs
unfolding find without
find-without k j [] n = refl
find-without k j (v ∷ vs) n = go (same_key_def (key_of v) j) refl (same_key_def (key_of v) k) refl (find-without k j vs n)
  where
    go : (x : Bool) → same_key_def (key_of v) j ≡ x → (y : Bool) → same_key_def (key_of v) k ≡ y
        → first (λ w. same_key_def (key_of w) k) (keep (λ w. not (same_key_def (key_of w) j)) vs) ≡ first (λ w. same_key_def (key_of w) k) vs
        → first (λ w. same_key_def (key_of w) k) (cond (not (same_key_def (key_of v) j)) (v ∷ keep (λ w. not (same_key_def (key_of w) j)) vs) (keep (λ w. not (same_key_def (key_of w) j)) vs))
        ≡ cond (same_key_def (key_of v) k) (some v) (first (λ w. same_key_def (key_of w) k) vs)
    go true e true f i = absurd (true≢false (sym f ∙ ap (λ (l : Key). same_key_def l k) (key-eq (key_of v) j e) ∙ n))
    go true e false f i = simp (e, f) i
    go false e true f i = simp (e, f)
    go false e false f i = simp (e, f) i

find-last : (k : Key) (vs : List Value) (v : Value) → same_key_def (key_of v) k ≡ false → find k (vs ++ (v ∷ [])) ≡ find k vs
unfolding find
find-last k [] v n = rw n
find-last k (x ∷ vs) v n = ap (λ (o : Option Value). cond (same_key_def (key_of x) k) (some x) o) (find-last k vs v n)

pub find-step : (k : Key) (c : Change) (vs : List Value) → Other k c → find k (step c vs) ≡ find k vs
unfolding step
find-step k nothing vs o = refl
find-step k (remove j) vs o = find-without k j vs o
find-step k (put v) vs o = find-last k (without (key_of v) vs) v o ∙ find-without k (key_of v) vs o

abbrev pub Others : Key → List Change → Type 0
Others k [] = Unit {0}
Others k (c ∷ cs) = Other k c × Others k cs

pub find-steps : (k : Key) (cs : List Change) (vs : List Value) → Others k cs → find k (steps cs vs) ≡ find k vs
unfolding steps
find-steps k [] vs o = refl
find-steps k (c ∷ cs) vs o = find-steps k cs (step c vs) o.1 ∙ find-step k c vs o.0

-- the mode is by PK and PlatMode
pub mode-alike : (ws vs : List Value) → find key_pk ws ≡ find key_pk vs → find key_mode ws ≡ find key_mode vs → mode_of ws ≡ mode_of vs
unfolding mode_of user_mode_def stores_mode
mode-alike ws vs p m = rw (p, m)

-- an item is judged as on the values alone where those before it change neither its name nor PK nor PlatMode
pub item-alone : (t : Terms) (r : Request) (cs : List Change) (vs : List Value) → Others (request_key r) cs → Others key_pk cs → Others key_mode cs
    → item_rules t r (steps cs vs) ≡ item_rules t r vs
item-alone t r cs vs o p m =
    items_alike t r (steps cs vs) vs (find-steps (request_key r) cs vs o)
    (λ e. mode-alike (steps cs vs) vs (find-steps key_pk cs vs p) (find-steps key_mode cs vs m))

-- ---- a change of the name itself

-- a change is about the name k
abbrev pub Own : Key → Change → Type 0
Own k nothing = Unit {0}
Own k (remove j) = j ≡ k
Own k (put v) = key_of v ≡ k

-- a set's change by cases: a delete, nothing, or a put of the new value
pub change-cases : (P : Change → Type 0) (r : Request) (old : Option Value) → P (remove (request_key r)) → P nothing → P (put (new_value r old)) → P (change_of r old)
unfolding change_of
change-cases P r old x y z =
    go (deletes r.attributes (length (data_proper r)))
    (empty_append_def r.attributes (length (data_proper r)) || on_some old (λ v. equal_to r.attributes (data_proper r) v.attributes v.bytes) false)
  where
    go : (d e : Bool) → P (cond d (remove (request_key r)) (cond e nothing (put (new_value r old))))
    go true e = x
    go false true = y
    go false false = z

pub change-own : (r : Request) (old : Option Value) → Own (request_key r) (change_of r old)
unfolding new_value
change-own r old = change-cases (Own (request_key r)) r old refl tt refl

-- so it is about no other
own-other : (j k : Key) (c : Change) → Own j c → same_key_def j k ≡ false → Other k c
own-other j k nothing o h = tt
own-other j k (remove i) o h = rw o h
own-other j k (put v) o h = ap (λ (i : Key). same_key_def i k) o ∙ h

pub other-change : (k : Key) (r : Request) (vs : List Value) → same_key_def (request_key r) k ≡ false → Other k (change_in r vs)
unfolding change_in
other-change k r vs h = own-other (request_key r) k (change_of r (find (request_key r) vs)) (change-own r (find (request_key r) vs)) h

-- a name that was taken out is not there, and one that comes last is
find-out : (k : Key) (vs : List Value) → find k (without k vs) ≡ none
unfolding find without
find-out k [] = refl
find-out k (v ∷ vs) = go (same_key_def (key_of v) k) refl (find-out k vs)
  where
    go : (x : Bool) → same_key_def (key_of v) k ≡ x
        → first (λ w. same_key_def (key_of w) k) (keep (λ w. not (same_key_def (key_of w) k)) vs) ≡ none
        → first (λ w. same_key_def (key_of w) k) (cond (not (same_key_def (key_of v) k)) (v ∷ keep (λ w. not (same_key_def (key_of w) k)) vs) (keep (λ w. not (same_key_def (key_of w) k)) vs)) ≡ none
    go true e i = simp e i
    go false e i = simp e i

find-added : (k : Key) (vs : List Value) (v : Value) → same_key_def (key_of v) k ≡ true → find k vs ≡ none → find k (vs ++ (v ∷ [])) ≡ some v
unfolding find
find-added k [] v e n = rw e
find-added k (x ∷ vs) v e n = go (same_key_def (key_of x) k) n (find-added k vs v e)
  where
    go : (b : Bool) → cond b (some x) (find k vs) ≡ none → (find k vs ≡ none → find k (vs ++ (v ∷ [])) ≡ some v)
        → cond b (some x) (find k (vs ++ (v ∷ []))) ≡ some v
    go true n i = let z : ◌≡◌ {A = ℕ} 0 1 = cc in absurd (omega arith)
    go false n i = i n

pub find-own : (k : Key) (c : Change) (vs : List Value) → Own k c → find k (step c vs) ≡ leaves c (find k vs)
unfolding step leaves
find-own k nothing vs o = refl
find-own k (remove j) vs o = rw o (find-out k vs)
find-own k (put v) vs o = rw o (find-added k (without k vs) v (ap (λ (i : Key). same_key_def i k) o ∙ key-refl k) (find-out k vs))

-- what stands under a set's name after its change
pub find-changed : (r : Request) (vs : List Value) → find (request_key r) (step (change_in r vs) vs) ≡ leaves (change_in r vs) (find (request_key r) vs)
unfolding change_in
find-changed r vs = find-own (request_key r) (change_in r vs) vs (change-own r (find (request_key r) vs))

-- ---- PlatMode's change beside one of PK

-- beside a change of another name there is none
pub beside_none : (c : Change) (vs : List Value) → Other key_pk c → beside_pk c vs ≡ []
unfolding beside_pk
beside_none nothing vs o = refl
beside_none (remove k) vs o = rw o
beside_none (put v) vs o = rw o

-- it is about PlatMode
pub without_other : (k : Key) (vs : List Value) → same_key_def key_mode k ≡ false → Others k (without_mode vs)
without_other k vs h = go (is_some (find key_mode vs))
  where
    go : (t : Bool) → Others k (cond t (remove key_mode ∷ []) [])
    go true = (h, tt)
    go false = tt

pub beside-other : (k : Key) (c : Change) (vs : List Value) → same_key_def key_mode k ≡ false → Others k (beside_pk c vs)
unfolding beside_pk mode_value
beside-other k nothing vs h = tt
beside-other k (remove j) vs h = go (same_key_def j key_pk)
  where
    go : (t : Bool) → Others k (cond t (without_mode vs) [])
    go true = without_other k vs h
    go false = tt
beside-other k (put v) vs h = go (same_key_def (key_of v) key_pk && not (user_mode_def vs)) (stores_mode audit_mode vs)
  where
    go : (t a : Bool) → Others k (cond t (cond a (put (mode_value deployed_mode) ∷ []) (without_mode vs)) [])
    go true true = (h, tt)
    go true false = without_other k vs h
    go false a = tt

-- so a set that does not name PlatMode leaves under its name what its own change says
pub find-changes : (r : Request) (vs : List Value) → same_key_def (request_key r) key_mode ≡ false
    → find (request_key r) (steps (changes_of r vs) vs) ≡ leaves (change_in r vs) (find (request_key r) vs)
unfolding changes_of steps
find-changes r vs h =
    find-steps (request_key r) (beside_pk (change_in r vs) vs) (step (change_in r vs) vs)
    (beside-other (request_key r) (change_in r vs) vs (key-sym key_mode (request_key r) ∙ h))
    ∙ find-changed r vs
