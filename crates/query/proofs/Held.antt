-- The entries found hold the values that the rules name: an entry and its value have one name, GUID and attributes, so each test passes over the list of
-- entries as over the list of their values.
-- Assumes nothing.
use Prim.Native.Nat.{ℕ}
use mathlib.Core.Path.{◌≡◌, refl, ap, ◌∙◌, fun_ext}
use mathlib.Core.Bool.{Bool, true, false, cond, ◌&&◌, and-true}
use mathlib.Core.List.{List, [], ◌∷◌, map}
use mathlib.Core.Option.{Option, none, some}
use Rattle.model.specs.Lists.{same, keep, first, head, on_some}
use Rattle.model.specs.Name.{Key, same_key_def, empty_name}
use Rattle.model.specs.Entry.{Value, key_of}
use Rattle.model.specs.Walk.{Entry, entry_key, entry_value_def}
use Rattle.model.specs.Region.{is_value, values, find}
use Rattle.model.specs.Request.{runtime_access_def}
use Rattle.model.specs.Rules.{following, seen, value_to_get, next_of, value_to_name}
use Rattle.model.specs.Sides.{owns, view}
use Rattle.model.proofs.Values.{keep-twice}
use Rattle.query.specs.Query.{is_seen_def, is_shown_def, entry_to_get, entry_following, entry_to_name}

-- the value of an entry, where there is one
abbrev pub value_in : Option Entry → Option Value
value_in o = on_some o (λ e. some (entry_value_def e)) none

-- the values of the entries that pass two tests, the second on the value
keep-values : (f : Entry → Bool) (g : Value → Bool) (es : List Entry)
    → map entry_value_def (keep (λ e. f e && g (entry_value_def e)) es) ≡ keep g (map entry_value_def (keep f es))
keep-values f g [] = refl
keep-values f g (e ∷ es) = go (f e) (g (entry_value_def e)) refl (keep-values f g es)
  where
    go : (s t : Bool) → g (entry_value_def e) ≡ t → map entry_value_def (keep (λ x. f x && g (entry_value_def x)) es) ≡ keep g (map entry_value_def (keep f es))
        → map entry_value_def (cond (s && t) (e ∷ keep (λ x. f x && g (entry_value_def x)) es) (keep (λ x. f x && g (entry_value_def x)) es))
        ≡ keep g (map entry_value_def (cond s (e ∷ keep f es) (keep f es)))
    go true true q i = rw q (ap (λ (vs : List Value). entry_value_def e ∷ vs) i)
    go true false q i = rw q i
    go false t q i = i

-- the entries that are seen hold the values that are seen
seen-values : (runtime : Bool) (es : List Entry) → map entry_value_def (keep (is_seen_def runtime es) es) ≡ seen runtime (values es)
unfolding is_seen_def seen values
seen-values true es = keep-values (is_value es) (λ v. runtime_access_def v.attributes) es
seen-values false es =
    let same : (λ (e : Entry). is_value es e && true) ≡ is_value es = fun_ext (λ e. and-true (is_value es e)) in
    ap (λ (f : Entry → Bool). map entry_value_def (keep f es)) same

find-values : (k : Key) (es : List Entry) → value_in (first (λ e. same_key_def (entry_key e) k) es) ≡ find k (map entry_value_def es)
unfolding find
find-values k [] = refl
find-values k (e ∷ es) = go (same_key_def (entry_key e) k) (find-values k es)
  where
    go : (t : Bool) → value_in (first (λ x. same_key_def (entry_key x) k) es) ≡ find k (map entry_value_def es)
        → value_in (cond t (some e) (first (λ x. same_key_def (entry_key x) k) es)) ≡ cond t (some (entry_value_def e)) (find k (map entry_value_def es))
    go true i = refl
    go false i = i

head-values : (es : List Entry) → value_in (head es) ≡ head (map entry_value_def es)
head-values [] = refl
head-values (e ∷ es) = refl

following-values : (k : Key) (es : List Entry) → value_in (entry_following k es) ≡ following k (map entry_value_def es)
unfolding entry_following following
following-values k [] = refl
following-values k (e ∷ es) = go (same_key_def (entry_key e) k) (following-values k es)
  where
    go : (t : Bool) → value_in (entry_following k es) ≡ following k (map entry_value_def es)
        → value_in (cond t (head es) (entry_following k es)) ≡ cond t (head (map entry_value_def es)) (following k (map entry_value_def es))
    go true i = head-values es
    go false i = i

-- the value to get, and the value to name
pub get_value : (runtime : Bool) (k : Key) (es : List Entry) → value_in (entry_to_get runtime k es) ≡ value_to_get runtime k (values es)
unfolding entry_to_get value_to_get
get_value runtime k es = find-values k (keep (is_seen_def runtime es) es) ∙ ap (find k) (seen-values runtime es)

-- what a side is shown: its own of those that are seen, or those seen of its own
shown-values : (guid : List ℕ) (modem runtime : Bool) (es : List Entry) → map entry_value_def (keep (is_shown_def guid modem runtime es) es) ≡ seen runtime (view guid modem (values es))
unfolding is_shown_def view seen
shown-values guid modem runtime es =
    keep-values (is_seen_def runtime es) (λ v. owns guid modem (key_of v)) es
    ∙ ap (keep (λ v. owns guid modem (key_of v))) (seen-values runtime es)
    ∙ go runtime
  where
    go : (t : Bool) → keep (λ v. owns guid modem (key_of v)) (cond t (keep (λ v. runtime_access_def v.attributes) (values es)) (values es))
        ≡ cond t (keep (λ v. runtime_access_def v.attributes) (keep (λ v. owns guid modem (key_of v)) (values es))) (keep (λ v. owns guid modem (key_of v)) (values es))
    go true = keep-twice (λ v. owns guid modem (key_of v)) (λ v. runtime_access_def v.attributes) (values es)
    go false = refl

pub name-value : (guid : List ℕ) (modem runtime : Bool) (k : Key) (es : List Entry)
    → value_in (entry_to_name guid modem runtime k es) ≡ value_to_name guid modem runtime k (values es)
unfolding entry_to_name value_to_name next_of
name-value guid modem runtime k es = go (same k.name empty_name)
  where
    go : (t : Bool) → value_in (cond t (head (keep (is_shown_def guid modem runtime es) es)) (entry_following k (keep (is_shown_def guid modem runtime es) es)))
        ≡ cond t (head (seen runtime (view guid modem (values es)))) (following k (seen runtime (view guid modem (values es))))
    go true = head-values (keep (is_shown_def guid modem runtime es) es) ∙ ap head (shown-values guid modem runtime es)
    go false = following-values k (keep (is_shown_def guid modem runtime es) es) ∙ ap (following k) (shown-values guid modem runtime es)
