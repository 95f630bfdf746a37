-- Changes of different names, one after the other, leave the values of no changed name in their order, then the values put in theirs: what a compaction writes.
-- Assumes nothing.
use mathlib.Core.Path.{◌≡◌, refl, sym, ap, ◌∙◌, fun_ext}
use mathlib.Core.Bool.{Bool, true, false, not, ◌&&◌, ◌||◌}
use mathlib.Core.List.{List, [], ◌∷◌, ◌++◌, append_assoc, append-nil}
use Rattle.model.specs.Lists.{any, keep}
use Rattle.model.specs.Name.{Key, same_key_def}
use Rattle.model.specs.Entry.{Value, key_of}
use Rattle.model.specs.Region.{find}
use Rattle.model.specs.Request.{Request, request_key}
use Rattle.model.specs.Profile.{shares_name_def}
use Rattle.model.specs.Change.{Change, nothing, remove, put, change_of, change_in, step, steps, without}
use Rattle.model.specs.Beside.{changes_alone, changed_keys, put_values_def, without_all}
use Rattle.model.proofs.Tests.{or_split, key-sym}
use Rattle.model.proofs.Looking.{Others, other-change}
use Rattle.model.proofs.Requests.{put-named}
use Rattle.model.proofs.Values.{keep_append, keep-keep}

-- no name is put and then changed again
abbrev pub Apart : List Change → Type 0
Apart [] = Unit {0}
Apart (nothing ∷ cs) = Apart cs
Apart (remove k ∷ cs) = Apart cs
Apart (put v ∷ cs) = (any (same_key_def (key_of v)) (changed_keys cs) ≡ false) × Apart cs

-- a name that changes are not about is none that they change
pub unchanged : (k : Key) (cs : List Change) → Others k cs → any (same_key_def k) (changed_keys cs) ≡ false
unchanged k [] o = refl
unchanged k (nothing ∷ cs) o = unchanged k cs o.1
unchanged k (remove j ∷ cs) o = rw (key-sym k j ∙ o.0) (unchanged k cs o.1)
unchanged k (put v ∷ cs) o = rw (key-sym k (key_of v) ∙ o.0) (unchanged k cs o.1)

all_none : (vs : List Value) → without_all [] vs ≡ vs
unfolding without_all
all_none [] = refl
all_none (v ∷ vs) = ap (λ (l : List Value). v ∷ l) (all_none vs)

not-either : (a b : Bool) → (not a && not b) ≡ not (a || b)
not-either true b = refl
not-either false b = refl

all_more : (k : Key) (ks : List Key) (vs : List Value) → without_all ks (without k vs) ≡ without_all (k ∷ ks) vs
unfolding without_all without
all_more k ks vs =
    keep-keep (λ v. not (same_key_def (key_of v) k)) (λ v. not (any (same_key_def (key_of v)) ks)) vs
    ∙ ap (λ (f : Value → Bool). keep f vs) (fun_ext (λ v. not-either (same_key_def (key_of v) k) (any (same_key_def (key_of v)) ks)))

all-last : (ks : List Key) (vs : List Value) (v : Value) → any (same_key_def (key_of v)) ks ≡ false → without_all ks (vs ++ (v ∷ [])) ≡ without_all ks vs ++ (v ∷ [])
unfolding without_all
all-last ks vs v h = keep_append (λ w. not (any (same_key_def (key_of w)) ks)) vs (v ∷ []) ∙ rw h

pub steps-folded : (cs : List Change) (vs : List Value) → Apart cs → steps cs vs ≡ without_all (changed_keys cs) vs ++ put_values_def cs
unfolding steps step
steps-folded [] vs a = sym (append-nil (without_all [] vs) ∙ all_none vs)
steps-folded (nothing ∷ cs) vs a = steps-folded cs vs a
steps-folded (remove k ∷ cs) vs a = steps-folded cs (without k vs) a ∙ ap (λ (l : List Value). l ++ put_values_def cs) (all_more k (changed_keys cs) vs)
steps-folded (put v ∷ cs) vs a =
    let last = all-last (changed_keys cs) (without (key_of v) vs) v a.0 in
    let more = ap (λ (l : List Value). l ++ (v ∷ [])) (all_more (key_of v) (changed_keys cs) vs) in
    steps-folded cs (without (key_of v) vs ++ (v ∷ [])) a.1
    ∙ ap (λ (l : List Value). l ++ put_values_def cs) (last ∙ more)
    ∙ append_assoc (without_all (key_of v ∷ changed_keys cs) vs) (v ∷ []) (put_values_def cs)

-- ---- items of which no two share a name: "changed values stand last, in file order"

others_apart : (k : Key) (rs : List Request) (vs : List Value) → any (λ q. same_key_def (request_key q) k) rs ≡ false → Others k (changes_alone rs vs)
unfolding changes_alone
others_apart k [] vs h = tt
others_apart k (r ∷ rs) vs h =
    let p = or_split (same_key_def (request_key r) k) (any (λ q. same_key_def (request_key q) k) rs) h in
    (other-change k r vs p.0, others_apart k rs vs p.1)

items-apart : (rs : List Request) (vs : List Value) → shares_name_def rs ≡ false → Apart (changes_alone rs vs)
unfolding changes_alone change_in shares_name_def
items-apart [] vs h = tt
items-apart (r ∷ rs) vs h =
    let p = or_split (any (λ q. same_key_def (request_key q) (request_key r)) rs) (shares_name_def rs) h in
    go (change_in r vs) refl (items-apart rs vs p.1) (others_apart (request_key r) rs vs p.0)
  where
    go : (c : Change) → change_of r (find (request_key r) vs) ≡ c → Apart (changes_alone rs vs) → Others (request_key r) (changes_alone rs vs) → Apart (c ∷ changes_alone rs vs)
    go nothing e a o = a
    go (remove k) e a o = a
    go (put v) e a o = (unchanged (key_of v) (changes_alone rs vs) (rw (put-named r (find (request_key r) vs) v e) o), a)

pub items-folded : (rs : List Request) (vs : List Value) → shares_name_def rs ≡ false
    → steps (changes_alone rs vs) vs ≡ without_all (changed_keys (changes_alone rs vs)) vs ++ put_values_def (changes_alone rs vs)
items-folded rs vs h = steps-folded (changes_alone rs vs) vs (items-apart rs vs h)
