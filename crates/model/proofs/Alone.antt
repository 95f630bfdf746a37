-- Items of a profile, each over the values as the call finds them, as a loop over one image judges them: where no two share a name, none is judged otherwise because of
-- those before it. A key name, for which the mode is asked, breaks 5 before.
-- Assumes nothing.
use Prim.Native.Nat.{ℕ}
use mathlib.Core.Path.{◌≡◌, refl, sym, ap, ◌∙◌}
use mathlib.Core.Bool.{Bool, true, false, not, ◌&&◌, ◌||◌, true≢false, false≢true}
use mathlib.Core.List.{List, [], ◌∷◌, ◌++◌}
use mathlib.Core.Option.{Option, none, some}
use lib.Dec.{eqb}
use borrow.Author.Tests.{eqb-true}
use Rattle.model.specs.declared.Session.{Session}
use Rattle.model.specs.declared.Terms.{Terms}
use Rattle.model.specs.declared.Rule.{Rule}
use Rattle.model.specs.Lists.{any, among, or_else}
use Rattle.model.specs.Name.{same_key_def}
use Rattle.model.specs.Entry.{Value}
use Rattle.model.specs.Region.{record_bit, find}
use Rattle.model.specs.Request.{Request, request_key, is_key_name_def, mode_of}
use Rattle.model.specs.Profile.{item_attributes, shares_name_def}
use Rattle.model.specs.Limits.{limits_for}
use Rattle.model.specs.Change.{Change, change_of, change_in, changes_in, step}
use Rattle.model.specs.Rules.{first_broken, rule5, terms_of, request_rules, standing_rules, result_rules, item_rules, setting_rules, items_rules}
use Rattle.model.specs.Beside.{EachItem, items_alone, changes_alone}
use Rattle.model.proofs.Tests.{or_split, key-sym}
use Rattle.model.proofs.Looking.{other-change, find-step, items_alike}
use Rattle.model.proofs.Requests.{broken-append, unbroken}

-- an item has the attributes of the form
abbrev pub InForm : Request → Type 0
InForm r = among item_attributes r.attributes ≡ true

-- one of two
pub form-cases : (P : ℕ → Type 0) (a : ℕ) → among item_attributes a ≡ true → P 0x03 → P 0x07 → P a
form-cases P a h x y = go (eqb a 0x03) refl (eqb a 0x07) refl h
  where
    go : (b : Bool) → eqb a 0x03 ≡ b → (d : Bool) → eqb a 0x07 ≡ d → (b || (d || false)) ≡ true → P a
    go true e d f h = rw (eqb-true a 0x03 e) x
    go false e true f h = rw (eqb-true a 0x07 f) y
    go false e false f h = absurd (false≢true h)

-- with these a key name breaks 5, and no value is an error record
pub not-keyed : (a : ℕ) → among item_attributes a ≡ true → among (0x27 ∷ 0x67 ∷ []) a ≡ false
not-keyed a h = form-cases (λ (n : ℕ). among (0x27 ∷ 0x67 ∷ []) n ≡ false) a h refl refl

pub form-plain : (a : ℕ) → among item_attributes a ≡ true → record_bit a ≡ false
form-plain a h = form-cases (λ (n : ℕ). record_bit n ≡ false) a h refl refl

key-refused : (t : Terms) (r : Request) → InForm r → is_key_name_def (request_key r) ≡ true → first_broken (request_rules t r) ≡ none → ⊥
unfolding request_rules rule5
key-refused t r ours e h =
    let f : (is_key_name_def (request_key r) && not (among (0x27 ∷ 0x67 ∷ []) r.attributes)) ≡ false = unbroken _ 5 h in
    true≢false (rw (e, not-keyed r.attributes ours) at f)

by-request : (t : Terms) (r : Request) (rule : Rule) → first_broken (request_rules t r) ≡ some rule → (vs : List Value) → first_broken (item_rules t r vs) ≡ some rule
unfolding item_rules
by-request t r rule e vs =
    let a : List (Rule × Bool) = request_rules t r in
    let b : List (Rule × Bool) = standing_rules t r (mode_of vs) (find (request_key r) vs) in
    let c : List (Rule × Bool) = result_rules r (find (request_key r) vs) in
    broken-append (a ++ b) c
    ∙ ap (λ (o : Option Rule). or_else o (first_broken c)) (broken-append a b ∙ ap (λ (o : Option Rule). or_else o (first_broken b)) e)

-- so an item's rules are those over values that agree under its name
item-same : (t : Terms) (r : Request) → InForm r → (ws vs : List Value) → find (request_key r) ws ≡ find (request_key r) vs
    → first_broken (item_rules t r ws) ≡ first_broken (item_rules t r vs)
item-same t r ours ws vs looked = go (is_key_name_def (request_key r)) refl
  where
    first_some : (o : Option Rule) → first_broken (request_rules t r) ≡ o → (first_broken (request_rules t r) ≡ none → ⊥) → first_broken (item_rules t r ws) ≡ first_broken (item_rules t r vs)
    first_some none e n = absurd (n e)
    first_some (some rule) e n = by-request t r rule e ws ∙ sym (by-request t r rule e vs)

    go : (b : Bool) → is_key_name_def (request_key r) ≡ b → first_broken (item_rules t r ws) ≡ first_broken (item_rules t r vs)
    go true e = first_some (first_broken (request_rules t r)) refl (key-refused t r ours e)
    go false e = ap first_broken (items_alike t r ws vs looked (λ f. absurd (true≢false (sym f ∙ e))))

-- ---- all of them

-- lists of values agree under the names of items; a change of another name leaves that so
abbrev Agree : List Request → List Value → List Value → Type 0
Agree rs ws vs = EachItem (λ r. find (request_key r) ws ≡ find (request_key r) vs) rs

agree-self : (rs : List Request) (vs : List Value) → Agree rs vs vs
agree-self [] vs = tt
agree-self (r ∷ rs) vs = (refl, agree-self rs vs)

agree-step : (r : Request) (rs : List Request) (ws vs : List Value) → any (λ q. same_key_def (request_key q) (request_key r)) rs ≡ false → Agree rs ws vs
    → Agree rs (step (change_in r ws) ws) vs
agree-step r [] ws vs h a = tt
agree-step r (q ∷ rs) ws vs h a =
    let p = or_split (same_key_def (request_key q) (request_key r)) (any (λ x. same_key_def (request_key x) (request_key r)) rs) h in
    let other = other-change (request_key q) r ws (key-sym (request_key r) (request_key q) ∙ p.0) in
    (find-step (request_key q) (change_in r ws) ws other ∙ a.0, agree-step r rs ws vs p.1 a.1)

-- the first broken rule of three lists is by that of each
three-alike : (a b c x y z : List (Rule × Bool)) → first_broken a ≡ first_broken x → first_broken b ≡ first_broken y → first_broken c ≡ first_broken z
    → first_broken (a ++ b ++ c) ≡ first_broken (x ++ y ++ z)
three-alike a b c x y z p q r = rw (broken-append, broken-append, broken-append, broken-append, p, q, r)

module _ (m : Bool) (s : Session) where
  abbrev named : Request → Option Value → List (Rule × Bool)
  named r old = setting_rules (limits_for s.setup (request_key r)) r old

  items-same : (rs : List Request) (ws vs : List Value) → EachItem InForm rs → shares_name_def rs ≡ false → Agree rs ws vs
      → first_broken (items_rules m s rs ws) ≡ first_broken (items_alone (terms_of m s) (limits_for s.setup) rs vs)
  unfolding items_rules items_alone shares_name_def
  items-same [] ws vs ours apart a = refl
  items-same (r ∷ rs) ws vs ours apart a =
      let p = or_split (any (λ q. same_key_def (request_key q) (request_key r)) rs) (shares_name_def rs) apart in
      let t : Terms = terms_of m s (request_key r) in
      let own = item-same t r ours.0 ws vs a.0 in
      let rest = items-same rs (step (change_in r ws) ws) vs ours.1 p.1 (agree-step r rs ws vs p.0 a.1) in
      three-alike (item_rules t r ws) (named r (find (request_key r) ws)) (items_rules m s rs (step (change_in r ws) ws))
      (item_rules t r vs) (named r (find (request_key r) vs)) (items_alone (terms_of m s) (limits_for s.setup) rs vs) own
      (ap (λ (o : Option Value). first_broken (named r o)) a.0) rest

  pub items-alone : (rs : List Request) (vs : List Value) → EachItem InForm rs → shares_name_def rs ≡ false
      → first_broken (items_rules m s rs vs) ≡ first_broken (items_alone (terms_of m s) (limits_for s.setup) rs vs)
  items-alone rs vs ours apart = items-same rs vs vs ours apart (agree-self rs vs)

-- and its change is that over these values
changes-same : (rs : List Request) (ws vs : List Value) → shares_name_def rs ≡ false → Agree rs ws vs → changes_in rs ws ≡ changes_alone rs vs
unfolding changes_in changes_alone shares_name_def change_in
changes-same [] ws vs apart a = refl
changes-same (r ∷ rs) ws vs apart a =
    let p = or_split (any (λ q. same_key_def (request_key q) (request_key r)) rs) (shares_name_def rs) apart in
    let rest = changes-same rs (step (change_in r ws) ws) vs p.1 (agree-step r rs ws vs p.0 a.1) in
    ap (λ (cs : List Change). change_in r ws ∷ cs) rest
    ∙ ap (λ (c : Change). c ∷ changes_alone rs vs) (ap (change_of r) a.0)

pub changes-alone : (rs : List Request) (vs : List Value) → shares_name_def rs ≡ false → changes_in rs vs ≡ changes_alone rs vs
changes-alone rs vs apart = changes-same rs vs vs apart (agree-self rs vs)
