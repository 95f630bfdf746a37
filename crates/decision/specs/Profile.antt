-- 02 (l), "A station profile as one change", for the code: its items judged one after another over the values that the call finds, and room once, after the last.
use Rattle.std.specs.Prelude.{ℕ, ◌+◌, ◌*◌, ◌-◌, ◌≤◌, ◌<◌, ◌≡◌, Bool, true, false, not, cond, List, [], ◌∷◌, ◌++◌, length, get_or, eqb, Result, Ok, Err}
use Rattle.std.proofs.Math.Option.{Option as Maybe, none, some}
use Rattle.model.specs.declared.Rule.{Rule}
use Rattle.model.specs.declared.Rule.TheVariants.{Room}
use Rattle.model.specs.declared.Terms.{Terms}
use Rattle.model.specs.Lists.{all, among, on_some}
use Rattle.model.specs.Name.{Key}
use Rattle.model.specs.Entry.{Value, entry_size_def}
use Rattle.model.specs.Walk.{entry_value_def}
use Rattle.model.specs.Region.{sound, entries, values, find}
use Rattle.model.specs.Request.{Request, request_key}
use Rattle.model.specs.Profile.{item_attributes, shares_name_def}
use Rattle.model.specs.Limits.{Limit, limits_in}
use Rattle.model.specs.Change.{Change, nothing, remove, put, is_nothing, change_in, record_sizes}
use Rattle.model.specs.Sides.{side_sizes}
use Rattle.model.specs.Rules.{first_broken, item_rules, setting_rules, rule13}
use Rattle.model.specs.Beside.{EachItem, items_alone, changes_alone}
use Rattle.region.specs.Walk.{entry_at}
use Rattle.session.specs.Said.{barred_by, terms_with}
use Rattle.profile.specs.declared.Settings.{Settings}
use Rattle.profile.specs.Reader.{Within, no_setting, requests_in}
use Rattle.profile.specs.Folded.{leave_at, Folds}
use Rattle.decision.specs.declared.Sums.{Sums}
use Rattle.session.specs.declared.Locks.{Locks}
use Rattle.decision.specs.declared.Weight.{Weight}
use Rattle.decision.specs.declared.Weights.{Weights}
use Rattle.decision.specs.declared.Change as told
use Rattle.decision.specs.declared.Change.TheVariants.{Nothing, Remove, Put}
use Rattle.decision.specs.Decision.{Decision, decided}
use Rattle.decision.specs.Parts.{Found, on_found, room_by}

-- what is said to an item of a name, by what is said to the call and by the lock list
abbrev pub told_of : Terms → Locks → List ℕ → Key → Terms
told_of said held locks k = terms_with said (barred_by held.phase held.used held.sizes locks k) k

-- and the rules for that name, in a table
abbrev pub limits_of : Terms → List ℕ → Key → List Limit
limits_of said table k = limits_in table said.rules k

-- "Each item is checked in turn", "room is judged after the last": the first broken rule, or whether anything changes
unfoldable pub weighed_of : Terms → (Key → Terms) → (Key → List Limit) → List Request → ℕ → List Value → Decision
weighed_of t told limits rs size vs =
    decided
    (first_broken (items_alone told limits rs vs ++ ((Room, rule13 t size (changes_alone rs vs) vs) ∷ [])))
    (cond (all is_nothing (changes_alone rs vs)) (Ok Nothing) (Ok Put))

-- before the items are judged: the region is sound, they lie in the file and are of the form, and no two share a name
pub record Weighable (r file : List ℕ) (p : Settings) : Type 0 where
  pub sounds : sound r ≡ true
  pub small : length r ≤ 28672
  pub few : p.count ≤ 8
  pub within : (i : ℕ) → i < p.count → Within (length file) (get_or p.list i no_setting)
  pub formed : EachItem (λ q. among item_attributes q.attributes ≡ true) (requests_in file p)
  pub apart : shares_name_def (requests_in file p) ≡ false

-- ---- one item

-- the rounded size of the entry that a change leaves behind, by the value that is there, and of the entry that it writes
unfoldable pub gone_size : Change → Maybe Value → ℕ
gone_size c old = cond (is_nothing c) 0 (on_some old entry_size_def 0)

unfoldable pub comes_size : Change → ℕ
comes_size nothing = 0
comes_size (remove k) = 0
comes_size (put v) = entry_size_def v

-- a change that leaves behind what was found, by numbers
unfoldable pub leaving_by : List ℕ → Found → ℕ → Weight
leaving_by r old comes = record {
  at = on_found old (λ at e. at) 0;
  gone = on_found old (λ at e. entry_size_def (entry_value_def (entry_at r at e))) 0;
  comes = comes;
}

-- an item by what it does: `size` is that of the entry that it would write
unfoldable pub weight_by : List ℕ → Found → told.Change → ℕ → Weight
weight_by r old Nothing size = record { at = 0; gone = 0; comes = 0 }
weight_by r old Remove size = leaving_by r old 0
weight_by r old Put size = leaving_by r old size

-- an item that breaks no rule but room, weighed over a region: the entry that it leaves behind, and the sizes that go and come
pub record ItemPasses (q : Request) (r : List ℕ) (w : Weight) : Type 0 where
  pub left : w.at ≡ leave_at (entries r) q (change_in q (values (entries r)))
  pub gone : w.gone ≡ gone_size (change_in q (values (entries r))) (find (request_key q) (values (entries r)))
  pub comes : w.comes ≡ comes_size (change_in q (values (entries r)))
  pub few-gone : w.gone ≤ 28672
  pub few-come : w.comes ≤ 2236

-- the rules of an item but room
abbrev pub rules_alone : Terms → List Limit → Request → List Value → List (Rule × Bool)
rules_alone t ls q vs = item_rules t q vs ++ setting_rules ls q (find (request_key q) vs)

-- an item judged over a region by them: the first that it breaks, or the above
abbrev pub ItemWeighed : Terms → List Limit → Request → List ℕ → Result Weight Rule → Type 0
ItemWeighed t ls q r (Err rule) = first_broken (rules_alone t ls q (values (entries r))) ≡ some rule
ItemWeighed t ls q r (Ok w) = (first_broken (rules_alone t ls q (values (entries r))) ≡ none) × ItemPasses q r w

-- ---- all items

unfoldable pub gone_sizes : List Request → List Value → ℕ
gone_sizes [] vs = 0
gone_sizes (q ∷ rs) vs = gone_size (change_in q vs) (find (request_key q) vs) + gone_sizes rs vs

unfoldable pub comes_sizes : List Change → ℕ
comes_sizes [] = 0
comes_sizes (c ∷ cs) = comes_size c + comes_sizes cs

-- items of which none breaks a rule: how they are carried out, and the sizes that go and come
pub record ItemsPass (told : Key → Terms) (limits : Key → List Limit) (rs : List Request) (r : List ℕ) (leave : List ℕ) (stores : List Bool) (gone comes : ℕ) : Type 0 where
  pub kept : first_broken (items_alone told limits rs (values (entries r))) ≡ none
  pub folds : Folds r rs leave stores
  pub goes : gone ≡ gone_sizes rs (values (entries r))
  pub come : comes ≡ comes_sizes (changes_alone rs (values (entries r)))

-- items judged over a region: the first rule that one breaks; else the above
abbrev pub ItemsWeighed : (Key → Terms) → (Key → List Limit) → List Request → List ℕ → Result Weights Rule → Type 0
ItemsWeighed told limits rs r (Err rule) = first_broken (items_alone told limits rs (values (entries r))) ≡ some rule
ItemsWeighed told limits rs r (Ok w) = ItemsPass told limits rs r w.leave w.stores w.gone w.comes × (w.comes ≤ 8 * 2236)

-- ---- room

-- the sums after the items: all that goes and comes is the side's own, and no error record
unfoldable pub folded_sums : Terms → List ℕ → ℕ → ℕ → Sums
folded_sums t r gone comes = record {
  records = record_sizes (values (entries r));
  own = side_sizes t.vendor t.modem (values (entries r)) + comes - gone;
  others = side_sizes t.vendor (not t.modem) (values (entries r));
}

-- what items that break no rule come to, by the sizes that go and come. An entry has a size, so 0 says that none comes, or none goes
unfoldable pub roomed_of : Terms → List ℕ → ℕ → ℕ → Decision
roomed_of t r gone comes =
    cond
    (eqb comes 0)
    (cond (eqb gone 0) (Ok Nothing) (Ok Put))
    (decided (first_broken (room_by t (length r) false (folded_sums t r gone comes))) (Ok Put))
