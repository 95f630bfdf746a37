-- The numbers by which the items of a profile are carried out: which of them store a value, and the entries that those which change something leave behind. Eight of each.
use Rattle.std.specs.Prelude.{ℕ, ◌-◌, ◌≡◌, Bool, true, false, cond, List, ◌++◌, map, length, replicate}
use Rattle.model.specs.Lists.{on_some}
use Rattle.model.specs.Walk.{Entry}
use Rattle.model.specs.Region.{entries, values, standing}
use Rattle.model.specs.Request.{Request, request_key}
use Rattle.model.specs.Change.{Change, is_nothing, change_in}
use Rattle.model.specs.Rules.{puts}
use Rattle.model.specs.Beside.{changes_alone}

-- the offset of the entry of an item's name, where the item changes something; 0, where no entry is, if it does not or none stands
unfoldable pub leave_at : List Entry → Request → Change → ℕ
leave_at es r c = cond (is_nothing c) 0 (on_some (standing (request_key r) es) (λ e. e.at) 0)

unfoldable pub leaves_at : List ℕ → List Request → List ℕ
leaves_at r rs = map (λ q. leave_at (entries r) q (change_in q (values (entries r)))) rs

-- whether an item stores a value
unfoldable pub puts_at : List ℕ → List Request → List Bool
puts_at r rs = map (puts (λ v. true)) (changes_alone rs (values (entries r)))

-- places behind the last item are filled
abbrev pub eight : {A : Type 0} → A → List A → List A
eight x xs = xs ++ replicate (8 - length xs) x

-- these are the numbers for the items over a region
pub record Folds (r : List ℕ) (rs : List Request) (leave : List ℕ) (stores : List Bool) : Type 0 where
  pub left : leave ≡ eight 0 (leaves_at r rs)
  pub stored : stores ≡ eight false (puts_at r rs)
