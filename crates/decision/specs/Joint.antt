-- 02 (j), where PK and PlatMode change together: the sizes that go and come, and room by them.
use Rattle.std.specs.Prelude.{ℕ, ◌+◌, Bool, false, cond, List, length}
use Rattle.model.specs.declared.Rule.{Rule}
use Rattle.model.specs.declared.Terms.{Terms}
use Rattle.model.specs.Entry.{entry_size_def}
use Rattle.model.specs.Walk.{entry_value_def}
use Rattle.model.specs.Request.{deployed_mode, mode_value}
use Rattle.region.specs.Walk.{entry_at}
use Rattle.decision.specs.Parts.{Found, on_found, room_by}
use Rattle.decision.specs.Profile.{folded_sums}

-- the rounded size of the entry that was found
unfoldable pub taken_by : List ℕ → Found → ℕ
taken_by r old = on_found old (λ at e. entry_size_def (entry_value_def (entry_at r at e))) 0

-- the rounded size of PK's entry, and of PlatMode's if a 3 comes
unfoldable pub coming_by : Bool → ℕ → ℕ
coming_by deploys size = size + cond deploys (entry_size_def (mode_value deployed_mode)) 0

-- rules 18 and 13 by the sums after both changes, of which so many bytes come
unfoldable pub joint_after : Terms → List ℕ → Found → Found → ℕ → List (Rule × Bool)
joint_after t r pk mode comes = room_by t (length r) false (folded_sums t r (taken_by r pk + taken_by r mode) comes)
