-- What the plan of a set has by numbers.
use Rattle.std.specs.Prelude.{ℕ, Bool, cond}
use Rattle.model.specs.Request.{deployed_mode}

-- the byte that comes in the place of PlatMode's value: a 3, or none, which 0 says
unfoldable pub byte_by : Bool → ℕ
byte_by deploys = cond deploys deployed_mode 0
