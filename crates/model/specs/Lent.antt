-- 02 (n), "The session in the host's memory": a session by its 9,332 bytes, C's vs_session; numbers have four bytes each.
use Rattle.std.specs.Prelude.{ℕ, List}
use Rattle.model.specs.declared.Setup.{Setup}
use Rattle.model.specs.declared.Session.{Session}
use Rattle.model.specs.Lists.{part, u32_at, numbers_at}
use Rattle.model.specs.Session.{lock_space}

-- what a start-up is given, as it is in a session
unfoldable pub setup_of : List ℕ → Setup
setup_of s = record {
  custom = u32_at s 4;
  reserve = u32_at s 8;
  records = u32_at s 12;
  share = u32_at s 16;
  modem = record { share = u32_at s 20; reserve = u32_at s 24; vendor = part 28 16 s };
  rules = u32_at s 44;
  limits = part 48 6912 s;
}

unfoldable pub session_of : List ℕ → Session
session_of s = record {
  phase = u32_at s 0;
  setup = setup_of s;
  count = u32_at s 6960;
  sizes = numbers_at s 6964 lock_space;
  locks = part 7028 2304 s;
}
