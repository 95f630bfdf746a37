-- What a start-up is given where nothing is asked of it, for what is proved of one such.
-- Assumes nothing.
use mathlib.Core.List.{[]}
use Rattle.model.specs.declared.Setup.{Setup}

-- no custom mode, no reserve, no space for error records, no share of either side, no rules for settings
abbrev pub plain_setup : Setup
plain_setup = record {
  custom = 0;
  reserve = 0;
  records = 0;
  share = 0;
  modem = record { share = 0; reserve = 0; vendor = [] };
  rules = 0;
  limits = [];
}
