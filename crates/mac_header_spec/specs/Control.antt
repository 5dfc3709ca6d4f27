-- Frame control taken apart (docs/RULES.md, The frame). Nothing here says which frames are accepted. Assumes nothing.
use Rattle.std.specs.Prelude.{ℕ, ◌/◌, ◌%◌}
use Rattle.mac_header_spec.specs.declared.Control.{Control}

-- the version of IEEE 802.15.4-2015
abbrev pub version2015 : ℕ
version2015 = 2

-- the mode of a short address
abbrev pub short_mode : ℕ
short_mode = 2

-- the mode of an extended one
abbrev pub extended_mode : ℕ
extended_mode = 3

-- frame control, bits 0 to 15: type (3), security, pending, acknowledge request, PAN ID compression, reserved, sequence suppressed,
-- elements present, destination mode (2), version (2), source mode (2)
unfoldable pub control_of : ℕ → Control
control_of word = record {
  kind = word % 8;
  security = word / 0x0008 % 2;
  compression = word / 0x0040 % 2;
  suppressed = word / 0x0100 % 2;
  elements = word / 0x0200 % 2;
  destination = word / 0x0400 % 4;
  version = word / 0x1000 % 4;
  source = word / 0x4000 % 4;
}
