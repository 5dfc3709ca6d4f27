-- The blank record: all numbers zero, short source 0, no sequence number, a template that is its ID alone, no links and no joining
-- information (docs/RULES.md, Refusals). Assumes nothing.
use Rattle.std.specs.Prelude.{false, replicate}
use Rattle.mac_header_spec.specs.declared.SequenceNumber.TheVariants.{Absent}
use Rattle.mac_header_spec.specs.declared.Address.TheVariants.{Short}
use Rattle.eb_record_spec.specs.declared.Link.{Link}
use Rattle.eb_record_spec.specs.declared.JoiningInformation.{JoiningInformation}
use Rattle.eb_record_spec.specs.declared.Beacon.{Beacon}

-- a link whose numbers are all zero
abbrev pub blank_link : Link
blank_link = record { timeslot = 0; channel_offset = 0; options = 0 }

-- no joining information
abbrev pub blank_joining : JoiningInformation
blank_joining = record { present = false; router = false; proxied = false; proxy = 0; rank = 0; pan = 0; address = 0; length = 0; network = replicate 16 0 }

-- the blank record
abbrev pub blank_beacon : Beacon
blank_beacon = record {
  sequence = Absent;
  pan = 0;
  source = Short 0;
  synchronization = record { asn = 0; metric = 0 };
  timeslot = record { id = 0; timed = false; timings = replicate 12 0 };
  hopping = 0;
  slotframe = record { handle = 0; size = 0; count = 0; links = replicate 16 blank_link };
  joining = blank_joining;
}
