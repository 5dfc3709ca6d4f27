-- The least and the greatest frame, and a full one that can be written: three records, at which the checker computes; and the frame of 38
-- bytes, which is written back as it was received. Assumes nothing.
use mathlib.Core.Path.{◌≡◌, refl}
use mathlib.Core.Bool.{true, false}
use mathlib.Core.List.{[], ◌∷◌, ◌++◌}
use native.Mathlib.Omega.{arith}
use lib.ListN.{replicate}
use Rattle.octets_spec.specs.Choice.{if_on, if_lt}
use Rattle.octets_spec.specs.Number.{le_bytes, be_bytes}
use Rattle.eb_record_spec.specs.Record.{blank_link}
use Rattle.mac_header_spec.specs.declared.SequenceNumber.TheVariants.{Absent, Number}
use Rattle.mac_header_spec.specs.declared.Address.TheVariants.{Short, Extended}
use Rattle.eb_record_spec.specs.declared.Beacon.{Beacon}
use Rattle.eb_write_spec.specs.Frame.{suppressed_bit, sequence_bytes, address_mode, address_bytes, control_word, mac_header_bytes, header_descriptor, group_descriptor, short_descriptor, long_descriptor, numbers_in, synchronization_bytes, last_width, timings_bytes, template_size, template_bytes, hopping_bytes, link_bytes, links_bytes, slotframe_bytes, group_size, group_bytes, joining_word, joining_size, joining_bytes, frame_of, frame_length}
use Rattle.eb_write_spec.specs.Limits.{all_of, all_below, sequence_fits, synchronization_fits, template_fits, link_fits, link_unused, slotframe_fits, proxy_fits, present_fits, absent_fits, joining_fits, fits}
use Rattle.eb_record_spec.specs.Form.{address_fits}
use Rattle.eb_round_trip_spec.specs.ReadBack.{Writable, LengthsAreMet, FullRecordIsWritable}
use Rattle.eb_round_trip_spec.specs.Accepted.{ShortestIsWrittenBack}
use Rattle.eb_read_spec.specs.Witnesses.{shortest, shortest_record}
use Rattle.eb_read_spec.proofs.Witnessed.{shortest_is_read, shortest_done, shortest_bytes}

-- one link, nothing that may be left out
abbrev small : Beacon
small = record {
  sequence = Absent;
  pan = 51966;
  source = Short 1;
  synchronization = record { asn = 256; metric = 2 };
  timeslot = record { id = 0; timed = false; timings = replicate 12 0 };
  hopping = 0;
  slotframe = record { handle = 0; size = 11; count = 1; links = record { timeslot = 0; channel_offset = 0; options = 15 } ∷ replicate 15 blank_link };
  joining = record { present = false; router = false; proxied = false; proxy = 0; rank = 0; pan = 0; address = 0; length = 0; network = replicate 16 0 };
}

-- everything there is, each number at its greatest
abbrev large : Beacon
large = record {
  sequence = Number 255;
  pan = 51966;
  source = Extended 18446744073709551615;
  synchronization = record { asn = 1099511627775; metric = 255 };
  timeslot = record { id = 7; timed = true; timings = replicate 10 65535 ++ (65536 ∷ 16777215 ∷ []) };
  hopping = 3;
  slotframe = record { handle = 1; size = 65535; count = 16; links = replicate 16 (record { timeslot = 65534; channel_offset = 65535; options = 255 }) };
  joining = record { present = true; router = true; proxied = true; proxy = 127; rank = 4095; pan = 255; address = 18446744073709551615; length = 16; network = replicate 16 255 };
}

-- timings of which the last two have three bytes, three links, joining information with an address
abbrev full : Beacon
full = record {
  sequence = Number 7;
  pan = 51966;
  source = Extended 18446744073709551615;
  synchronization = record { asn = 1099511627775; metric = 255 };
  timeslot = record { id = 1; timed = true; timings = replicate 10 65535 ++ (65536 ∷ 16777215 ∷ []) };
  hopping = 3;
  slotframe = record { handle = 1; size = 101; count = 3; links = replicate 3 (record { timeslot = 100; channel_offset = 65535; options = 255 }) ++ replicate 13 blank_link };
  joining = record { present = true; router = true; proxied = true; proxy = 127; rank = 4095; pan = 255; address = 18446744073709551615; length = 4; network = replicate 4 255 ++ replicate 12 0 };
}

small_writable : Writable small
unfolding sequence_bytes suppressed_bit address_mode address_bytes control_word mac_header_bytes header_descriptor group_descriptor short_descriptor long_descriptor numbers_in synchronization_bytes last_width timings_bytes template_size template_bytes hopping_bytes link_bytes links_bytes slotframe_bytes group_size group_bytes joining_word joining_size joining_bytes frame_of le_bytes be_bytes if_on if_lt all_of all_below sequence_fits address_fits synchronization_fits template_fits link_fits link_unused slotframe_fits proxy_fits present_fits absent_fits joining_fits fits
small_writable = record { sized = record { timings = refl; links = refl; network = refl }; within = refl; short = omega arith }

small_38 : frame_length small ≡ 38
unfolding frame_length sequence_bytes address_bytes le_bytes group_size template_size joining_size if_on
small_38 = refl

large_fits : fits large ≡ true
unfolding if_on if_lt all_of all_below sequence_fits address_fits synchronization_fits template_fits link_fits link_unused slotframe_fits proxy_fits present_fits absent_fits joining_fits fits
large_fits = refl

large_177 : frame_length large ≡ 177
unfolding frame_length sequence_bytes address_bytes le_bytes group_size template_size joining_size last_width if_on if_lt
large_177 = refl

pub lengths_are_met : LengthsAreMet
lengths_are_met = ((small, small_writable, small_38), (large, large_fits, large_177))

full_writable : Writable full
unfolding sequence_bytes suppressed_bit address_mode address_bytes control_word mac_header_bytes header_descriptor group_descriptor short_descriptor long_descriptor numbers_in synchronization_bytes last_width timings_bytes template_size template_bytes hopping_bytes link_bytes links_bytes slotframe_bytes group_size group_bytes joining_word joining_size joining_bytes frame_of le_bytes be_bytes if_on if_lt all_of all_below sequence_fits address_fits synchronization_fits template_fits link_fits link_unused slotframe_fits proxy_fits present_fits absent_fits joining_fits fits
full_writable = record { sized = record { timings = refl; links = refl; network = refl }; within = refl; short = omega arith }

pub full_record_is_writable : FullRecordIsWritable
unfolding address_mode
full_record_is_writable = (full, full_writable, refl, refl, omega arith, refl, refl)

record_is_written : frame_of shortest_record ≡ shortest
unfolding if_on if_lt le_bytes be_bytes suppressed_bit sequence_bytes address_mode address_bytes control_word mac_header_bytes header_descriptor group_descriptor short_descriptor long_descriptor numbers_in synchronization_bytes last_width timings_bytes template_size template_bytes hopping_bytes link_bytes links_bytes slotframe_bytes group_size group_bytes joining_word joining_size joining_bytes frame_of
record_is_written = refl

pub shortest_is_written_back : ShortestIsWrittenBack
shortest_is_written_back = (shortest_bytes, shortest_done, rw shortest_is_read.0 record_is_written)
