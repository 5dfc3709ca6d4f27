-- The names of the fields of each element by their places, as the code takes the list of fields apart (docs/RULES.md, Fields). Assumes
-- nothing.
use Rattle.std.specs.Prelude.{ℕ, List}
use Rattle.octets_spec.specs.Choice.{if_eq}
use Rattle.eb_fields_spec.specs.Names.{link_timeslot_name, link_offset_name, link_options_name}
use Rattle.eb_record_spec.specs.Record.{blank_beacon}
use Rattle.eb_fields_spec.specs.Fields.{header_fields, synchronization_fields, timing_names, timing_fields, timeslot_fields, link_fields, slotframe_fields, joining_fields, name_in}

-- of the MAC header
abbrev pub header_name : ℕ → List ℕ
header_name place = name_in (header_fields blank_beacon.sequence blank_beacon.pan blank_beacon.source) place

-- of synchronization
abbrev pub synchronization_name : ℕ → List ℕ
synchronization_name place = name_in (synchronization_fields blank_beacon.synchronization) place

-- of the timings
abbrev pub timing_name : ℕ → List ℕ
timing_name place = name_in (timing_fields blank_beacon.timeslot 0 timing_names) place

-- of timeslot
abbrev pub timeslot_name : ℕ → List ℕ
timeslot_name place = name_in (timeslot_fields blank_beacon.timeslot) place

-- of all links
unfoldable pub links_name : ℕ → List ℕ
links_name place = name_in (link_fields blank_beacon.slotframe 0 16) place

-- of slotframe and link
unfoldable pub slotframe_name : ℕ → List ℕ
slotframe_name place = name_in (slotframe_fields blank_beacon.slotframe) place

-- of joining information
abbrev pub joining_name : ℕ → List ℕ
joining_name place = name_in (joining_fields blank_beacon.joining) place

-- of a number of a link, behind the link's place: the first is the timeslot, the second the channel offset, the third the options
unfoldable pub part_name : ℕ → List ℕ
part_name part = if_eq part 0 link_timeslot_name (if_eq part 1 link_offset_name link_options_name)
