-- The record of an accepted frame: the fields of its MAC header, and those of each element from its bytes, in the order on air
-- (docs/RULES.md, The frame and Elements). Assumes nothing.
use Rattle.std.specs.Prelude.{ℕ, ◌+◌, ◌-◌, ◌*◌, ◌/◌, ◌%◌, ◌^◌, min, false, true, List, eqb, get_or, replicate}
use Rattle.octets_spec.specs.Choice.{if_lt, if_eq}
use Rattle.octets_spec.specs.Number.{le_at, be_at}
use Rattle.octets_spec.specs.Counted.{counted, padded}
use Rattle.mac_header_spec.specs.Fields.{mac_header_of, sequence_of, address_of}
use Rattle.ie_walk_spec.specs.declared.Walk.{Walk}
use Rattle.eb_record_spec.specs.Record.{blank_link, blank_joining}
use Rattle.eb_record_spec.specs.declared.Synchronization.{Synchronization}
use Rattle.eb_record_spec.specs.declared.TimeslotTemplate.{TimeslotTemplate}
use Rattle.eb_record_spec.specs.declared.Link.{Link}
use Rattle.eb_record_spec.specs.declared.Slotframe.{Slotframe}
use Rattle.eb_record_spec.specs.declared.JoiningInformation.{JoiningInformation}
use Rattle.eb_record_spec.specs.declared.Beacon.{Beacon}

-- synchronization: ASN (5 bytes), join metric
unfoldable pub synchronization_at : List ℕ → ℕ → Synchronization
synchronization_at s at = record { asn = le_at 5 s at; metric = get_or s (at + 5) 0 }

-- timing k of twelve: 2 bytes each behind the template ID, the last two of this width
unfoldable pub timing_at : List ℕ → ℕ → ℕ → ℕ → ℕ
timing_at s at width k = if_lt k 10 (le_at 2 s (at + (1 + 2 * k))) (if_eq k 10 (le_at width s (at + 21)) (le_at width s (at + (21 + width))))

-- timeslot: template ID, then nothing or twelve timings; in the form of 27 bytes the last two have 3 bytes
unfoldable pub template_at : List ℕ → ℕ → ℕ → TimeslotTemplate
template_at s at size =
    if_eq size 1
    (record { id = get_or s at 0; timed = false; timings = replicate 12 0 })
    (record { id = get_or s at 0; timed = true; timings = counted (timing_at s at (if_eq size 27 3 2)) 12 })

-- link i of a slotframe and link element: timeslot (2), channel offset (2), options (1)
unfoldable pub link_at : List ℕ → ℕ → ℕ → Link
link_at s at i = record { timeslot = le_at 2 s (at + (5 + 5 * i)); channel_offset = le_at 2 s (at + (7 + 5 * i)); options = get_or s (at + (9 + 5 * i)) 0 }

-- slotframe and link: count, handle, size (2), number of links, the links
unfoldable pub slotframe_at : List ℕ → ℕ → Slotframe
slotframe_at s at = record { handle = get_or s (at + 1) 0; size = le_at 2 s (at + 2); count = get_or s (at + 4) 0; links = padded (link_at s at) blank_link 16 (get_or s (at + 4) 0) }

-- joining information behind its subtype, most significant bit first: R 1, P 1, reserved 3, proxy priority 7, rank priority 12, PAN
-- priority 8; then 8 address bytes if P; then the network ID to the element's end. This many bytes stand before the network ID
unfoldable pub network_offset : List ℕ → ℕ → ℕ
network_offset s at = 4 + 8 * (be_at 4 s at / 2 ^ 30 % 2)

-- joining information that lies from an offset to another; at offset 0 there is none
unfoldable pub joining_at : List ℕ → ℕ → ℕ → JoiningInformation
joining_at s at to =
    let word : ℕ = be_at 4 s at in
    let before : ℕ = network_offset s at in
    let size : ℕ = min (to - at - before) 16 in
    if_eq at 0 blank_joining
    (record {
      present = true;
      router = eqb (word / 2 ^ 31 % 2) 1;
      proxied = eqb (word / 2 ^ 30 % 2) 1;
      proxy = word / 2 ^ 20 % 2 ^ 7;
      rank = word / 2 ^ 8 % 2 ^ 12;
      pan = word % 2 ^ 8;
      address = if_eq (word / 2 ^ 30 % 2) 1 (be_at 8 s (at + 4)) 0;
      length = size;
      network = padded (λ i. get_or s (at + (before + i)) 0) 0 16 size;
    })

-- the record: sequence number, PAN and source of the MAC header, and each element where the walk noted it
unfoldable pub decoded : List ℕ → Walk → Beacon
decoded s walk = record {
  sequence = sequence_of (mac_header_of s);
  pan = (mac_header_of s).pan;
  source = address_of (mac_header_of s).control.source (mac_header_of s).source;
  synchronization = synchronization_at s walk.synchronization;
  timeslot = template_at s walk.timeslot (walk.timeslotend - walk.timeslot);
  hopping = get_or s walk.hopping 0;
  slotframe = slotframe_at s walk.slotframe;
  joining = joining_at s walk.joining walk.joiningend;
}
