-- The frame of a record: its bytes in the order on air (docs/RULES.md, Writing). Assumes nothing.
use Rattle.std.specs.Prelude.{ℕ, ◌+◌, ◌*◌, ◌^◌, Bool, List, [], ◌∷◌, ◌++◌, take, drop, length}
use Rattle.octets_spec.specs.Choice.{if_on, if_lt}
use Rattle.octets_spec.specs.Number.{le_bytes, be_bytes}
use Rattle.mac_header_spec.specs.declared.SequenceNumber.{SequenceNumber}
use Rattle.mac_header_spec.specs.declared.SequenceNumber.TheVariants.{Absent, Number}
use Rattle.mac_header_spec.specs.declared.Address.{Address}
use Rattle.mac_header_spec.specs.declared.Address.TheVariants.{Short, Extended}
use Rattle.eb_record_spec.specs.declared.Synchronization.{Synchronization}
use Rattle.eb_record_spec.specs.declared.TimeslotTemplate.{TimeslotTemplate}
use Rattle.eb_record_spec.specs.declared.Link.{Link}
use Rattle.eb_record_spec.specs.declared.Slotframe.{Slotframe}
use Rattle.eb_record_spec.specs.declared.JoiningInformation.{JoiningInformation}
use Rattle.eb_record_spec.specs.declared.Beacon.{Beacon}

-- ---- the IDs of elements (IEEE 802.15.4-2015, 7.4)
-- the header element header termination 1: it ends the header list, and payload elements follow
abbrev pub header_termination1 : ℕ
header_termination1 = 0x7E

-- the payload group MLME
abbrev pub mlme_group : ℕ
mlme_group = 0x1

-- the payload group IETF (RFC 8137)
abbrev pub ietf_group : ℕ
ietf_group = 0x5

-- in it, the subtype of joining information (RFC 9032)
abbrev pub joining_subtype : ℕ
joining_subtype = 0x2

-- the short sub-element synchronization
abbrev pub synchronization_id : ℕ
synchronization_id = 0x1A

-- the short sub-element slotframe and link
abbrev pub slotframe_id : ℕ
slotframe_id = 0x1B

-- the short sub-element timeslot
abbrev pub timeslot_id : ℕ
timeslot_id = 0x1C

-- the long sub-element channel hopping
abbrev pub hopping_id : ℕ
hopping_id = 0x9

-- the short address that all nodes receive
abbrev pub broadcast : ℕ
broadcast = 0xFFFF

-- ---- frame control and the fixed fields
-- the bit of frame control that says that the sequence number is suppressed
unfoldable pub suppressed_bit : SequenceNumber → ℕ
suppressed_bit Absent = 1
suppressed_bit (Number number) = 0

-- the byte of the sequence number, if it is there
unfoldable pub sequence_bytes : SequenceNumber → List ℕ
sequence_bytes Absent = []
sequence_bytes (Number number) = le_bytes 1 number

-- the addressing mode of an address: 2 short, 3 extended
unfoldable pub address_mode : Address → ℕ
address_mode (Short number) = 2
address_mode (Extended number) = 3

-- its bytes
unfoldable pub address_bytes : Address → List ℕ
address_bytes (Short number) = le_bytes 2 number
address_bytes (Extended number) = le_bytes 8 number

-- frame control: type 0, PAN ID compression, elements present, destination short, version 2; all that is ignored on reading is 0
unfoldable pub control_word : SequenceNumber → Address → ℕ
control_word sequence source = 2 ^ 6 + suppressed_bit sequence * 2 ^ 8 + 2 ^ 9 + 2 * 2 ^ 10 + 2 * 2 ^ 12 + address_mode source * 2 ^ 14

-- frame control and the fixed fields: sequence number, destination PAN, destination FF FF, source
unfoldable pub mac_header_bytes : SequenceNumber → ℕ → Address → List ℕ
mac_header_bytes sequence pan source = le_bytes 2 (control_word sequence source) ++ (sequence_bytes sequence ++ (le_bytes 2 pan ++ (le_bytes 2 broadcast ++ address_bytes source)))

-- those of a record
abbrev pub beacon_mac_header : Beacon → List ℕ
beacon_mac_header beacon = mac_header_bytes beacon.sequence beacon.pan beacon.source

-- ---- descriptors
-- the descriptor of a header element: bits 0-6 length, 7-14 ID
unfoldable pub header_descriptor : ℕ → ℕ → List ℕ
header_descriptor id size = le_bytes 2 (size + id * 2 ^ 7)

-- the descriptor of a group: bits 0-10 length, 11-14 group, 15 one
unfoldable pub group_descriptor : ℕ → ℕ → List ℕ
group_descriptor group size = le_bytes 2 (size + group * 2 ^ 11 + 2 ^ 15)

-- the descriptor of a short sub-element: bits 0-7 length, 8-14 ID
unfoldable pub short_descriptor : ℕ → ℕ → List ℕ
short_descriptor id size = le_bytes 2 (size + id * 2 ^ 8)

-- the descriptor of a long sub-element: bits 0-10 length, 11-14 ID, 15 one
unfoldable pub long_descriptor : ℕ → ℕ → List ℕ
long_descriptor id size = le_bytes 2 (size + id * 2 ^ 11 + 2 ^ 15)

-- ---- elements
-- the numbers of a list one after the other, each in so many bytes
unfoldable pub numbers_in : ℕ → List ℕ → List ℕ
numbers_in width [] = []
numbers_in width (number ∷ numbers) = le_bytes width number ++ numbers_in width numbers

-- synchronization: ASN (5 bytes), join metric
unfoldable pub synchronization_bytes : Synchronization → List ℕ
synchronization_bytes synchronization = short_descriptor synchronization_id 6 ++ (le_bytes 5 synchronization.asn ++ le_bytes 1 synchronization.metric)

-- the bytes of each of the last two timings: 2 if both fit, else 3
unfoldable pub last_width : List ℕ → ℕ
last_width [] = 2
last_width (number ∷ numbers) = if_lt number 65536 (last_width numbers) 3

-- the timings: ten of 2 bytes and two of 2 or 3
unfoldable pub timings_bytes : List ℕ → List ℕ
timings_bytes timings = numbers_in 2 (take 10 timings) ++ numbers_in (last_width (drop 10 timings)) (drop 10 timings)

-- the size of the timeslot element behind its descriptor: 1, 25 or 27
unfoldable pub template_size : TimeslotTemplate → ℕ
template_size template = if_on template.timed (21 + 2 * last_width (drop 10 template.timings)) 1

-- timeslot: template ID, then nothing or the timings
unfoldable pub template_bytes : TimeslotTemplate → List ℕ
template_bytes template = short_descriptor timeslot_id (template_size template) ++ (le_bytes 1 template.id ++ if_on template.timed (timings_bytes template.timings) [])

-- hopping: the sequence ID
unfoldable pub hopping_bytes : ℕ → List ℕ
hopping_bytes id = long_descriptor hopping_id 1 ++ le_bytes 1 id

-- a link: timeslot, channel offset, options
unfoldable pub link_bytes : Link → List ℕ
link_bytes link = le_bytes 2 link.timeslot ++ (le_bytes 2 link.channel_offset ++ le_bytes 1 link.options)

-- links one after the other
unfoldable pub links_bytes : List Link → List ℕ
links_bytes [] = []
links_bytes (link ∷ links) = link_bytes link ++ links_bytes links

-- slotframe and link: slotframe count 1, handle, size, number of links, the links
unfoldable pub slotframe_bytes : Slotframe → List ℕ
slotframe_bytes slotframe =
    short_descriptor slotframe_id (5 + 5 * slotframe.count)
    ++ (le_bytes 1 1 ++ (le_bytes 1 slotframe.handle ++ (le_bytes 2 slotframe.size ++ (le_bytes 1 slotframe.count ++ links_bytes (take slotframe.count slotframe.links)))))

-- the size of the MLME group behind its descriptor, with a timeslot element and so many links
unfoldable pub group_size : TimeslotTemplate → ℕ → ℕ
group_size timeslot count = 8 + (2 + template_size timeslot) + 3 + (7 + 5 * count)

-- the MLME group: synchronization, timeslot, hopping, slotframe
unfoldable pub group_bytes : Synchronization → TimeslotTemplate → ℕ → Slotframe → List ℕ
group_bytes synchronization timeslot hopping slotframe =
    group_descriptor mlme_group (group_size timeslot slotframe.count)
    ++ (synchronization_bytes synchronization ++ (template_bytes timeslot ++ (hopping_bytes hopping ++ slotframe_bytes slotframe)))

-- the size of a record's group
abbrev pub beacon_group_size : Beacon → ℕ
beacon_group_size beacon = group_size beacon.timeslot beacon.slotframe.count

-- a record's group
abbrev pub beacon_group : Beacon → List ℕ
beacon_group beacon = group_bytes beacon.synchronization beacon.timeslot beacon.hopping beacon.slotframe

-- a truth value as a bit
abbrev pub flag : Bool → ℕ
flag set = if_on set 1 0

-- the flags and priorities of joining information, most significant bit first: R, P, reserved, proxy, rank and PAN priority
unfoldable pub joining_word : JoiningInformation → ℕ
joining_word joining = flag joining.router * 2 ^ 31 + flag joining.proxied * 2 ^ 30 + joining.proxy * 2 ^ 20 + joining.rank * 2 ^ 8 + joining.pan

-- its size behind its descriptor: subtype, flags and priorities, the address if P, the network ID
unfoldable pub joining_size : JoiningInformation → ℕ
joining_size joining = 5 + 8 * flag joining.proxied + joining.length

-- joining information, if it is there: an IETF group with subtype 2; the address if P; the network ID
unfoldable pub joining_bytes : JoiningInformation → List ℕ
joining_bytes joining =
    if_on joining.present
    (group_descriptor ietf_group (joining_size joining) ++ (le_bytes 1 joining_subtype ++ (be_bytes 4 (joining_word joining) ++ (if_on joining.proxied (be_bytes 8 joining.address) [] ++ take joining.length joining.network))))
    []

-- ---- the frame
-- the frame: the header list is header termination 1 alone, and no payload terminator follows the elements
unfoldable pub frame_of : Beacon → List ℕ
frame_of beacon = beacon_mac_header beacon ++ (header_descriptor header_termination1 0 ++ (beacon_group beacon ++ joining_bytes beacon.joining))

-- its length as a formula of the record
unfoldable pub frame_length : Beacon → ℕ
frame_length beacon =
    8 + length (sequence_bytes beacon.sequence) + length (address_bytes beacon.source)
    + (2 + beacon_group_size beacon) + if_on beacon.joining.present (2 + joining_size beacon.joining) 0
