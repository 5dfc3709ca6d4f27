-- The frames that are accepted, as a grammar: what stands behind what, by concatenation. It has no offsets, no bounds, no order of
-- checks and no refusals; `Accepts`, at the end, is a frame and the record that it says (docs/RULES.md, The frame). Assumes nothing.
use Rattle.std.specs.Prelude.{ℕ, ◌+◌, ◌-◌, ◌*◌, ◌^◌, ◌<◌, ◌≤◌, ◌≡◌, true, false, List, [], ◌∷◌, ◌++◌, eqb, length, replicate}
use Rattle.octets_spec.specs.Choice.{if_eq}
use Rattle.eb_record_spec.specs.Record.{blank_link, blank_joining}
use Rattle.mac_header_spec.specs.declared.SequenceNumber.{SequenceNumber}
use Rattle.mac_header_spec.specs.declared.SequenceNumber.TheVariants.{Absent, Number}
use Rattle.mac_header_spec.specs.declared.Address.{Address}
use Rattle.mac_header_spec.specs.declared.Address.TheVariants.{Short, Extended}
use Rattle.eb_record_spec.specs.declared.TimeslotTemplate.{TimeslotTemplate}
use Rattle.eb_record_spec.specs.declared.Link.{Link}
use Rattle.eb_record_spec.specs.declared.Slotframe.{Slotframe}
use Rattle.eb_record_spec.specs.declared.JoiningInformation.{JoiningInformation}
use Rattle.eb_record_spec.specs.declared.Beacon.{Beacon}
use Rattle.eb_grammar_spec.specs.Row.{le, be, bits, Row}

-- ---- frame control and the fixed fields
-- frame control, bits 0 to 15: type (3 bits), security, pending, acknowledge request, PAN ID compression, reserved, sequence suppressed,
-- elements present, destination mode (2), version (2), source mode (2). Pending, acknowledge request and the reserved bit are ignored
pub record FrameControl (word suppressed mode : ℕ) : Type 0 where
  pub type : bits 0 3 word ≡ 0
  pub security : bits 3 1 word ≡ 0
  pub compression : bits 6 1 word ≡ 1
  pub suppression : bits 8 1 word ≡ suppressed
  pub elements : bits 9 1 word ≡ 1
  pub destination : bits 10 2 word ≡ 2
  pub version : bits 12 2 word ≡ 2
  pub source : bits 14 2 word ≡ mode

-- the sequence number, by the bit that says whether it is suppressed
pub data SequenceBytes : ℕ → List ℕ → SequenceNumber → Type 0 where
  -- 1 byte
  numbered : (number : ℕ) → SequenceBytes 0 (number ∷ []) (Number number)
  -- unless suppressed
  suppressed : SequenceBytes 1 [] Absent

-- an address, by its mode
pub data AddressBytes : ℕ → List ℕ → Address → Type 0 where
  -- mode 2: short, 2 bytes
  short_address : (bytes : List ℕ) → length bytes ≡ 2 → AddressBytes 2 bytes (Short (le bytes))
  -- mode 3: extended, 8 bytes
  extended_address : (bytes : List ℕ) → length bytes ≡ 8 → AddressBytes 3 bytes (Extended (le bytes))

-- what stands before the elements, and the sequence number, PAN and source that it says
pub data FixedFields : List ℕ → SequenceNumber → ℕ → Address → Type 0 where
  -- frame control (2), sequence number, destination PAN (2), destination FF FF, source
  fixed_fields : (low high pan_low pan_high : ℕ) {suppression mode : ℕ} {sequence source : List ℕ} {number : SequenceNumber} {address : Address} → FrameControl (le (low ∷ high ∷ [])) suppression mode
      → SequenceBytes suppression sequence number → AddressBytes mode source address
      → FixedFields (low ∷ high ∷ (sequence ++ (pan_low ∷ pan_high ∷ 0xFF ∷ 0xFF ∷ source))) number (le (pan_low ∷ pan_high ∷ [])) address

-- ---- lists of elements
-- the two bytes of a descriptor: a length in the bits below `split`, an ID or a group in those from there to 14, and bit 15
pub record Descriptor (split low high size id top : ℕ) : Type 0 where
  pub parts : le (low ∷ high ∷ []) ≡ size + 2 ^ split * id + 0x8000 * top
  pub length_fits : size < 2 ^ split
  pub id_fits : id < 2 ^ (15 - split)

-- header elements: bits 0-6 length, 7-14 ID, 15 zero
pub data HeaderElements : List ℕ → Type 0 where
  -- no more of them: what ends the list stands in `Accepts`
  header_end : HeaderElements []
  -- all are skipped, but those that end the list: ID 0x7E, and 0x7F, behind which no payload elements follow
  header_element : (low high id : ℕ) (content : List ℕ) {rest : List ℕ} → Descriptor 7 low high (length content) id 0 → (id ≡ 0x7E → ⊥) → (id ≡ 0x7F → ⊥) → HeaderElements rest
      → HeaderElements (low ∷ high ∷ (content ++ rest))

-- an element of the payload: its kind and its content. A sub-element with a short ID has that ID for its kind
pub record Element : Type 0 where
  pub kind : ℕ
  pub content : List ℕ

-- the kind of a sub-element with a long ID
abbrev pub long : ℕ → ℕ
long id = 0x80 + id

-- the kind of an IETF element, by its subtype
abbrev pub ietf : ℕ → ℕ
ietf subtype = 0x100 + subtype

-- a sub-element's descriptor: its length and its kind
pub data SubDescriptor (low high size : ℕ) : ℕ → Type 0 where
  -- bit 15 zero: bits 0-7 length, 8-14 ID
  short_id : (id : ℕ) → Descriptor 8 low high size id 0 → SubDescriptor low high size id
  -- bit 15 one: bits 0-10 length, 11-14 ID
  long_id : (id : ℕ) → Descriptor 11 low high size id 1 → SubDescriptor low high size (long id)

-- the sub-elements of a group, to the group's end
pub data SubElements : List ℕ → List Element → Type 0 where
  -- the group's end
  group_end : SubElements [] []
  -- of any kind: the unknown ones are not asked for below
  sub_element : (low high kind : ℕ) (content : List ℕ) {rest : List ℕ} {found : List Element} → SubDescriptor low high (length content) kind → SubElements rest found
      → SubElements (low ∷ high ∷ (content ++ rest)) (record { kind = kind; content = content } ∷ found)

-- what a payload element holds, by its group
pub data Group : ℕ → List ℕ → List Element → Type 0 where
  -- group 1 (MLME) holds sub-elements
  mlme : {content : List ℕ} {inside : List Element} → SubElements content inside → Group 1 content inside
  -- group 5 (IETF) has a subtype byte first, and so a length of at least 1
  ietf_element : (subtype : ℕ) (content : List ℕ) → Group 5 (subtype ∷ content) (record { kind = ietf subtype; content = content } ∷ [])
  -- other groups are skipped
  other_group : {group : ℕ} {content : List ℕ} → (group ≡ 1 → ⊥) → (group ≡ 5 → ⊥) → Group group content []

-- payload elements: bits 0-10 length, 11-14 group, 15 one
pub data PayloadElements : List ℕ → List Element → Type 0 where
  -- the end of the bytes ends the list
  bytes_end : PayloadElements [] []
  -- group 15, without a length, ends it too: later bytes are ignored
  payload_end : (low high : ℕ) (ignored : List ℕ) → Descriptor 11 low high 0 15 1 → PayloadElements (low ∷ high ∷ ignored) []
  -- behind an element of another group the list goes on
  payload_element : (low high group : ℕ) (content : List ℕ) {rest : List ℕ} {inside found : List Element} → Descriptor 11 low high (length content) group 1 → (group ≡ 15 → ⊥)
      → Group group content inside → PayloadElements rest found → PayloadElements (low ∷ high ∷ (content ++ rest)) (inside ++ found)

-- ---- the known elements: their contents, and what they say
-- timeslot
pub data TimeslotContent : List ℕ → TimeslotTemplate → Type 0 where
  -- length 1: the template ID alone, which is 0
  id_alone : TimeslotContent (0 ∷ []) (record { id = 0; timed = false; timings = replicate 12 0 })
  -- length 25: a template ID, then twelve timings, 2 bytes each
  timed_25 : (id : ℕ) {bytes timings : List ℕ} → Row (replicate 12 2) bytes timings → TimeslotContent (id ∷ bytes) (record { id = id; timed = true; timings = timings })
  -- length 27: the last two have 3 bytes
  timed_27 : (id : ℕ) {bytes timings : List ℕ} → Row (replicate 10 2 ++ (3 ∷ 3 ∷ [])) bytes timings → TimeslotContent (id ∷ bytes) (record { id = id; timed = true; timings = timings })

-- the links of a slotframe of this size
pub data Links (size : ℕ) : List ℕ → List Link → Type 0 where
  -- no more links
  no_links : Links size [] []
  -- timeslot (2, below size), channel offset (2), options (1, kept whole)
  one_link : (timeslot offset options : ℕ) {bytes rest : List ℕ} {links : List Link} → Row (2 ∷ 2 ∷ 1 ∷ []) bytes (timeslot ∷ offset ∷ options ∷ []) → timeslot < size
      → Links size rest links → Links size (bytes ++ rest) (record { timeslot = timeslot; channel_offset = offset; options = options } ∷ links)

-- slotframe and link
pub data SlotframeContent : List ℕ → Slotframe → Type 0 where
  -- slotframe count 1, handle, size (2, at least 1), number of links (1 to 16), the links; in the record, sixteen links, the unused ones blank
  slotframe : (handle size : ℕ) {head body : List ℕ} (links : List Link) → Row (1 ∷ 1 ∷ 2 ∷ 1 ∷ []) head (1 ∷ handle ∷ size ∷ length links ∷ []) → Links size body links
      → 1 ≤ size → 1 ≤ length links → length links ≤ 16
      → SlotframeContent (head ++ body) (record { handle = handle; size = size; count = length links; links = links ++ replicate (16 - length links) blank_link })

-- joining information: the contents of all its elements
pub data JoiningContent : List (List ℕ) → JoiningInformation → Type 0 where
  -- it may be absent
  absent : JoiningContent [] blank_joining
  -- or there once, most significant bit first: R 1, P 1, reserved 3 (ignored), proxy priority 7, rank priority 12, PAN priority 8; then 8
  -- address bytes if P; then 0 to 16 bytes of network ID, which the record fills up with zeros
  joining : (word address network : List ℕ) → length word ≡ 4 → length address ≡ 8 * bits 30 1 (be word) → length network ≤ 16
      → JoiningContent ((word ++ (address ++ network)) ∷ []) (record {
        present = true;
        router = eqb (bits 31 1 (be word)) 1;
        proxied = eqb (bits 30 1 (be word)) 1;
        proxy = bits 20 7 (be word);
        rank = bits 8 12 (be word);
        pan = bits 0 8 (be word);
        address = be address;
        length = length network;
        network = network ++ replicate (16 - length network) 0;
      })

-- ---- the frame
-- the contents of the elements of a kind, in their order
unfoldable pub contents : ℕ → List Element → List (List ℕ)
contents kind [] = []
contents kind (element ∷ found) = if_eq element.kind kind (element.content ∷ contents kind found) (contents kind found)

-- an element of this kind is there exactly once, and its content is so
abbrev pub Once : ℕ → List Element → (List ℕ → Type 0) → Type 0
Once kind found Content = (content : List ℕ) × (contents kind found ≡ content ∷ []) × Content content

-- the elements say this record: the four required ones are there exactly once each, joining information at most once
pub record Says (found : List Element) (beacon : Beacon) : Type 0 where
  -- synchronization, short 0x1A, length 6: ASN (5 bytes), join metric
  pub synchronization : Once 0x1A found (λ content. Row (5 ∷ 1 ∷ []) content (beacon.synchronization.asn ∷ beacon.synchronization.metric ∷ []))
  -- timeslot, short 0x1C
  pub timeslot : Once 0x1C found (λ content. TimeslotContent content beacon.timeslot)
  -- hopping, long 0x9: length 1, the sequence ID
  pub hopping : Once (long 0x9) found (λ content. content ≡ beacon.hopping ∷ [])
  -- slotframe and link, short 0x1B
  pub slotframe : Once 0x1B found (λ content. SlotframeContent content beacon.slotframe)
  -- joining information, IETF subtype 2
  pub joining : JoiningContent (contents (ietf 2) found) beacon.joining

-- a frame that is accepted, and what it says: at most 125 bytes; fixed fields, header elements, ID 0x7E without a length, payload elements
pub record Accepts (frame : List ℕ) (beacon : Beacon) : Type 0 where
  pub fields : List ℕ
  pub header : List ℕ
  pub low : ℕ
  pub high : ℕ
  pub payload : List ℕ
  pub found : List Element
  pub at_most_125 : length frame ≤ 125
  pub stands : frame ≡ fields ++ (header ++ (low ∷ high ∷ payload))
  pub opens : FixedFields fields beacon.sequence beacon.pan beacon.source
  pub skips : HeaderElements header
  pub follows : Descriptor 7 low high 0 0x7E 0
  pub lists : PayloadElements payload found
  pub says : Says found beacon
