-- The limits within which a record can be written: each number fits its bytes on air, each limit of reading is kept, and what is
-- unused is zero (docs/RULES.md, Writing). Assumes nothing.
use Rattle.std.specs.Prelude.{ℕ, ◌^◌, Bool, true, not, ◌&&◌, List, [], ◌∷◌, ltb, eqb, take, drop}
use Rattle.octets_spec.specs.Choice.{if_on}
use Rattle.mac_header_spec.specs.declared.SequenceNumber.{SequenceNumber}
use Rattle.mac_header_spec.specs.declared.SequenceNumber.TheVariants.{Absent, Number}
use Rattle.eb_record_spec.specs.declared.Synchronization.{Synchronization}
use Rattle.eb_record_spec.specs.declared.TimeslotTemplate.{TimeslotTemplate}
use Rattle.eb_record_spec.specs.declared.Link.{Link}
use Rattle.eb_record_spec.specs.declared.Slotframe.{Slotframe}
use Rattle.eb_record_spec.specs.declared.JoiningInformation.{JoiningInformation}
use Rattle.eb_record_spec.specs.declared.Beacon.{Beacon}
use Rattle.eb_record_spec.specs.Form.{address_fits}

-- a test holds of every entry of a list
unfoldable pub all_of : {A : Type 0} → (A → Bool) → List A → Bool
all_of test [] = true
all_of test (element ∷ elements) = test element && all_of test elements

-- every number of a list is below a bound; below 1 it is zero
unfoldable pub all_below : ℕ → List ℕ → Bool
all_below bound numbers = all_of (λ number. ltb number bound) numbers

-- a sequence number has one byte
unfoldable pub sequence_fits : SequenceNumber → Bool
sequence_fits Absent = true
sequence_fits (Number number) = ltb number 256

-- the ASN has 5 bytes
unfoldable pub synchronization_fits : Synchronization → Bool
synchronization_fits synchronization = ltb synchronization.asn (2 ^ 40) && ltb synchronization.metric 256

-- with timings, the first ten are below 2^16 and the last two below 2^24; the ID alone must be 0, and its timings are unused
unfoldable pub template_fits : TimeslotTemplate → Bool
template_fits template =
    ltb template.id 256
    && if_on template.timed
    (all_below (2 ^ 16) (take 10 template.timings) && all_below (2 ^ 24) (drop 10 template.timings))
    (eqb template.id 0 && all_below 1 template.timings)

-- a link's timeslot is below the size, and its options have one byte
unfoldable pub link_fits : ℕ → Link → Bool
link_fits size link = ltb link.timeslot size && (ltb link.channel_offset (2 ^ 16) && ltb link.options 256)

-- an unused link is all zero
unfoldable pub link_unused : Link → Bool
link_unused link = eqb link.timeslot 0 && (eqb link.channel_offset 0 && eqb link.options 0)

-- size at least 1, 1 to 16 links, and the links behind them unused
unfoldable pub slotframe_fits : Slotframe → Bool
slotframe_fits slotframe =
    ltb slotframe.handle 256
    && (ltb 0 slotframe.size && (ltb slotframe.size (2 ^ 16)
    && (ltb 0 slotframe.count && (ltb slotframe.count 17
    && (all_of (link_fits slotframe.size) (take slotframe.count slotframe.links)
    && all_of link_unused (drop slotframe.count slotframe.links))))))

-- the address is unused if P is not set
unfoldable pub proxy_fits : JoiningInformation → Bool
proxy_fits joining = if_on joining.proxied (ltb joining.address (2 ^ 64)) (eqb joining.address 0)

-- proxy priority 7 bits, rank priority 12, PAN priority 8, a network ID of 0 to 16 bytes, and the bytes behind it unused
unfoldable pub present_fits : JoiningInformation → Bool
present_fits joining =
    ltb joining.proxy 128
    && (ltb joining.rank 4096 && (ltb joining.pan 256
    && (proxy_fits joining
    && (ltb joining.length 17
    && (all_below 256 (take joining.length joining.network)
    && all_below 1 (drop joining.length joining.network))))))

-- absent joining information is unused as a whole
unfoldable pub absent_fits : JoiningInformation → Bool
absent_fits joining =
    not joining.router
    && (not joining.proxied
    && (eqb joining.proxy 0 && (eqb joining.rank 0 && (eqb joining.pan 0 && (eqb joining.address 0 && (eqb joining.length 0 && all_below 1 joining.network))))))

-- joining information, there or not
unfoldable pub joining_fits : JoiningInformation → Bool
joining_fits joining = if_on joining.present (present_fits joining) (absent_fits joining)

-- a record within the limits
unfoldable pub fits : Beacon → Bool
fits beacon =
    sequence_fits beacon.sequence
    && (ltb beacon.pan (2 ^ 16)
    && (address_fits beacon.source
    && (synchronization_fits beacon.synchronization
    && (template_fits beacon.timeslot
    && (ltb beacon.hopping 256
    && (slotframe_fits beacon.slotframe
    && joining_fits beacon.joining))))))
