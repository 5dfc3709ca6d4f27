-- The fields of a record, each with its name and its content, in the order on air (docs/RULES.md, Fields). A field more is a row more.
-- Assumes nothing.
use Rattle.std.specs.Prelude.{ℕ, zero, suc, List, [], ◌∷◌, ◌++◌, ltb, get_or, ◌&&◌}
use Rattle.mac_header_spec.specs.declared.SequenceNumber.{SequenceNumber}
use Rattle.mac_header_spec.specs.declared.Address.{Address}
use Rattle.mac_header_spec.specs.declared.Address.TheVariants.{Extended}
use Rattle.eb_record_spec.specs.declared.Synchronization.{Synchronization}
use Rattle.eb_record_spec.specs.declared.TimeslotTemplate.{TimeslotTemplate}
use Rattle.eb_record_spec.specs.declared.Link.{Link}
use Rattle.eb_record_spec.specs.declared.Slotframe.{Slotframe}
use Rattle.eb_record_spec.specs.declared.JoiningInformation.{JoiningInformation}
use Rattle.eb_record_spec.specs.declared.Beacon.{Beacon}
use Rattle.eb_record_spec.specs.Record.{blank_link, blank_beacon}
use Rattle.eb_fields_spec.specs.declared.Content.{Content}
use Rattle.eb_fields_spec.specs.Content.{absent_content, number_content, address_content, octets_content, sequence_content, content_if, flag_content}
use Rattle.eb_fields_spec.specs.Names.{sequence_name, pan_name, source_name, asn_name, metric_name, template_name, timing_cca_offset_name, timing_cca_name, timing_tx_offset_name, timing_rx_offset_name, timing_rx_ack_delay_name, timing_tx_ack_delay_name, timing_rx_wait_name, timing_ack_wait_name, timing_rx_tx_name, timing_max_ack_name, timing_max_tx_name, timing_timeslot_length_name, hopping_name, handle_name, size_name, count_name, link_timeslot_name, link_offset_name, link_options_name, link_field_name, router_name, proxied_name, proxy_priority_name, rank_priority_name, pan_priority_name, proxy_address_name, network_name}

-- a field
pub record Field : Type 0 where
  pub name : List ℕ
  pub content : Content

-- a row of the list
abbrev pub row : List ℕ → Content → Field
row name content = record { name = name; content = content }

-- what stands behind the list: no field, absent
abbrev pub no_field : Field
no_field = row [] absent_content

-- ---- the MAC header: sequence number, PAN, source
abbrev pub header_fields : SequenceNumber → ℕ → Address → List Field
header_fields sequence pan source =
    row sequence_name (sequence_content sequence)
    ∷ row pan_name (number_content pan)
    ∷ row source_name (address_content source)
    ∷ []

-- ---- synchronization: ASN, join metric
abbrev pub synchronization_fields : Synchronization → List Field
synchronization_fields synchronization =
    row asn_name (number_content synchronization.asn)
    ∷ row metric_name (number_content synchronization.metric)
    ∷ []

-- ---- timeslot: template ID, timings
-- the names of the twelve timings
abbrev pub timing_names : List (List ℕ)
timing_names =
    timing_cca_offset_name
    ∷ timing_cca_name
    ∷ timing_tx_offset_name
    ∷ timing_rx_offset_name
    ∷ timing_rx_ack_delay_name
    ∷ timing_tx_ack_delay_name
    ∷ timing_rx_wait_name
    ∷ timing_ack_wait_name
    ∷ timing_rx_tx_name
    ∷ timing_max_ack_name
    ∷ timing_max_tx_name
    ∷ timing_timeslot_length_name
    ∷ []

-- the timing at a place: there if the template comes with timings
unfoldable pub timing_content : TimeslotTemplate → ℕ → Content
timing_content template place = content_if template.timed (number_content (get_or template.timings place 0))

-- a row for each name, from a place on
abbrev pub timing_fields : TimeslotTemplate → ℕ → List (List ℕ) → List Field
timing_fields template place [] = []
timing_fields template place (name ∷ names) = row name (timing_content template place) ∷ timing_fields template (suc place) names

-- the template ID, and all timings
abbrev pub timeslot_fields : TimeslotTemplate → List Field
timeslot_fields template = row template_name (number_content template.id) ∷ timing_fields template 0 timing_names

-- ---- hopping: sequence ID
abbrev pub hopping_fields : ℕ → List Field
hopping_fields id = row hopping_name (number_content id) ∷ []

-- ---- slotframe and link: handle, size, number of links, links
-- the link at a place
abbrev pub link_at : Slotframe → ℕ → Link
link_at slotframe place = get_or slotframe.links place blank_link

-- a number of the link at a place: there if the place is below the number of links
unfoldable pub link_content : Slotframe → ℕ → ℕ → Content
link_content slotframe place value = content_if (ltb place slotframe.count) (number_content value)

-- three rows for each of so many places, from a place on: timeslot, channel offset, options
abbrev pub link_fields : Slotframe → ℕ → ℕ → List Field
link_fields slotframe place zero = []
link_fields slotframe place (suc places) =
    row (link_field_name place link_timeslot_name) (link_content slotframe place (link_at slotframe place).timeslot)
    ∷ row (link_field_name place link_offset_name) (link_content slotframe place (link_at slotframe place).channel_offset)
    ∷ row (link_field_name place link_options_name) (link_content slotframe place (link_at slotframe place).options)
    ∷ link_fields slotframe (suc place) places

-- handle, size and number of links, and all links
abbrev pub slotframe_fields : Slotframe → List Field
slotframe_fields slotframe =
    row handle_name (number_content slotframe.handle)
    ∷ row size_name (number_content slotframe.size)
    ∷ row count_name (number_content slotframe.count)
    ∷ link_fields slotframe 0 16

-- ---- joining information: R, P, three priorities, the proxy's address if P is set, the network ID; all there or all absent
abbrev pub joining_fields : JoiningInformation → List Field
joining_fields joining =
    row router_name (content_if joining.present (flag_content joining.router))
    ∷ row proxied_name (content_if joining.present (flag_content joining.proxied))
    ∷ row proxy_priority_name (content_if joining.present (number_content joining.proxy))
    ∷ row rank_priority_name (content_if joining.present (number_content joining.rank))
    ∷ row pan_priority_name (content_if joining.present (number_content joining.pan))
    ∷ row proxy_address_name (content_if (joining.present && joining.proxied) (address_content (Extended joining.address)))
    ∷ row network_name (content_if joining.present (octets_content joining.length joining.network))
    ∷ []

-- ---- all of them
unfoldable pub fields : Beacon → List Field
fields beacon =
    header_fields beacon.sequence beacon.pan beacon.source
    ++ (synchronization_fields beacon.synchronization
    ++ (timeslot_fields beacon.timeslot
    ++ (hopping_fields beacon.hopping
    ++ (slotframe_fields beacon.slotframe
    ++ joining_fields beacon.joining))))

-- how many there are
abbrev pub field_count : ℕ
field_count = 77

-- the content of the field at a place of a list
abbrev pub content_in : List Field → ℕ → Content
content_in rows place = (get_or rows place no_field).content

-- its name
abbrev pub name_in : List Field → ℕ → List ℕ
name_in rows place = (get_or rows place no_field).name

-- the content of a record's field at a place; absent behind the last
unfoldable pub content_at : Beacon → ℕ → Content
content_at beacon place = content_in (fields beacon) place

-- the name of the field at a place, which every record's list has there; no name behind the last
unfoldable pub name_at : ℕ → List ℕ
name_at place = name_in (fields blank_beacon) place
