-- What a field of a record holds: it is absent, or it is there with its value (docs/RULES.md, Fields). Assumes nothing.
use Rattle.std.specs.Prelude.{ℕ, Bool, List, replicate}
use Rattle.octets_spec.specs.Choice.{if_on}
use Rattle.mac_header_spec.specs.declared.SequenceNumber.{SequenceNumber}
use Rattle.mac_header_spec.specs.declared.SequenceNumber.TheVariants.{Absent, Number}
use Rattle.mac_header_spec.specs.declared.Address.{Address}
use Rattle.mac_header_spec.specs.declared.Address.TheVariants.{Short, Extended}
use Rattle.eb_fields_spec.specs.declared.Content.{Content}

-- ---- the kinds
-- the field is not there
abbrev pub absent_kind : ℕ
absent_kind = 0

-- a number
abbrev pub number_kind : ℕ
number_kind = 1

-- a short address
abbrev pub short_kind : ℕ
short_kind = 2

-- an extended address
abbrev pub extended_kind : ℕ
extended_kind = 3

-- octets, which have a length
abbrev pub octets_kind : ℕ
octets_kind = 4

-- ---- the contents
-- what the octets of another kind are
abbrev pub no_octets : List ℕ
no_octets = replicate 16 0

-- the field is not there
unfoldable pub absent_content : Content
absent_content = record { kind = absent_kind; length = 0; number = 0; octets = no_octets }

-- it has this number
unfoldable pub number_content : ℕ → Content
number_content value = record { kind = number_kind; length = 0; number = value; octets = no_octets }

-- it has this address: an address of another kind is another content, also with the same number
unfoldable pub address_content : Address → Content
address_content (Short value) = record { kind = short_kind; length = 0; number = value; octets = no_octets }
address_content (Extended value) = record { kind = extended_kind; length = 0; number = value; octets = no_octets }

-- it has so many octets, the first of these sixteen
unfoldable pub octets_content : ℕ → List ℕ → Content
octets_content size values = record { kind = octets_kind; length = size; number = 0; octets = values }

-- a sequence number, which may be absent
unfoldable pub sequence_content : SequenceNumber → Content
sequence_content Absent = absent_content
sequence_content (Number value) = number_content value

-- this content if the field is there
unfoldable pub content_if : Bool → Content → Content
content_if there content = if_on there content absent_content

-- a flag is the number 0 or 1
unfoldable pub flag_content : Bool → Content
flag_content set = number_content (if_on set 1 0)
