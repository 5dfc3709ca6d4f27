-- The fields of a MAC header, each from its bytes, and where the elements behind them start and end (docs/RULES.md, The frame). Nothing here
-- says which frames are accepted. Assumes nothing.
use Rattle.std.specs.Prelude.{ℕ, ◌+◌, ◌<◌, ◌^◌, ◌≡◌, List, length, get_or}
use Rattle.octets_spec.specs.Choice.{if_eq}
use Rattle.octets_spec.specs.Number.{le_at}
use Rattle.mac_header_spec.specs.Control.{extended_mode, control_of}
use Rattle.mac_header_spec.specs.declared.Control.{Control}
use Rattle.mac_header_spec.specs.declared.FieldOffsets.{FieldOffsets}
use Rattle.mac_header_spec.specs.declared.MacHeader.{MacHeader}
use Rattle.mac_header_spec.specs.declared.SequenceNumber.{SequenceNumber}
use Rattle.mac_header_spec.specs.declared.SequenceNumber.TheVariants.{Absent, Number}
use Rattle.mac_header_spec.specs.declared.Address.{Address}
use Rattle.mac_header_spec.specs.declared.Address.TheVariants.{Short, Extended}

-- the bytes of an address: 8 of an extended one, 2 of a short one
unfoldable pub address_length : ℕ → ℕ
address_length mode = if_eq mode extended_mode 8 2

-- the order on air: frame control (2 bytes), sequence number (1, unless suppressed), destination PAN (2), destination, source, and the
-- elements, which end where the frame of this size does
unfoldable pub offsets_of : Control → ℕ → FieldOffsets
offsets_of control size =
    let pan : ℕ = if_eq control.suppressed 0 3 2 in
    let destination : ℕ = pan + 2 in
    let source : ℕ = destination + address_length control.destination in
    record { pan = pan; destination = destination; source = source; elements = source + address_length control.source; end = size }

-- the fields of a frame's MAC header, and where the elements start and end
unfoldable pub mac_header_of : List ℕ → MacHeader
mac_header_of s =
    let control = control_of (le_at 2 s 0) in
    let offsets = offsets_of control (length s) in
    record {
      control = control;
      sequence = if_eq control.suppressed 0 (get_or s 2 0) 0;
      pan = le_at 2 s offsets.pan;
      destination = le_at (address_length control.destination) s offsets.destination;
      source = le_at (address_length control.source) s offsets.source;
      elements = offsets.elements;
      end = offsets.end;
    }

-- the sequence number, or that there is none
unfoldable pub sequence_of : MacHeader → SequenceNumber
sequence_of header = if_eq header.control.suppressed 0 (Number header.sequence) Absent

-- an address of a mode
unfoldable pub address_of : ℕ → ℕ → Address
address_of mode number = if_eq mode extended_mode (Extended number) (Short number)

-- an address that is not extended has two bytes
abbrev pub AddressesFit : MacHeader → Type 0
AddressesFit header = ((header.control.destination ≡ extended_mode → ⊥) → header.destination < 2 ^ 16) × ((header.control.source ≡ extended_mode → ⊥) → header.source < 2 ^ 16)
