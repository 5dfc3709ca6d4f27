-- The frame of an acknowledgement: its bytes in the order on air (docs/RULES.md, Acknowledgements). The bytes of a sequence number, of an address
-- and of a descriptor are a beacon's. Assumes nothing.
use Rattle.std.specs.Prelude.{ℕ, suc, ◌+◌, ◌-◌, ◌*◌, ◌^◌, Bool, List, ◌++◌, ℤ, pos, negsuc, length}
use Rattle.octets_spec.specs.Number.{le_bytes}
use Rattle.mac_header_spec.specs.declared.Address.{Address}
use Rattle.mac_header_spec.specs.declared.Address.TheVariants.{Short, Extended}
use Rattle.eb_write_spec.specs.Frame.{suppressed_bit, sequence_bytes, address_mode, address_bytes, header_descriptor, flag}
use Rattle.ack_record_spec.specs.declared.Ack.{Ack}
use Rattle.ack_record_spec.specs.Record.{correction_id}

-- the bit of PAN ID compression by destination and source: 0 where both are extended, else 1
unfoldable pub compression_bit : Address → Address → ℕ
compression_bit (Short destination) source = 1
compression_bit (Extended destination) (Short source) = 1
compression_bit (Extended destination) (Extended source) = 0

-- frame control: type 2, PAN ID compression, elements present, version 2, both modes; all that is ignored on reading is 0
unfoldable pub control_word : Ack → ℕ
control_word ack =
    2 + compression_bit ack.destination ack.source * 2 ^ 6 + suppressed_bit ack.sequence * 2 ^ 8 + 2 ^ 9
    + address_mode ack.destination * 2 ^ 10 + 2 * 2 ^ 12 + address_mode ack.source * 2 ^ 14

-- frame control and the fixed fields: sequence number, destination PAN, destination, source
unfoldable pub mac_header_bytes : Ack → List ℕ
mac_header_bytes ack = le_bytes 2 (control_word ack) ++ (sequence_bytes ack.sequence ++ (le_bytes 2 ack.pan ++ (address_bytes ack.destination ++ address_bytes ack.source)))

-- a correction in 12 bits, in two's complement
unfoldable pub correction_bits : ℤ → ℕ
correction_bits (pos microseconds) = microseconds
correction_bits (negsuc less) = 2 ^ 12 - suc less

-- the content of the correction: bits 0 to 11 the correction, 12 to 14 zero, 15 not acknowledged
unfoldable pub correction_word : ℤ → Bool → ℕ
correction_word correction nack = correction_bits correction + flag nack * 2 ^ 15

-- the header list is the correction alone, and no terminator follows
unfoldable pub correction_bytes : ℤ → Bool → List ℕ
correction_bytes correction nack = header_descriptor correction_id 2 ++ le_bytes 2 (correction_word correction nack)

-- the frame
unfoldable pub frame_of : Ack → List ℕ
frame_of ack = mac_header_bytes ack ++ correction_bytes ack.correction ack.nack

-- its length as a formula of the record
unfoldable pub frame_length : Ack → ℕ
frame_length ack = 8 + length (sequence_bytes ack.sequence) + length (address_bytes ack.destination) + length (address_bytes ack.source)
