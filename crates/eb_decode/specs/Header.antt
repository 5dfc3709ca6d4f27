-- The fields of a MAC header as a record has them, without enums (docs/RULES.md, C interface). Assumes nothing.
use Rattle.std.specs.Prelude.{List, ℕ}
use Rattle.mac_header_spec.specs.Fields.{mac_header_of, sequence_of, address_of}
use Rattle.eb_record_spec.specs.Form.{is_sequenced, sequence_number, is_extended, address_number}
use Rattle.eb_decode.specs.declared.header.HeaderForm.{HeaderForm}

-- the sequence number, the PAN and the source of a frame
unfoldable pub header_form : List ℕ → HeaderForm
header_form s =
    let header = mac_header_of s in
    let source = address_of header.control.source header.source in
    record { sequenced = is_sequenced (sequence_of header); sequence = sequence_number (sequence_of header); pan = header.pan; extended = is_extended source; source = address_number source }
