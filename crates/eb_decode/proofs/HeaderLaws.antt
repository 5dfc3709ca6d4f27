-- The laws of the MAC header's fields without enums, in the shape in which the code meets them. Assumes nothing.
use Prim.Native.Nat.{ℕ, ◌<◌}
use mathlib.Core.Path.{◌≡◌, refl}
use mathlib.Core.Bool.{true, ◌&&◌, ◌||◌}
use mathlib.Core.List.{List}
use lib.Dec.{eqb, ltb}
use Rattle.mac_header_spec.specs.Fields.{mac_header_of}
use Rattle.mac_header_spec.specs.declared.MacHeader.{MacHeader}
use Rattle.eb_record_spec.proofs.FieldForms.{sequence_form, sequence_zero, address_form, number_form, kind_fits, suppressed_zero}
use Rattle.eb_decode.specs.Header.{header_form}

pub header_is : (s : List ℕ) (header : MacHeader) → header ≡ mac_header_of s
    → record { sequenced = eqb header.control.suppressed 0; sequence = header.sequence; pan = header.pan; extended = eqb header.control.source 3; source = header.source } ≡ header_form s
unfolding header_form
header_is s header e =
    rw (e, sequence_form (mac_header_of s), sequence_zero s, address_form (mac_header_of s).control.source (mac_header_of s).source, number_form (mac_header_of s).control.source (mac_header_of s).source) refl

-- the header of a frame is a record's
pub header_fits : (s : List ℕ) (header : MacHeader) → header ≡ mac_header_of s → ((header.control.source ≡ 3 → ⊥) → header.source < 65536)
    → ((eqb header.control.suppressed 0 || eqb header.sequence 0) && (eqb header.control.source 3 || ltb header.source 65536)) ≡ true
header_fits s header e short = rw (kind_fits header.control.source header.source short, e, suppressed_zero s) refl

pub ruleset heading = (header_is, header_fits)
