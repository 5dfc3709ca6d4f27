-- What is accepted of an acknowledgement before its elements: the checks of its length and its MAC header, in their order (docs/RULES.md,
-- Acknowledgements). How the fields are found is none of it, and is the same as for a beacon. Assumes nothing.
use Rattle.std.specs.Prelude.{ℕ, List, length}
use Rattle.octets_spec.specs.Choice.{if_lt, if_eq, if_ne}
use Rattle.refusal.specs.Refusal.{done, frame_too_long, cut, wrong_type, secured, addressing}
use Rattle.mac_header_spec.specs.Control.{version2015, short_mode, extended_mode}
use Rattle.mac_header_spec.specs.Fields.{mac_header_of}
use Rattle.mac_header_spec.specs.declared.Control.{Control}
use Rattle.mac_header_spec.specs.declared.MacHeader.{MacHeader}

-- the type of an acknowledgement
abbrev pub ack_type : ℕ
ack_type = 2

-- PAN ID compression by the modes of destination and source: 0 where both are extended, else 1
unfoldable pub compression_of : ℕ → ℕ → ℕ
compression_of destination source = if_eq destination extended_mode (if_eq source extended_mode 0 1) 1

-- the accepted addressing: destination and source short or extended, the compression that they ask for, elements present 1
unfoldable pub addressing_fault : Control → ℕ
addressing_fault control =
    if_lt control.destination short_mode addressing
    (if_lt control.source short_mode addressing
    (if_ne control.compression (compression_of control.destination control.source) addressing
    (if_ne control.elements 1 addressing
    done)))

-- the accepted form: an acknowledgement of version 2015 (3), no security (4), the accepted addressing (5)
unfoldable pub form_fault : Control → ℕ
form_fault control =
    if_ne control.kind ack_type wrong_type
    (if_ne control.version version2015 wrong_type
    (if_ne control.security 0 secured
    (addressing_fault control)))

-- a frame of this size with this MAC header: over 125 bytes (1); under 2 bytes (2); frame control; fields cut (2)
unfoldable pub policy_fault : ℕ → MacHeader → ℕ
policy_fault size header =
    if_lt 125 size frame_too_long
    (if_lt size 2 cut
    (if_ne (form_fault header.control) done (form_fault header.control)
    (if_lt header.end header.elements cut
    done)))

-- the checks of a frame before its elements
unfoldable pub mac_header_fault : List ℕ → ℕ
mac_header_fault s = policy_fault (length s) (mac_header_of s)
