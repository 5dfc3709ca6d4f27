-- What is accepted of a frame before its elements: the checks of its length and its MAC header, in their order (docs/RULES.md, The order of
-- checks). How the fields are found is none of it. Assumes nothing.
use Rattle.std.specs.Prelude.{ℕ, List, length}
use Rattle.octets_spec.specs.Choice.{if_lt, if_ne}
use Rattle.refusal.specs.Refusal.{done, frame_too_long, cut, wrong_type, secured, addressing}
use Rattle.mac_header_spec.specs.Control.{version2015, short_mode}
use Rattle.mac_header_spec.specs.Fields.{mac_header_of}
use Rattle.mac_header_spec.specs.declared.Control.{Control}
use Rattle.mac_header_spec.specs.declared.MacHeader.{MacHeader}

-- the type of a beacon
abbrev pub beacon_type : ℕ
beacon_type = 0

-- the short address that all nodes receive
abbrev pub broadcast : ℕ
broadcast = 0xFFFF

-- the accepted form: a beacon of version 2015 (3), no security (4), destination short, source short or extended, compression 1, elements present 1 (5)
unfoldable pub form_fault : Control → ℕ
form_fault control =
    if_ne control.kind beacon_type wrong_type
    (if_ne control.version version2015 wrong_type
    (if_ne control.security 0 secured
    (if_ne control.destination short_mode addressing
    (if_lt control.source short_mode addressing
    (if_ne control.compression 1 addressing
    (if_ne control.elements 1 addressing
    done))))))

-- a frame of this size with this MAC header: over 125 bytes (1); under 2 bytes (2); frame control; fields cut (2); the destination (5)
unfoldable pub policy_fault : ℕ → MacHeader → ℕ
policy_fault size header =
    if_lt 125 size frame_too_long
    (if_lt size 2 cut
    (if_ne (form_fault header.control) done (form_fault header.control)
    (if_lt header.end header.elements cut
    (if_ne header.destination broadcast addressing
    done))))

-- the checks of a frame before its elements
unfoldable pub mac_header_fault : List ℕ → ℕ
mac_header_fault s = policy_fault (length s) (mac_header_of s)
