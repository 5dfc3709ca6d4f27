-- The line of text that a reading is printed as, as bytes in ASCII (docs/RULES.md, The printed line). Assumes nothing.
use Rattle.std.specs.Prelude.{ℕ, List, [], ◌∷◌, ◌++◌}
use Rattle.octets_spec.specs.Choice.{if_eq}
use Rattle.refusal.specs.Refusal.{done}
use Rattle.eb_record_spec.specs.declared.Beacon.{Beacon}
use Rattle.eb_read_spec.specs.Read.{ReadAnswer, read_frame}
use Rattle.text_put_spec.specs.Part.{newline, field, refused_text, line_in}

-- `asn `
abbrev pub asn_name : List ℕ
asn_name = 97 ∷ 115 ∷ 110 ∷ 32 ∷ []

-- ` metric `
abbrev pub metric_name : List ℕ
metric_name = 32 ∷ 109 ∷ 101 ∷ 116 ∷ 114 ∷ 105 ∷ 99 ∷ 32 ∷ []

-- ` size `
abbrev pub size_name : List ℕ
size_name = 32 ∷ 115 ∷ 105 ∷ 122 ∷ 101 ∷ 32 ∷ []

-- ` links `
abbrev pub links_name : List ℕ
links_name = 32 ∷ 108 ∷ 105 ∷ 110 ∷ 107 ∷ 115 ∷ 32 ∷ []

-- `asn ` and ` metric `
unfoldable pub synchronization_text : ℕ → ℕ → List ℕ
synchronization_text asn metric = field asn_name asn ++ field metric_name metric

-- ` size ` and ` links `, which end the line
unfoldable pub slotframe_text : ℕ → ℕ → List ℕ
slotframe_text size links = field size_name size ++ (field links_name links ++ newline)

-- what an accepted frame says: `asn 256 metric 2 size 11 links 1`
unfoldable pub accepted_text : Beacon → List ℕ
accepted_text beacon = synchronization_text beacon.synchronization.asn beacon.synchronization.metric ++ slotframe_text beacon.slotframe.size beacon.slotframe.count

-- the line of a reading, with its newline
unfoldable pub line_of : ReadAnswer → List ℕ
line_of answer = if_eq answer.number done (accepted_text answer.beacon) (refused_text answer.number)

-- the least buffer that gets a line
abbrev pub line_room : ℕ
line_room = 128

-- what a frame puts into a buffer of some length: its line, and nothing into a buffer of under 128 bytes
abbrev pub line_for : ℕ → List ℕ → List ℕ
line_for room frame = line_in line_room room (line_of (read_frame frame))
