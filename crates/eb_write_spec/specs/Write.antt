-- Writing: the checks in their order, the answer, and what the lent buffer holds afterwards (docs/RULES.md, Writing): of any record, by whether
-- it is within its limits and by its frame, and so of a beacon. Assumes nothing.
use Rattle.std.specs.Prelude.{ℕ, Bool, List, ◌++◌, length, drop, Result, Ok, Err}
use Rattle.octets_spec.specs.Choice.{if_off, if_lt, if_eq}
use Rattle.refusal.specs.declared.Refusal.{Refusal}
use Rattle.refusal.specs.Refusal.{done, frame_too_long, out_of_limits, buffer_too_short, number_of}
use Rattle.eb_record_spec.specs.declared.Beacon.{Beacon}
use Rattle.eb_write_spec.specs.Frame.{frame_of}
use Rattle.eb_write_spec.specs.Limits.{fits}
use Rattle.eb_write_spec.specs.declared.Written.{Written}

-- the number for a buffer of this length: the limits first, then the frame's length, then the buffer's
unfoldable pub number_for : Bool → List ℕ → ℕ → ℕ
number_for within frame buffer =
    if_off within out_of_limits
    (if_lt 125 (length frame) frame_too_long
    (if_lt buffer (length frame) buffer_too_short
    done))

-- the answer: the number and the frame's length, which is 0 on a refusal
unfoldable pub answer_for : Bool → List ℕ → ℕ → Written
answer_for within frame buffer = record { number = number_for within frame buffer; length = if_eq (number_for within frame buffer) done (length frame) 0 }

-- the buffer afterwards: the frame at its start and the rest as it was, or as a whole as it was
unfoldable pub buffer_for : Bool → List ℕ → List ℕ → List ℕ
buffer_for within frame buffer = if_eq (number_for within frame (length buffer)) done (frame ++ drop (length frame) buffer) buffer

-- what a call of writing answers, by its number and the frame's length, as C has it
abbrev pub written_of : Result ℕ Refusal → Written
written_of (Ok bytes) = record { number = done; length = bytes }
written_of (Err refusal) = record { number = number_of refusal; length = 0 }

-- ---- a beacon
-- the number
abbrev pub written_number : Beacon → ℕ → ℕ
written_number beacon buffer = number_for (fits beacon) (frame_of beacon) buffer

-- the answer
abbrev pub written_in : Beacon → ℕ → Written
written_in beacon buffer = answer_for (fits beacon) (frame_of beacon) buffer

-- the buffer afterwards
abbrev pub buffer_after : Beacon → List ℕ → List ℕ
buffer_after beacon buffer = buffer_for (fits beacon) (frame_of beacon) buffer
