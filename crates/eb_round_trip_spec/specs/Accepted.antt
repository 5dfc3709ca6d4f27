-- What reading accepts can be written (docs/RULES.md, Writing). Assumes nothing.
use Rattle.std.specs.Prelude.{ℕ, ◌≤◌, ◌≡◌, true, List, length}
use Rattle.refusal.specs.Refusal.{done, frame_too_long, out_of_limits, buffer_too_short}
use Rattle.eb_record_spec.specs.declared.BeaconForm.{BeaconForm}
use Rattle.eb_record_spec.specs.Form.{form_of, beacon_of, is_beacon}
use Rattle.eb_read_spec.specs.Read.{read_frame}
use Rattle.eb_read_spec.specs.Claims.{Bytes}
use Rattle.eb_read_spec.specs.Witnesses.{shortest}
use Rattle.eb_write_spec.specs.Frame.{frame_of}
use Rattle.eb_write_spec.specs.Limits.{fits}
use Rattle.eb_write_spec.specs.Form.{form_written}
use Rattle.eb_round_trip_spec.specs.ReadBack.{Sized}

-- every record that reading accepts is within the limits of writing
abbrev pub AcceptedFits : Type 0
AcceptedFits = (s : List ℕ) → Bytes s → (read_frame s).number ≡ done → fits (read_frame s).beacon ≡ true

-- what was read is written in at most as many bytes as were received
abbrev pub WrittenIsNotLonger : Type 0
WrittenIsNotLonger = (s : List ℕ) → Bytes s → (read_frame s).number ≡ done → length (frame_of (read_frame s).beacon) ≤ length s

-- so that writing does not refuse it for its length
abbrev pub WrittenIsShort : Type 0
WrittenIsShort = (s : List ℕ) → Bytes s → (read_frame s).number ≡ done → length (frame_of (read_frame s).beacon) ≤ 125

-- an accepted frame, written anew and read, gives its record
abbrev pub AcceptedReadsBack : Type 0
AcceptedReadsBack = (s : List ℕ) → Bytes s → (read_frame s).number ≡ done → read_frame (frame_of (read_frame s).beacon) ≡ read_frame s

-- the frame of 38 bytes meets what these theorems ask for: it is bytes and is accepted; and it is written back as it was received
abbrev pub ShortestIsWrittenBack : Type 0
ShortestIsWrittenBack = Bytes shortest × ((read_frame shortest).number ≡ done) × (frame_of (read_frame shortest).beacon ≡ shortest)

-- the form of a record that was read can be handed to the writer as it is: it is a record's, it is refused neither for its limits nor for its
-- length, and in a buffer of at least as many bytes as were received it is written
abbrev pub ReadFormsAreWritten : Type 0
ReadFormsAreWritten =
    (s : List ℕ) → Bytes s → (read_frame s).number ≡ done →
    let form : BeaconForm = form_of (read_frame s).beacon in
    (is_beacon form ≡ true)
    × ((buffer : ℕ) → (form_written form buffer).number ≡ out_of_limits → ⊥)
    × ((buffer : ℕ) → (form_written form buffer).number ≡ frame_too_long → ⊥)
    × ((buffer : ℕ) → length s ≤ buffer → form_written form buffer ≡ record { number = done; length = length (frame_of (read_frame s).beacon) })

-- so is that of the 38 bytes, as the claims on forms ask: its arrays have their sizes; in a buffer of 38 bytes it is written, in one of 37
-- it is refused for the buffer
abbrev pub ShortestFormIsWritten : Type 0
ShortestFormIsWritten =
    let form : BeaconForm = form_of (read_frame shortest).beacon in
    Sized (beacon_of form)
    × (form_written form 38 ≡ record { number = done; length = 38 })
    × (form_written form 37 ≡ record { number = buffer_too_short; length = 0 })
