-- What holds of writing every record, and every form of one (docs/RULES.md, Writing). Assumes nothing.
use Rattle.std.specs.Prelude.{ℕ, ◌<◌, ◌≤◌, ◌≡◌, Bool, true, false, length}
use Rattle.refusal.specs.Refusal.{done, frame_too_long, out_of_limits, buffer_too_short, GivenWhen}
use Rattle.eb_record_spec.specs.declared.Beacon.{Beacon}
use Rattle.eb_record_spec.specs.declared.BeaconForm.{BeaconForm}
use Rattle.eb_record_spec.specs.Form.{beacon_of}
use Rattle.eb_write_spec.specs.Frame.{frame_of}
use Rattle.eb_write_spec.specs.Limits.{fits}
use Rattle.eb_write_spec.specs.Write.{written_number}
use Rattle.eb_write_spec.specs.Form.{form_fits, form_written}

-- when each number is given, by whether the record is within the limits, the bytes of its frame and those of the buffer: the record is
-- outside the limits; else the frame is longer than 125 bytes; else the buffer is shorter than the frame; else the frame is written
abbrev pub EachWhen : ℕ → Bool → ℕ → ℕ → Type 0
EachWhen given within bytes buffer =
    GivenWhen given out_of_limits (within ≡ false)
    × GivenWhen given frame_too_long ((within ≡ true) × (125 < bytes))
    × GivenWhen given buffer_too_short ((within ≡ true) × (bytes ≤ 125) × (buffer < bytes))
    × GivenWhen given done ((within ≡ true) × (bytes ≤ 125) × (bytes ≤ buffer))

-- the numbers of writing a record
abbrev pub WriteNumbers : Type 0
WriteNumbers = (beacon : Beacon) (buffer : ℕ) → EachWhen (written_number beacon buffer) (fits beacon) (length (frame_of beacon)) buffer

-- those of writing from a form
abbrev pub FormNumbers : Type 0
FormNumbers = (form : BeaconForm) (buffer : ℕ) → EachWhen (form_written form buffer).number (form_fits form) (length (frame_of (beacon_of form))) buffer
