-- What holds of writing every acknowledgement, and every form of one (docs/RULES.md, Acknowledgements). Assumes nothing.
use Rattle.std.specs.Prelude.{ℕ, ◌≤◌, ◌≡◌, Bool, true, length}
use Rattle.refusal.specs.Refusal.{frame_too_long}
use Rattle.eb_write_spec.specs.Write.{number_for}
use Rattle.eb_write_spec.specs.Claims.{EachWhen}
use Rattle.ack_record_spec.specs.declared.Ack.{Ack}
use Rattle.ack_record_spec.specs.declared.AckForm.{AckForm}
use Rattle.ack_record_spec.specs.Record.{ack_of}
use Rattle.ack_write_spec.specs.Frame.{frame_of, frame_length}
use Rattle.ack_write_spec.specs.Limits.{fits, form_fits}

-- when each number is given: the record is outside the limits; the frame is longer than 125 bytes; the buffer is shorter than the frame; done
abbrev pub WriteNumbers : Type 0
WriteNumbers = (ack : Ack) (buffer : ℕ) → EachWhen (number_for (fits ack) (frame_of ack) buffer) (fits ack) (length (frame_of ack)) buffer

-- the same from a form
abbrev pub FormNumbers : Type 0
FormNumbers = (form : AckForm) (buffer : ℕ) → EachWhen (number_for (form_fits form) (frame_of (ack_of form)) buffer) (form_fits form) (length (frame_of (ack_of form))) buffer

-- the frame has the length that the formula says
abbrev pub LengthIsTheFormula : Type 0
LengthIsTheFormula = (ack : Ack) → length (frame_of ack) ≡ frame_length ack

-- from 12 bytes to 25
abbrev pub LengthsFrom12To25 : Type 0
LengthsFrom12To25 = (ack : Ack) → (12 ≤ length (frame_of ack)) × (length (frame_of ack) ≤ 25)

-- both are met, by records within the limits
abbrev pub LengthsAreMet : Type 0
LengthsAreMet = ((ack : Ack) × (fits ack ≡ true) × (length (frame_of ack) ≡ 12)) × ((ack : Ack) × (fits ack ≡ true) × (length (frame_of ack) ≡ 25))

-- so that no frame is refused for its length, whatever the record and the buffer
abbrev pub NeverTooLong : Type 0
NeverTooLong = (ack : Ack) (within : Bool) (buffer : ℕ) → number_for within (frame_of ack) buffer ≡ frame_too_long → ⊥
