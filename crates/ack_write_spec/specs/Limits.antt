-- The limits within which an acknowledgement can be written: each number fits its bytes on air (docs/RULES.md, Acknowledgements). Assumes nothing.
use Rattle.std.specs.Prelude.{◌^◌, Bool, ◌&&◌, ltb, ℤ, pos, neg_ℤ}
use Rattle.std.specs.Int.Signed.{le_z}
use Rattle.eb_record_spec.specs.Form.{address_fits}
use Rattle.eb_write_spec.specs.Limits.{sequence_fits}
use Rattle.ack_record_spec.specs.declared.Ack.{Ack}
use Rattle.ack_record_spec.specs.declared.AckForm.{AckForm}
use Rattle.ack_record_spec.specs.Record.{ack_of, is_ack}

-- a correction has 12 bits, in two's complement: -2048 to 2047
unfoldable pub is_correction : ℤ → Bool
is_correction correction = le_z (neg_ℤ (pos 2048)) correction && le_z correction (pos 2047)

-- a record within the limits
unfoldable pub fits : Ack → Bool
fits ack = sequence_fits ack.sequence && (ltb ack.pan (2 ^ 16) && (address_fits ack.destination && (address_fits ack.source && is_correction ack.correction)))

-- a form that is a record's, of a record within the limits
unfoldable pub form_fits : AckForm → Bool
form_fits form = is_ack form && fits (ack_of form)
