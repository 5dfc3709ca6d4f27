-- The claims about writing an acknowledgement. Assumes nothing.
use Prim.Native.Nat.{◌≤◌}
use mathlib.Core.Path.{refl}
use mathlib.Core.Bool.{false}
use native.Mathlib.Omega.{arith}
use lib.IntN.{pos}
use lib.ListN.{length, length-append}
use Rattle.octets_spec.specs.Number.{le_bytes}
use Rattle.mac_header_spec.specs.declared.SequenceNumber.{SequenceNumber}
use Rattle.mac_header_spec.specs.declared.SequenceNumber.TheVariants.{Absent, Number}
use Rattle.mac_header_spec.specs.declared.Address.{Address}
use Rattle.mac_header_spec.specs.declared.Address.TheVariants.{Short, Extended}
use Rattle.eb_record_spec.specs.Form.{address_fits}
use Rattle.eb_write_spec.specs.Frame.{sequence_bytes, address_bytes, header_descriptor}
use Rattle.eb_write_spec.specs.Limits.{sequence_fits}
use Rattle.eb_write_spec.proofs.LengthLaws.{length_le}
use Rattle.eb_write_spec.proofs.WrittenLaws.{each_when}
use Rattle.ack_record_spec.specs.declared.Ack.{Ack}
use Rattle.ack_record_spec.specs.Record.{ack_of}
use Rattle.ack_write_spec.specs.Frame.{mac_header_bytes, correction_bytes, frame_of, frame_length}
use Rattle.ack_write_spec.specs.Limits.{is_correction, fits, form_fits}
use Rattle.ack_write_spec.specs.Claims.{WriteNumbers, FormNumbers, LengthIsTheFormula, LengthsFrom12To25, LengthsAreMet, NeverTooLong}

pub write_numbers : WriteNumbers
write_numbers ack buffer = each_when (fits ack) (frame_of ack) buffer

pub form_numbers : FormNumbers
form_numbers form buffer = each_when (form_fits form) (frame_of (ack_of form)) buffer

-- ---- the length
pub length_is_the_formula : LengthIsTheFormula
unfolding frame_of mac_header_bytes correction_bytes header_descriptor frame_length
length_is_the_formula ack = simp (length-append, length_le) (omega arith)

sequence_length : (q : SequenceNumber) → length (sequence_bytes q) ≤ 1
unfolding sequence_bytes
sequence_length Absent = omega arith
sequence_length (Number n) = omega (arith, length_le 1 n)

address_length_lem : (a : Address) → (2 ≤ length (address_bytes a)) × (length (address_bytes a) ≤ 8)
unfolding address_bytes
address_length_lem (Short n) = (omega (arith, length_le 2 n), omega (arith, length_le 2 n))
address_length_lem (Extended n) = (omega (arith, length_le 8 n), omega (arith, length_le 8 n))

pub lengths_from_12_to_25 : LengthsFrom12To25
unfolding frame_length
lengths_from_12_to_25 ack =
    let long = length_is_the_formula ack in
    let bytes = sequence_length ack.sequence in
    let far = address_length_lem ack.destination in
    let near = address_length_lem ack.source in
    (omega (arith, long, bytes, far, near), omega (arith, long, bytes, far, near))

-- a record with this sequence number and these addresses
abbrev plain : SequenceNumber → Address → Address → Ack
plain sequence destination source = record { sequence = sequence; pan = 0; destination = destination; source = source; correction = pos 0; nack = false }

pub lengths_are_met : LengthsAreMet
unfolding fits sequence_fits address_fits is_correction frame_length sequence_bytes address_bytes le_bytes
lengths_are_met = (
  (plain Absent (Short 0) (Short 0), refl, length_is_the_formula (plain Absent (Short 0) (Short 0))),
  (plain (Number 0) (Extended 0) (Extended 0), refl, length_is_the_formula (plain (Number 0) (Extended 0) (Extended 0))),
)

pub never_too_long : NeverTooLong
never_too_long ack within buffer e = omega (arith, (each_when within (frame_of ack) buffer).1.0 e, lengths_from_12_to_25 ack)
