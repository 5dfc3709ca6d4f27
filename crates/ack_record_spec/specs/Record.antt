-- The ID of the element that a record is said by, the blank record, the record without enums, as C has it, and which forms are a record's
-- (docs/RULES.md, Acknowledgements). Assumes nothing.
use Rattle.std.specs.Prelude.{ℕ, ◌^◌, ◌≡◌, Bool, true, false, ◌&&◌, ◌||◌, ltb, eqb, pos}
use Rattle.mac_header_spec.specs.declared.SequenceNumber.TheVariants.{Absent}
use Rattle.mac_header_spec.specs.declared.Address.TheVariants.{Short}
use Rattle.eb_record_spec.specs.Form.{is_sequenced, sequence_number, is_extended, address_number, sequence_from, address_from, address_fits}
use Rattle.ack_record_spec.specs.declared.Ack.{Ack}
use Rattle.ack_record_spec.specs.declared.AckForm.{AckForm}

-- the header element that holds the correction
abbrev pub correction_id : ℕ
correction_id = 0x1E

-- the blank record: all zeros, both addresses short, no sequence number
unfoldable pub blank_ack : Ack
blank_ack = record { sequence = Absent; pan = 0; destination = Short 0; source = Short 0; correction = pos 0; nack = false }

-- the form of a record
unfoldable pub form_of : Ack → AckForm
form_of ack = record {
  sequenced = is_sequenced ack.sequence;
  sequence = sequence_number ack.sequence;
  pan = ack.pan;
  destination_extended = is_extended ack.destination;
  destination = address_number ack.destination;
  source_extended = is_extended ack.source;
  source = address_number ack.source;
  correction = ack.correction;
  nack = ack.nack;
}

-- the record of a form
unfoldable pub ack_of : AckForm → Ack
ack_of form = record {
  sequence = sequence_from form.sequenced form.sequence;
  pan = form.pan;
  destination = address_from form.destination_extended form.destination;
  source = address_from form.source_extended form.source;
  correction = form.correction;
  nack = form.nack;
}

-- a form is a record's: no number where the mark says that there is none, and no short address over 16 bits
unfoldable pub is_ack : AckForm → Bool
is_ack form =
    (form.sequenced || eqb form.sequence 0)
    && ((form.destination_extended || ltb form.destination (2 ^ 16)) && (form.source_extended || ltb form.source (2 ^ 16)))

-- a record whose addresses fit has a form that is a record's, and is the record of that form
abbrev pub FormsGiveTheRecord : Type 0
FormsGiveTheRecord = (ack : Ack) → address_fits ack.destination ≡ true → address_fits ack.source ≡ true → (is_ack (form_of ack) ≡ true) × (ack_of (form_of ack) ≡ ack)

-- a form that is a record's is the form of its record
abbrev pub RecordsGiveTheForm : Type 0
RecordsGiveTheForm = (form : AckForm) → is_ack form ≡ true → form_of (ack_of form) ≡ form

-- the form of the blank record with these marks and numbers
abbrev pub blank_form : Bool → ℕ → Bool → ℕ → Bool → ℕ → AckForm
blank_form sequenced sequence far destination near source = record {
  sequenced = sequenced;
  sequence = sequence;
  pan = 0;
  destination_extended = far;
  destination = destination;
  source_extended = near;
  source = source;
  correction = pos 0;
  nack = false;
}

-- forms that are no record's: a number where there is no sequence number, and a short destination or source of 17 bits
abbrev pub FormsOfNoRecord : Type 0
FormsOfNoRecord =
    (is_ack (blank_form false 7 true 0 true 0) ≡ false)
    × (is_ack (blank_form true 7 false (2 ^ 16) true 0) ≡ false)
    × (is_ack (blank_form true 7 true 0 false (2 ^ 16)) ≡ false)
