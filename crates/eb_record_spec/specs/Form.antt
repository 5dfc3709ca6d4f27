-- The record without enums, as C has it: the form of a record, the record of a form, and which forms are a record's (docs/RULES.md, C
-- interface). Assumes nothing.
use Rattle.std.specs.Prelude.{ℕ, ◌-◌, ◌%◌, ◌^◌, ◌≡◌, Bool, true, false, ◌&&◌, ◌||◌, ltb, eqb, Result, Ok, Err}
use Rattle.octets_spec.specs.Choice.{if_on}
use Rattle.refusal.specs.declared.Refusal.{Refusal}
use Rattle.refusal.specs.declared.Refusal.TheVariants.{OutOfLimits}
use Rattle.mac_header_spec.specs.declared.SequenceNumber.{SequenceNumber}
use Rattle.mac_header_spec.specs.declared.SequenceNumber.TheVariants.{Absent, Number}
use Rattle.mac_header_spec.specs.declared.Address.{Address}
use Rattle.mac_header_spec.specs.declared.Address.TheVariants.{Short, Extended}
use Rattle.eb_record_spec.specs.declared.Beacon.{Beacon}
use Rattle.eb_record_spec.specs.declared.BeaconForm.{BeaconForm}
use Rattle.eb_record_spec.specs.Record.{blank_joining, blank_beacon}

-- whether there is a sequence number
unfoldable pub is_sequenced : SequenceNumber → Bool
is_sequenced Absent = false
is_sequenced (Number number) = true

-- which it is, and 0 for none
unfoldable pub sequence_number : SequenceNumber → ℕ
sequence_number Absent = 0
sequence_number (Number number) = number

-- whether an address is extended
unfoldable pub is_extended : Address → Bool
is_extended (Short number) = false
is_extended (Extended number) = true

-- its number
unfoldable pub address_number : Address → ℕ
address_number (Short number) = number
address_number (Extended number) = number

-- the form of a record
unfoldable pub form_of : Beacon → BeaconForm
form_of beacon = record {
  sequenced = is_sequenced beacon.sequence;
  sequence = sequence_number beacon.sequence;
  pan = beacon.pan;
  extended = is_extended beacon.source;
  source = address_number beacon.source;
  synchronization = beacon.synchronization;
  timeslot = beacon.timeslot;
  hopping = beacon.hopping;
  slotframe = beacon.slotframe;
  joining = beacon.joining;
}

-- a sequence number from its mark and its number
unfoldable pub sequence_from : Bool → ℕ → SequenceNumber
sequence_from sequenced number = if_on sequenced (Number number) Absent

-- an address from its kind and its number; a short one has 16 bits
unfoldable pub address_from : Bool → ℕ → Address
address_from extended number = if_on extended (Extended number) (Short (number % 2 ^ 16))

-- the record of a form
unfoldable pub beacon_of : BeaconForm → Beacon
beacon_of form = record {
  sequence = sequence_from form.sequenced form.sequence;
  pan = form.pan;
  source = address_from form.extended form.source;
  synchronization = form.synchronization;
  timeslot = form.timeslot;
  hopping = form.hopping;
  slotframe = form.slotframe;
  joining = form.joining;
}

-- a form is a record's: no number where the mark says that there is none, and no short source over 16 bits
unfoldable pub is_beacon : BeaconForm → Bool
is_beacon form = (form.sequenced || eqb form.sequence 0) && (form.extended || ltb form.source (2 ^ 16))

-- a mark and a number are a sequence number's: no number where the mark says that there is none
abbrev pub is_sequence : Bool → ℕ → Bool
is_sequence sequenced number = sequenced || eqb number 0

-- a kind and a number are an address's: no short one over 16 bits
abbrev pub is_address : Bool → ℕ → Bool
is_address extended number = extended || ltb number (2 ^ 16)

-- what is made of a form that is a record's, or of a part of one; of another form nothing is made, and its number is out of limits
unfoldable pub made_where : {A : Type 0} → Bool → A → Result A Refusal
made_where test value = if_on test (Ok value) (Err OutOfLimits)

-- an address has the bytes that its kind has
unfoldable pub address_fits : Address → Bool
address_fits (Short number) = ltb number (2 ^ 16)
address_fits (Extended number) = ltb number (2 ^ 64)

-- a record whose source fits has a form that is a record's, and is the record of that form
abbrev pub FormsGiveTheRecord : Type 0
FormsGiveTheRecord = (beacon : Beacon) → address_fits beacon.source ≡ true → (is_beacon (form_of beacon) ≡ true) × (beacon_of (form_of beacon) ≡ beacon)

-- a form that is a record's is the form of its record
abbrev pub RecordsGiveTheForm : Type 0
RecordsGiveTheForm = (form : BeaconForm) → is_beacon form ≡ true → form_of (beacon_of form) ≡ form

-- ---- records and forms that these claims speak of
-- the blank record with this sequence number and this source
abbrev pub blank_from : SequenceNumber → Address → Beacon
blank_from sequence source = record {
  sequence = sequence;
  pan = 0;
  source = source;
  synchronization = blank_beacon.synchronization;
  timeslot = blank_beacon.timeslot;
  hopping = 0;
  slotframe = blank_beacon.slotframe;
  joining = blank_joining;
}

-- its form, with these marks and numbers
abbrev pub blank_form : Bool → ℕ → Bool → ℕ → BeaconForm
blank_form sequenced sequence extended source = record {
  sequenced = sequenced;
  sequence = sequence;
  pan = 0;
  extended = extended;
  source = source;
  synchronization = blank_beacon.synchronization;
  timeslot = blank_beacon.timeslot;
  hopping = 0;
  slotframe = blank_beacon.slotframe;
  joining = blank_joining;
}

-- a record with sequence number 7 and an extended source of all eight bytes, its form, and back
abbrev pub ExtendedHasItsForm : Type 0
ExtendedHasItsForm =
    let beacon : Beacon = blank_from (Number 7) (Extended (2 ^ 64 - 1)) in
    (address_fits beacon.source ≡ true) × (form_of beacon ≡ blank_form true 7 true (2 ^ 64 - 1)) × (is_beacon (form_of beacon) ≡ true) × (beacon_of (form_of beacon) ≡ beacon)

-- forms that are no record's: a number where there is no sequence number, and a short source of 17 bits
abbrev pub FormsOfNoRecord : Type 0
FormsOfNoRecord = (is_beacon (blank_form false 7 true 0) ≡ false) × (is_beacon (blank_form true 7 false (2 ^ 16)) ≡ false)
