-- The form of a record and the record of a form are inverses of each other, and the laws of both in the shape in which the code meets them.
-- Assumes nothing.
use mathlib.Core.Path.{◌≡◌, refl}
use mathlib.Core.Bool.{true, and-eq-true_iff}
use lib.IntN.{ℤ}
use Rattle.mac_header_spec.specs.declared.SequenceNumber.{SequenceNumber}
use Rattle.mac_header_spec.specs.declared.Address.{Address}
use Rattle.eb_record_spec.specs.Form.{is_sequenced, sequence_number, is_extended, address_number, sequence_from, address_from}
use Rattle.eb_record_spec.proofs.FormLaws.{sequence_test, sequence_tested, sequence_back, sequence_mark, sequence_number_lem, address_test, address_tested, address_back, address_kind, address_number_lem}
use Rattle.ack_record_spec.specs.declared.Ack.{Ack}
use Rattle.ack_record_spec.specs.declared.AckForm.{AckForm}
use Rattle.ack_record_spec.specs.Record.{form_of, ack_of, is_ack, FormsGiveTheRecord, RecordsGiveTheForm, FormsOfNoRecord}

pub form_back : (ack : Ack) → is_ack (form_of ack) ≡ true → ack_of (form_of ack) ≡ ack
unfolding is_ack form_of ack_of
form_back ack is =
    let behind = ((and-eq-true_iff (sequence_test (is_sequenced ack.sequence) (sequence_number ack.sequence)) _).0 is).1 in
    let both = (and-eq-true_iff (address_test (is_extended ack.destination) (address_number ack.destination)) (address_test (is_extended ack.source) (address_number ack.source))).0 behind in
    rw (sequence_back ack.sequence, address_back ack.destination both.0, address_back ack.source both.1)

pub forms_give_the_record : FormsGiveTheRecord
unfolding is_ack form_of
forms_give_the_record ack far near =
    let is : is_ack (form_of ack) ≡ true = rw (sequence_tested ack.sequence, address_tested ack.destination far, address_tested ack.source near) in
    (is, form_back ack is)

pub records_give_the_form : RecordsGiveTheForm
unfolding is_ack form_of ack_of
records_give_the_form form is =
    let first = (and-eq-true_iff _ _).0 is in
    let both = (and-eq-true_iff _ _).0 first.1 in
    rw (sequence_mark form.sequenced form.sequence, sequence_number_lem form.sequenced form.sequence first.0, address_kind form.destination_extended form.destination, address_number_lem form.destination_extended form.destination both.0, address_kind form.source_extended form.source, address_number_lem form.source_extended form.source both.1)

pub forms_of_no_record : FormsOfNoRecord
unfolding is_ack
forms_of_no_record = (refl, refl, refl)

-- ---- the code
module _ (form : AckForm) where
  pub ack_is : (sequence : SequenceNumber) (destination source : Address) (correction : ℤ) → sequence ≡ sequence_from form.sequenced form.sequence → destination ≡ address_from form.destination_extended form.destination
      → source ≡ address_from form.source_extended form.source → correction ≡ form.correction
      → record { sequence = sequence; pan = form.pan; destination = destination; source = source; correction = correction; nack = form.nack } ≡ ack_of form
  unfolding ack_of
  ack_is sequence destination source correction e f g h = rw (e, f, g, h)

pub ruleset forms = (ack_is)
