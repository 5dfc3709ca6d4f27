-- What is written is bytes and is of the grammar, so that it reads back; what is read is of the grammar, so that it can be written. Assumes nothing.
use Prim.Native.Nat.{ℕ}
use mathlib.Core.Path.{◌≡◌, refl, sym, ◌∙◌, ap, subst}
use mathlib.Core.Bool.{true, and-eq-true_iff}
use mathlib.Core.List.{List}
use native.Mathlib.Omega.{arith}
use lib.ListN.{length}
use Rattle.octets_spec.specs.Choice.{if_on}
use Rattle.octets_spec.specs.Number.{le_bytes}
use Rattle.octets_spec.proofs.ChoiceLaws.{if_eq_lem}
use Rattle.eb_write_spec.specs.Frame.{suppressed_bit, sequence_bytes, address_mode, address_bytes, header_descriptor}
use Rattle.eb_write_spec.specs.Write.{number_for, answer_for}
use Rattle.eb_write_spec.proofs.WrittenLaws.{each_when}
use Rattle.eb_read_spec.specs.Claims.{Bytes}
use Rattle.eb_round_trip_spec.proofs.AllBytes.{All, bytes_of, all_of_lem, both, parts}
use Rattle.eb_round_trip_spec.proofs.ReadsBack.{all_le, all_sequence, all_address}
use Rattle.ack_record_spec.specs.declared.Ack.{Ack}
use Rattle.ack_record_spec.specs.declared.AckForm.{AckForm}
use Rattle.ack_record_spec.specs.Record.{form_of, ack_of, is_ack}
use Rattle.ack_record_spec.proofs.FormLaws.{forms_give_the_record, records_give_the_form}
use Rattle.ack_read_spec.specs.Read.{read_ack}
use Rattle.ack_read_spec.specs.Read.{AckAnswer}
use Rattle.ack_read_spec.proofs.Witnessed.{shortest_is_read}
use Rattle.ack_write_spec.specs.Frame.{compression_bit, control_word, mac_header_bytes, correction_bits, correction_word, correction_bytes, frame_of}
use Rattle.ack_write_spec.specs.Limits.{fits, form_fits}
use Rattle.ack_write_spec.proofs.Claimed.{lengths_from_12_to_25}
use Rattle.ack_grammar_spec.specs.Grammar.{Accepts}
use Rattle.ack_grammar_spec.proofs.Agreed.{sound, complete}
use Rattle.ack_round_trip_spec.specs.ReadBack.{FramesReadBack, FramesDiffer, FormsReadBack, AcceptedFits, WrittenIsNotLonger, AcceptedReadsBack, ReadFormsAreWritten, ShortestIsWrittenBack}
use Rattle.ack_round_trip_spec.proofs.OfTheGrammar.{within, written_is_of_the_grammar}
use Rattle.ack_round_trip_spec.proofs.Fits.{said_fits, said_long}

-- ---- written, then read
frame_bytes : (ack : Ack) → All (frame_of ack)
unfolding frame_of mac_header_bytes correction_bytes header_descriptor
frame_bytes ack = both (both (all_le 2 _) (both (all_sequence _) (both (all_le 2 _) (both (all_address _) (all_address _))))) (both (all_le 2 _) (all_le 2 _))

pub frames_read_back : FramesReadBack
frames_read_back ack e = complete (frame_of ack) ack (bytes_of _ (frame_bytes ack)) (written_is_of_the_grammar ack e)

pub frames_differ : FramesDiffer
frames_differ a b e f same = ap (λ (x : AckAnswer). x.ack) (sym (frames_read_back a e) ∙ (ap read_ack same ∙ frames_read_back b f))

-- a form within the limits is a record's, of a record within the limits
form_parts : (form : AckForm) → form_fits form ≡ true → (is_ack form ≡ true) × (fits (ack_of form) ≡ true)
unfolding form_fits
form_parts form e = (and-eq-true_iff (is_ack form) (fits (ack_of form))).0 e

pub forms_read_back : FormsReadBack
unfolding answer_for
forms_read_back form buffer done =
    let parts = form_parts form ((each_when (form_fits form) (frame_of (ack_of form)) buffer).3.0 done).0 in
    let back = frames_read_back (ack_of form) parts.1 in
    (ap (λ (x : AckAnswer). x.number) back, ap (λ (x : AckAnswer). form_of x.ack) back ∙ records_give_the_form form parts.0)

-- ---- read, then written
module _ (s : List ℕ) (bytes : Bytes s) (done : (read_ack s).number ≡ 0) where
  accepted : Accepts s (read_ack s).ack
  accepted = sound s (read_ack s).ack bytes (λ i. record { number = done i; ack = (read_ack s).ack })

  all_fields : All accepted.fields
  all_fields = (parts accepted.fields _ (subst All accepted.stands (all_of_lem s bytes))).0

pub accepted_fits : AcceptedFits
accepted_fits s bytes done = said_fits s _ (accepted s bytes done) (all_fields s bytes done)

pub written_is_not_longer : WrittenIsNotLonger
written_is_not_longer s bytes done = said_long s _ (accepted s bytes done) (all_fields s bytes done)

pub accepted_reads_back : AcceptedReadsBack
accepted_reads_back s bytes done = frames_read_back (read_ack s).ack (accepted_fits s bytes done) ∙ (λ i. record { number = sym done i; ack = (read_ack s).ack })

pub read_forms_are_written : ReadFormsAreWritten
unfolding answer_for form_fits
read_forms_are_written s buffer bytes done enough =
    let ack : Ack = (read_ack s).ack in
    let fine = accepted_fits s bytes done in
    let w = within ack fine in
    let form = forms_give_the_record ack w.destination w.source in
    let number : number_for true (frame_of ack) buffer ≡ 0 = (each_when true (frame_of ack) buffer).3.1 (refl, omega (arith, lengths_from_12_to_25 ack), omega (arith, enough, written_is_not_longer s bytes done)) in
    rw (form.0, form.1, fine, number) (ap (λ (n : ℕ). record { number = 0; length = n }) (sym (if_eq_lem (length (frame_of ack)) 0 0 0 refl refl)))

-- the checker computes the frame of the 12 bytes' record
pub shortest_is_written_back : ShortestIsWrittenBack
unfolding frame_of mac_header_bytes control_word compression_bit suppressed_bit sequence_bytes address_mode address_bytes correction_bytes correction_word correction_bits header_descriptor le_bytes if_on
shortest_is_written_back = (ap (λ (x : AckAnswer). x.number) shortest_is_read.0, ap (λ (x : AckAnswer). frame_of x.ack) shortest_is_read.0)
