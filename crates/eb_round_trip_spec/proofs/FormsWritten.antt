-- The form of a record that was read can be written, and a form that is written reads back. Assumes nothing.
use Prim.Native.Nat.{ℕ, ◌<◌, ◌≤◌}
use mathlib.Core.Path.{◌≡◌, refl, sym, ◌∙◌, ap}
use mathlib.Core.Bool.{true, and-false}
use native.Mathlib.Omega.{arith}
use lib.ListN.{length}
use Rattle.octets_spec.proofs.ChoiceLaws.{if_on_lem, if_eq_lem, if_ne_lem}
use Rattle.eb_record_spec.specs.declared.Beacon.{Beacon}
use Rattle.eb_record_spec.specs.declared.BeaconForm.{BeaconForm}
use Rattle.eb_record_spec.specs.Form.{form_of, beacon_of, is_beacon, address_fits}
use Rattle.eb_record_spec.proofs.FormLaws.{forms_give_the_record, records_give_the_form}
use Rattle.eb_write_spec.specs.declared.Written.{Written}
use Rattle.eb_write_spec.specs.Frame.{frame_of}
use Rattle.eb_write_spec.specs.Limits.{fits}
use Rattle.eb_write_spec.specs.Write.{answer_for, written_number, written_in}
use Rattle.eb_write_spec.specs.Form.{form_fits, form_written}
use Rattle.eb_write_spec.proofs.LengthLaws.{on}
use Rattle.eb_write_spec.proofs.Claimed.{write_numbers, form_numbers, differ}
use Rattle.eb_read_spec.specs.Read.{read_frame}
use Rattle.eb_read_spec.specs.Read.{ReadAnswer}
use Rattle.eb_read_spec.specs.Witnesses.{shortest}
use Rattle.eb_read_spec.proofs.Witnessed.{shortest_is_read, shortest_done, shortest_bytes}
use Rattle.eb_round_trip_spec.specs.ReadBack.{FormsReadBack}
use Rattle.eb_round_trip_spec.specs.Accepted.{AcceptedReadsBack, ReadFormsAreWritten, ShortestFormIsWritten}
use Rattle.eb_round_trip_spec.proofs.ReadsBack.{frames_read_back}
use Rattle.eb_round_trip_spec.proofs.NotLonger.{accepted_fits, read_sized, written_is_not_longer, written_is_short}
use Rattle.eb_round_trip_spec.proofs.Shortest.{shortest_is_written_back}

module _ (beacon : Beacon) (within : fits beacon ≡ true) where
  source_fits : address_fits beacon.source ≡ true
  unfolding fits
  source_fits = on (address_fits beacon.source) (λ h. simp (h, and-false) at within)

  is_beacon_lem : is_beacon (form_of beacon) ≡ true
  is_beacon_lem = (forms_give_the_record beacon source_fits).0

  -- a record within the limits is written from its form as it is itself
  form_as_record : (buffer : ℕ) → form_written (form_of beacon) buffer ≡ written_in beacon buffer
  unfolding form_written
  form_as_record buffer = sym (if_on_lem _ _ (is_beacon (form_of beacon)) is_beacon_lem (rw (forms_give_the_record beacon source_fits).1))

  number_is : (buffer : ℕ) → (form_written (form_of beacon) buffer).number ≡ written_number beacon buffer
  unfolding answer_for
  number_is buffer = ap (λ (written : Written). written.number) (form_as_record buffer)

  not_8 : (buffer : ℕ) → (form_written (form_of beacon) buffer).number ≡ 8 → ⊥
  not_8 buffer e = differ (sym within ∙ (write_numbers beacon buffer).0.0 (sym (number_is buffer) ∙ e))

  not_1 : length (frame_of beacon) ≤ 125 → (buffer : ℕ) → (form_written (form_of beacon) buffer).number ≡ 1 → ⊥
  not_1 short buffer e = omega (arith, ((write_numbers beacon buffer).1.0 (sym (number_is buffer) ∙ e)).1)

  done_in : length (frame_of beacon) ≤ 125 → (buffer : ℕ) → length (frame_of beacon) ≤ buffer → form_written (form_of beacon) buffer ≡ record { number = 0; length = length (frame_of beacon) }
  unfolding answer_for
  done_in short buffer fits_in =
      let done = (write_numbers beacon buffer).3.1 (within, short, fits_in) in
      form_as_record buffer ∙ rw done (ap (λ (long : ℕ). record { number = 0; length = long }) (sym (if_eq_lem (length (frame_of beacon)) 0 0 0 refl refl)))

  refused_in : length (frame_of beacon) ≤ 125 → (buffer : ℕ) → buffer < length (frame_of beacon) → form_written (form_of beacon) buffer ≡ record { number = 9; length = 0 }
  unfolding answer_for
  refused_in short buffer over =
      let number = (write_numbers beacon buffer).2.1 (within, short, over) in
      form_as_record buffer ∙ rw number (ap (λ (n : ℕ). record { number = 9; length = n }) (sym (if_ne_lem (length (frame_of beacon)) 0 9 0 (λ (e : 9 ≡ 0). omega arith) refl)))

-- ---- forms and what is read
beacon_part : (form : BeaconForm) → form_fits form ≡ true → (is_beacon form ≡ true) × (fits (beacon_of form) ≡ true)
unfolding form_fits
beacon_part form within =
    (on (is_beacon form) (λ h. simp h at within), on (fits (beacon_of form)) (λ h. simp (h, and-false) at within))

pub forms_read_back : FormsReadBack
forms_read_back form buffer sized done =
    let can = (form_numbers form buffer).3.0 done in
    let parts = beacon_part form can.0 in
    let back = frames_read_back (beacon_of form) (record { sized = sized; within = parts.1; short = can.1 }) in
    (ap (λ (answer : ReadAnswer). answer.number) back, ap (λ (answer : ReadAnswer). form_of answer.beacon) back ∙ records_give_the_form form parts.0)

pub accepted_reads_back : AcceptedReadsBack
accepted_reads_back s bytes done =
    frames_read_back (read_frame s).beacon (record { sized = read_sized s bytes done; within = accepted_fits s bytes done; short = written_is_short s bytes done })
    ∙ (λ i. record { number = sym done i; beacon = (read_frame s).beacon })

pub read_forms_are_written : ReadFormsAreWritten
read_forms_are_written s bytes done =
    let beacon : Beacon = (read_frame s).beacon in
    let within = accepted_fits s bytes done in
    let short = written_is_short s bytes done in (
      is_beacon_lem beacon within,
      not_8 beacon within,
      not_1 beacon within short,
      λ buffer enough. done_in beacon within short buffer (omega (arith, written_is_not_longer s bytes done)),
    )

pub shortest_form_is_written : ShortestFormIsWritten
shortest_form_is_written =
    let beacon : Beacon = (read_frame shortest).beacon in
    let within = accepted_fits shortest shortest_bytes shortest_done in
    let long : length (frame_of beacon) ≡ 38 = rw shortest_is_written_back.2 in
    let short : length (frame_of beacon) ≤ 125 = omega (arith, long) in (
      rw ((forms_give_the_record beacon (source_fits beacon within)).1, shortest_is_read.0) (record { timings = refl; links = refl; network = refl }),
      done_in beacon within short 38 (omega (arith, long)) ∙ ap (λ (n : ℕ). record { number = 0; length = n }) long,
      refused_in beacon within short 37 (omega (arith, long)),
    )
