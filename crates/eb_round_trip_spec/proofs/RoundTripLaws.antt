-- The laws of writing and reading back, in the shape in which the code meets them. Assumes nothing.
use Prim.Native.Nat.{ℕ}
use mathlib.Core.Path.{◌≡◌, refl}
use mathlib.Core.List.{List}
use native.Mathlib.Omega.{arith}
use lib.ListN.{length, take}
use Rattle.octets_spec.proofs.ChoiceLaws.{if_eq_lem, if_ne_lem}
use Rattle.eb_record_spec.specs.declared.Beacon.{Beacon}
use Rattle.eb_record_spec.specs.declared.BeaconForm.{BeaconForm}
use Rattle.eb_record_spec.specs.Form.{beacon_of}
use Rattle.eb_write_spec.specs.Frame.{frame_of}
use Rattle.eb_write_spec.specs.Limits.{fits}
use Rattle.eb_read_spec.specs.Read.{ReadAnswer}
use Rattle.eb_write_spec.specs.Write.{written_number, written_in, buffer_after}
use Rattle.eb_write_spec.specs.declared.Written.{Written}
use Rattle.eb_write_spec.proofs.Claimed.{write_numbers}
use Rattle.eb_write_spec.proofs.WrittenLaws.{number_is, done_number, part_is}
use Rattle.eb_round_trip_spec.specs.ReadBack.{Sized, WrittenAsSaid}
use Rattle.eb_round_trip_spec.proofs.OfTheGrammar.{derived}
use Rattle.eb_round_trip_spec.specs.RoundTrip.{refused_as, back_from}
use Rattle.eb_grammar_spec.specs.Claims.{ReadAsSaid}

module _ (b : Beacon) (buffer : List ℕ) (w : Written) (is : w ≡ written_in b (length buffer)) where
  pub back_refused : (r : ReadAnswer) → (w.number ≡ 0 → ⊥) → r ≡ refused_as w.number → r ≡ back_from b (length buffer)
  unfolding back_from
  back_refused r bad e = rw (← number_is (fits b) (frame_of b) buffer w is, e) (if_ne_lem _ _ w.number 0 bad refl)

  -- what is read of it
  pub back_read : w.number ≡ 0 → (after : List ℕ) → WrittenAsSaid w.number w.length after b → (r : ReadAnswer) → ReadAsSaid (take w.length after) r.number r.beacon → r ≡ back_from b (length buffer)
  unfolding back_from
  back_read good after written r read =
      let same = read.complete b (written.says good) in
      if_eq_lem _ _ (written_number b (length buffer)) 0 (done_number (fits b) (frame_of b) buffer w is good) (λ i. record { number = same.0 i; beacon = same.1 i })

-- what writing left is as the grammar says
pub written_as_said : (b : Beacon) (buffer after : List ℕ) (number size : ℕ) → Sized b → record { number = number; length = size } ≡ written_in b (length buffer) → after ≡ buffer_after b buffer → WrittenAsSaid number size after b
written_as_said b buffer after number size sized is stands = record {
  says = λ good.
      let can = (write_numbers b (length buffer)).3.0 (done_number (fits b) (frame_of b) buffer _ is good) in
      rw (part_is (fits b) (frame_of b) buffer _ is good after stands) (derived b (record { sized = sized; within = can.0; short = can.1 }));
}

-- a refusal has left nothing
pub refused_says_nothing : (b : Beacon) (after : List ℕ) → WrittenAsSaid 8 0 after b
refused_says_nothing b after = record { says = λ z. absurd (omega (arith, z)) }

pub form_as_said : (form : BeaconForm) (b : Beacon) (number size : ℕ) (after : List ℕ) → b ≡ beacon_of form → WrittenAsSaid number size after b → WrittenAsSaid number size after (beacon_of form)
form_as_said form b number size after e said = rw e at said

pub sizes : (b : Beacon) → length b.timeslot.timings ≡ 12 → length b.slotframe.links ≡ 16 → length b.joining.network ≡ 16 → Sized b
sizes b twelve sixteen bytes = record { timings = twelve; links = sixteen; network = bytes }
