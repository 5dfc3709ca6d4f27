-- The laws of writing and reading back, in the shape in which the code meets them. Assumes nothing.
use Prim.Native.Nat.{ℕ}
use mathlib.Core.Path.{◌≡◌, refl}
use mathlib.Core.List.{List}
use native.Mathlib.Omega.{arith}
use lib.ListN.{length, take}
use Rattle.octets_spec.proofs.ChoiceLaws.{if_eq_lem, if_ne_lem}
use Rattle.eb_write_spec.specs.Write.{number_for, answer_for, buffer_for}
use Rattle.eb_write_spec.specs.declared.Written.{Written}
use Rattle.eb_write_spec.proofs.WrittenLaws.{each_when, number_is, done_number, part_is}
use Rattle.ack_record_spec.specs.declared.Ack.{Ack}
use Rattle.ack_record_spec.specs.declared.AckForm.{AckForm}
use Rattle.ack_record_spec.specs.Record.{blank_ack, ack_of}
use Rattle.ack_read_spec.specs.Read.{AckAnswer}
use Rattle.ack_write_spec.specs.Frame.{frame_of}
use Rattle.ack_write_spec.specs.Limits.{fits}
use Rattle.ack_grammar_spec.specs.Claims.{ReadAsSaid}
use Rattle.ack_round_trip_spec.specs.ReadBack.{WrittenAsSaid, back_from}
use Rattle.ack_round_trip_spec.proofs.OfTheGrammar.{written_is_of_the_grammar}

-- what writing left is as the grammar says
pub written_as_said : (ack : Ack) (buffer after : List ℕ) (number size : ℕ) → record { number = number; length = size } ≡ answer_for (fits ack) (frame_of ack) (length buffer) → after ≡ buffer_for (fits ack) (frame_of ack) buffer → WrittenAsSaid number size after ack
written_as_said ack buffer after number size is stands = record {
  says = λ good.
      let can = (each_when (fits ack) (frame_of ack) (length buffer)).3.0 (done_number (fits ack) (frame_of ack) buffer _ is good) in
      rw (part_is (fits ack) (frame_of ack) buffer _ is good after stands) (written_is_of_the_grammar ack can.0);
}

-- a refusal has left nothing
pub refused_says_nothing : (ack : Ack) (after : List ℕ) → WrittenAsSaid 8 0 after ack
refused_says_nothing ack after = record { says = λ z. absurd (omega (arith, z)) }

pub form_as_said : (form : AckForm) (ack : Ack) (number size : ℕ) (after : List ℕ) → ack ≡ ack_of form → WrittenAsSaid number size after ack → WrittenAsSaid number size after (ack_of form)
form_as_said form ack number size after e said = rw e at said

module _ (ack : Ack) (buffer : List ℕ) (w : Written) (is : w ≡ answer_for (fits ack) (frame_of ack) (length buffer)) where
  pub back_refused : (blank : Ack) → blank ≡ blank_ack → (w.number ≡ 0 → ⊥) → record { number = w.number; ack = blank } ≡ back_from ack (length buffer)
  unfolding back_from
  back_refused blank e bad = rw (← number_is (fits ack) (frame_of ack) buffer w is, e) (if_ne_lem _ _ w.number 0 bad refl)

  -- what is read of it
  pub back_read : w.number ≡ 0 → (after : List ℕ) → WrittenAsSaid w.number w.length after ack → (r : AckAnswer) → ReadAsSaid (take w.length after) r.number r.ack → r ≡ back_from ack (length buffer)
  unfolding back_from
  back_read good after written r read =
      let same = read.complete ack (written.says good) in
      if_eq_lem _ _ (number_for (fits ack) (frame_of ack) (length buffer)) 0 (done_number (fits ack) (frame_of ack) buffer w is good) (λ i. record { number = same.0 i; ack = same.1 i })
