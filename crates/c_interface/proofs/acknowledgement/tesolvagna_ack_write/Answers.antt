-- `c_interface::acknowledgement::tesolvagna_ack_write` meets its contract. Assumes nothing.
use Rattle.ack_write_spec.proofs.Claimed.{form_numbers, never_too_long}
use Rattle.ack_round_trip_spec.proofs.RoundTripLaws.{refused_says_nothing, form_as_said}
use Rattle.ack_write_spec.proofs.FormLaws.{form_refused, form_untouched, form_answers, form_stored}
use mathlib.Core.Path.{refl, sym, ap, ◌∙◌}
use Rattle.std.specs.Prelude.{Err}
use Rattle.refusal.specs.declared.Refusal.{Refusal}
use Rattle.eb_write_spec.specs.Write.{written_of}
use mathlib.Core.Bool.{true, false}
use Rattle.eb_record_spec.proofs.FormLaws.{was_made, was_refused}
use Rattle.c_interface.proofs.acknowledgement.tesolvagna_ack_write.Goals as goal

pub returns-in-Ok : goal.returns-in-Ok
returns-in-Ok c =
    let made = was_made _ _ _ c.in-Ok.ensures in
    record {
      answer = form_answers _ true (sym made.0) refl _ made.1 _ _ (c.from.ensures ∙ c.write.ensures.answer);
      buffer = form_stored _ true (sym made.0) refl _ made.1 _ _ c.write.ensures.buffer;
      numbers = form_numbers;
      length = never_too_long;
      as_said = form_as_said _ _ _ _ _ made.1 (rw c.from.ensures c.write.ensures.as_said);
    }

pub returns-in-Err : goal.returns-in-Err
returns-in-Err c =
    let refused = was_refused _ _ _ c.in-Err.ensures in
    let told = c.from-in-Err.ensures ∙ ap (λ (r : Refusal). written_of (Err r)) refused.1 in
    record {
      answer = told ∙ form_refused _ false (sym refused.0) refl _;
      buffer = form_untouched _ false (sym refused.0) refl _;
      numbers = form_numbers;
      length = never_too_long;
      as_said = rw told (refused_says_nothing _ _);
    }
