-- The laws of writing from a form, in the shape in which the code meets them. Assumes nothing.
use Prim.Native.Nat.{ℕ}
use mathlib.Core.Path.{◌≡◌, sym, ◌∙◌}
use mathlib.Core.Bool.{Bool, true, false, not}
use mathlib.Core.List.{List}
use borrow.Author.Tests.{not-true, not-false}
use Rattle.octets_spec.specs.Choice.{if_on, if_eq}
use Rattle.eb_write_spec.specs.declared.Written.{Written}
use Rattle.eb_write_spec.specs.Write.{number_for, answer_for, buffer_for}
use Rattle.ack_record_spec.specs.declared.Ack.{Ack}
use Rattle.ack_record_spec.specs.declared.AckForm.{AckForm}
use Rattle.ack_record_spec.specs.Record.{ack_of, is_ack}
use Rattle.ack_write_spec.specs.Frame.{frame_of}
use Rattle.ack_write_spec.specs.Limits.{fits, form_fits}

module _ (form : AckForm) (ok : Bool) (is : ok ≡ is_ack form) where
  module _ (off : not ok ≡ true) where
    no_record : form_fits form ≡ false
    unfolding form_fits
    no_record = rw (sym is ∙ not-true ok off)

    pub form_refused : (buffer : ℕ) → record { number = 8; length = 0 } ≡ answer_for (form_fits form) (frame_of (ack_of form)) buffer
    unfolding answer_for number_for if_on if_eq
    form_refused buffer = rw no_record

    pub form_untouched : (buffer : List ℕ) → buffer ≡ buffer_for (form_fits form) (frame_of (ack_of form)) buffer
    unfolding buffer_for number_for if_on if_eq
    form_untouched buffer = rw no_record

  module _ (on : not ok ≡ false) (ack : Ack) (record_is : ack ≡ ack_of form) where
    a_record : fits ack ≡ form_fits form
    unfolding form_fits
    a_record = rw (sym is ∙ not-false ok on, record_is)

    pub form_answers : (buffer : ℕ) (written : Written) → written ≡ answer_for (fits ack) (frame_of ack) buffer → written ≡ answer_for (form_fits form) (frame_of (ack_of form)) buffer
    form_answers buffer written e = rw (a_record, record_is) at e

    pub form_stored : (buffer after : List ℕ) → after ≡ buffer_for (fits ack) (frame_of ack) buffer → after ≡ buffer_for (form_fits form) (frame_of (ack_of form)) buffer
    form_stored buffer after e = rw (a_record, record_is) at e

pub ruleset forms = (form_refused, form_untouched, form_answers, form_stored)
