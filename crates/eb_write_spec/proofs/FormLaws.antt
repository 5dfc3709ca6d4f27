-- The laws of writing from a form, in the shape in which the code meets them. Assumes nothing.
use Prim.Native.Nat.{ℕ}
use mathlib.Core.Path.{◌≡◌, refl, sym, ◌∙◌}
use mathlib.Core.Bool.{Bool, true, false, not}
use mathlib.Core.List.{List}
use borrow.Author.Tests.{not-true, not-false}
use Rattle.octets_spec.proofs.ChoiceLaws.{if_on_lem, if_off_lem}
use Rattle.eb_record_spec.specs.declared.Beacon.{Beacon}
use Rattle.eb_record_spec.specs.declared.BeaconForm.{BeaconForm}
use Rattle.eb_record_spec.specs.Form.{beacon_of, is_beacon}
use Rattle.eb_write_spec.specs.declared.Written.{Written}
use Rattle.eb_write_spec.specs.Write.{written_in, buffer_after}
use Rattle.eb_write_spec.specs.Form.{form_written, buffer_after_form}

module _ (form : BeaconForm) (ok : Bool) (is : ok ≡ is_beacon form) where
  module _ (off : not ok ≡ true) where
    pub form_refused : (buffer : ℕ) → record { number = 8; length = 0 } ≡ form_written form buffer
    unfolding form_written
    form_refused buffer = if_off_lem _ _ (is_beacon form) (sym is ∙ not-true ok off) refl

    pub form_untouched : (buffer : List ℕ) → buffer ≡ buffer_after_form form buffer
    unfolding buffer_after_form
    form_untouched buffer = if_off_lem _ _ (is_beacon form) (sym is ∙ not-true ok off) refl

  module _ (on : not ok ≡ false) (beacon : Beacon) (record_is : beacon ≡ beacon_of form) where
    pub form_answers : (buffer : ℕ) (written : Written) → written ≡ written_in beacon buffer → written ≡ form_written form buffer
    unfolding form_written
    form_answers buffer written e = if_on_lem _ _ (is_beacon form) (sym is ∙ not-false ok on) (rw record_is at e)

    pub form_stored : (buffer after : List ℕ) → after ≡ buffer_after beacon buffer → after ≡ buffer_after_form form buffer
    unfolding buffer_after_form
    form_stored buffer after e = if_on_lem _ _ (is_beacon form) (sym is ∙ not-false ok on) (rw record_is at e)

pub ruleset forms = (form_refused, form_untouched, form_answers, form_stored)
