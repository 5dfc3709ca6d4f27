-- When each number of writing is given. Assumes nothing.
use Prim.Native.Nat.{ℕ}
use mathlib.Core.Path.{◌≡◌, refl, sym, ◌∙◌, ap}
use mathlib.Core.Bool.{Bool, true, false, cond}
use native.Mathlib.Omega.{arith}
use Rattle.octets_spec.proofs.ChoiceLaws.{if_on_lem, if_off_lem, by_test}
use Rattle.eb_write_spec.specs.Frame.{frame_of}
use Rattle.eb_write_spec.specs.Limits.{fits}
use Rattle.eb_record_spec.specs.declared.BeaconForm.{BeaconForm}
use Rattle.eb_record_spec.specs.Form.{beacon_of, is_beacon}
use Rattle.eb_write_spec.specs.declared.Written.{Written}
use Rattle.eb_write_spec.specs.Write.{answer_for, written_number}
use Rattle.eb_write_spec.specs.Form.{form_fits, form_written}
use Rattle.eb_write_spec.specs.Claims.{WriteNumbers, FormNumbers}
use Rattle.eb_write_spec.proofs.WrittenLaws.{each_when}

pub write_numbers : WriteNumbers
write_numbers beacon buffer = each_when (fits beacon) (frame_of beacon) buffer

-- ---- from a form
-- on and off differ
pub differ : {X : Type 0} → true ≡ false → X
differ e = let same : ◌≡◌ {A = ℕ} 1 0 = ap (λ (test : Bool). cond test 1 0) e in absurd (omega arith)

module _ (form : BeaconForm) (buffer : ℕ) where
  module _ (on : is_beacon form ≡ true) where
    number_on_lem : (form_written form buffer).number ≡ written_number (beacon_of form) buffer
    unfolding form_written answer_for
    number_on_lem = ap (λ (written : Written). written.number) (sym (if_on_lem _ _ (is_beacon form) on refl))

    fits_on : form_fits form ≡ fits (beacon_of form)
    unfolding form_fits
    fits_on = rw on

  module _ (off : is_beacon form ≡ false) where
    number_off : (form_written form buffer).number ≡ 8
    unfolding form_written
    number_off = ap (λ (written : Written). written.number) (sym (if_off_lem _ _ (is_beacon form) off refl))

    fits_off : form_fits form ≡ false
    unfolding form_fits
    fits_off = rw off

pub form_numbers : FormNumbers
form_numbers form buffer =
    by_test (is_beacon form) (λ on. rw (number_on_lem form buffer on, fits_on form buffer on) (write_numbers (beacon_of form) buffer))
    (λ off.
    let is = number_off form buffer off in
    let out = fits_off form buffer off in (
      (λ e. out, λ h. is),
      (λ e. let same = sym is ∙ e in absurd (omega arith), λ h. differ (sym h.0 ∙ out)),
      (λ e. let same = sym is ∙ e in absurd (omega arith), λ h. differ (sym h.0 ∙ out)),
      (λ e. let same = sym is ∙ e in absurd (omega arith), λ h. differ (sym h.0 ∙ out)),
    ))
