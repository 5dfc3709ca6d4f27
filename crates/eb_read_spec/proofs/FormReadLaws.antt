-- The laws of reading through the form without enums, in the shape in which the code meets them. Assumes nothing.
use Prim.Native.Nat.{ℕ}
use mathlib.Core.Path.{◌≡◌, refl, sym, ◌∙◌, ap}
use mathlib.Core.Bool.{true}
use mathlib.Core.List.{List}
use Rattle.std.specs.Prelude.{Result, Ok, Err}
use Rattle.octets_spec.proofs.ChoiceLaws.{if_on_lem}
use Rattle.refusal.specs.Refusal.{number_of}
use Rattle.refusal.specs.declared.Refusal.{Refusal}
use Rattle.ie_walk_spec.specs.declared.Walk.{Walk}
use Rattle.eb_record_spec.specs.Record.{blank_beacon}
use Rattle.eb_record_spec.specs.Form.{form_of, beacon_of, is_beacon}
use Rattle.eb_record_spec.specs.declared.Beacon.{Beacon}
use Rattle.eb_record_spec.specs.declared.BeaconForm.{BeaconForm}
use Rattle.eb_record_spec.proofs.FormLaws.{form_back}
use Rattle.eb_read_spec.specs.Decode.{decoded}
use Rattle.eb_read_spec.specs.Read.{examination_of, examined, answer_of, read_frame}
use Rattle.eb_read_spec.specs.Form.{decoded_form, form_reading}
use Rattle.eb_read_spec.specs.Read.{Examination}
use Rattle.eb_read_spec.proofs.ReadLaws.{number_some, read_refused, read_done, examined_fault, examined_good}
use Rattle.eb_read_spec.proofs.Accepted.{accepted_lies_inside}

module _ (s : List ℕ) (x : Examination) (is : x ≡ examined s) where
  module _ (good : x.number ≡ 0) (form : BeaconForm) (e : form ≡ decoded_form s x.walk) where
    -- the form of an accepted frame is that of its record
    accepted_form : form ≡ form_of (decoded s x.walk)
    unfolding decoded_form
    accepted_form = e ∙ sym (if_on_lem _ _ _ (rw is (accepted_lies_inside s (rw is at good))) refl)

    -- and its record is the form's
    pub read_record : (beacon : Beacon) → is_beacon form ≡ true → beacon ≡ beacon_of form → record { number = 0; beacon = beacon } ≡ read_frame s
    read_record beacon fits f =
        read_done s x is beacon good (f ∙ ap beacon_of accepted_form ∙ form_back (decoded s x.walk) (rw accepted_form at fits))

    pub read_form : record { number = 0; beacon = form } ≡ form_reading (read_frame s)
    unfolding form_reading
    read_form = rw (← read_done s x is (decoded s x.walk) good refl, accepted_form) refl

  pub read_blank : (form : BeaconForm) → (x.number ≡ 0 → ⊥) → form ≡ form_of blank_beacon → record { number = x.number; beacon = form } ≡ form_reading (read_frame s)
  unfolding form_reading
  read_blank form bad e = rw (← read_refused s x is blank_beacon bad refl, e) refl

-- ---- the same of what the checks answer
module _ (s : List ℕ) (verdict : Result (Unit {0}) Refusal) (walk : Walk) (is : examination_of verdict walk ≡ examined s) where
  module _ (u : Unit {0}) (good : verdict ≡ Ok u) (form : BeaconForm) (e : form ≡ decoded_form s walk) where
    pub record_is : (beacon : Beacon) → is_beacon form ≡ true → beacon ≡ beacon_of form → answer_of (Ok beacon) ≡ read_frame s
    record_is beacon fits f = read_record s (record { number = 0; walk = walk }) (examined_good s verdict walk is u good) refl form e beacon fits f

    pub form_is : record { number = 0; beacon = form } ≡ form_reading (read_frame s)
    form_is = read_form s (record { number = 0; walk = walk }) (examined_good s verdict walk is u good) refl form e

  pub blank_form_is : (refusal : Refusal) → verdict ≡ Err refusal → (form : BeaconForm) → form ≡ form_of blank_beacon → record { number = number_of refusal; beacon = form } ≡ form_reading (read_frame s)
  blank_form_is refusal bad form e = read_blank s (record { number = number_of refusal; walk = walk }) (examined_fault s verdict walk is refusal bad) form (number_some refusal) e

pub ruleset form-reading = (read_record, read_form, read_blank, form_is, blank_form_is)
