-- The laws of forms and their records, in the shape in which the code meets them. Assumes nothing.
use Prim.Native.Nat.{ℕ, ◌%◌, ◌<◌}
use mathlib.Core.Path.{◌≡◌, refl, sym, ◌∙◌}
use mathlib.Core.List.{List}
use lib.ListN.{replicate}
use Rattle.std.specs.Array.{AllOfLen}
use Rattle.std.proofs.lemmas.List.{ext_get_or, length-replicate, get_or-replicate}
use mathlib.Core.Bool.{Bool, true, false}
use Rattle.octets_spec.proofs.ChoiceLaws.{if_on_lem, if_off_lem}
use Rattle.mac_header_spec.specs.declared.SequenceNumber.{SequenceNumber}
use Rattle.mac_header_spec.specs.declared.SequenceNumber.TheVariants.{Absent, Number}
use Rattle.mac_header_spec.specs.declared.Address.{Address}
use Rattle.mac_header_spec.specs.declared.Address.TheVariants.{Short, Extended}
use Rattle.eb_record_spec.specs.declared.BeaconForm.{BeaconForm}
use Rattle.eb_record_spec.specs.Form.{sequence_from, address_from, beacon_of}

module _ (mark : Bool) (number : ℕ) where
  pub sequence_there : mark ≡ true → Number number ≡ sequence_from mark number
  unfolding sequence_from
  sequence_there on = if_on_lem _ _ mark on refl

  pub sequence_absent : mark ≡ false → Absent ≡ sequence_from mark number
  unfolding sequence_from
  sequence_absent off = if_off_lem _ _ mark off refl

  pub address_extended : mark ≡ true → Extended number ≡ address_from mark number
  unfolding address_from
  address_extended on = if_on_lem _ _ mark on refl

  pub address_short : mark ≡ false → Short (number % 65536) ≡ address_from mark number
  unfolding address_from
  address_short off = if_off_lem _ _ mark off refl

module _ (form : BeaconForm) where
  pub beacon_is : (sequence : SequenceNumber) (source : Address) → sequence ≡ sequence_from form.sequenced form.sequence → source ≡ address_from form.extended form.source
      → record { sequence = sequence; pan = form.pan; source = source; synchronization = form.synchronization; timeslot = form.timeslot; hopping = form.hopping; slotframe = form.slotframe; joining = form.joining } ≡ beacon_of form
  unfolding beacon_of
  beacon_is sequence source e f = rw (e, f)

-- an array in which each place holds this value, as a derived default gives it
pub all_same : {A : Type 0} (P : A → Type 0) (value : A) → ((x : A) → P x → x ≡ value) → (n : ℕ) (xs : List A) → AllOfLen P xs n → xs ≡ replicate n value
all_same P value is n xs all =
    ext_get_or value xs (replicate n value) (all.long ∙ sym (length-replicate n value)) (λ i below.
    let inside : i < n = rw all.long at below in
    is _ (all.at i value inside) ∙ sym (get_or-replicate n i value value inside))

pub ruleset forms = (sequence_there, sequence_absent, address_extended, address_short, beacon_is)
