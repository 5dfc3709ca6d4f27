-- The laws of the checks before the elements: each way out of them. Assumes nothing.
use Prim.Native.Nat.{ℕ, ◌<◌, ◌≤◌}
use mathlib.Core.Path.{◌≡◌, refl, sym, ap, ◌∙◌}
use mathlib.Core.List.{List}
use lib.ListN.{length}
use native.Mathlib.Omega.{arith}
use Rattle.octets_spec.specs.Choice.{if_eq}
use Rattle.octets_spec.specs.Number.{le_at}
use Rattle.octets_spec.proofs.ChoiceLaws.{if_lt_lem, if_ge, if_eq_lem, if_ne_lem, was_eq}
use Rattle.mac_header_spec.specs.Control.{control_of}
use Rattle.mac_header_spec.specs.Fields.{address_length, offsets_of, mac_header_of}
use Rattle.mac_header_spec.specs.declared.Control.{Control}
use Rattle.mac_header_spec.specs.declared.FieldOffsets.{FieldOffsets}
use Rattle.mac_header_spec.specs.declared.MacHeader.{MacHeader}
use Rattle.mac_header_spec.proofs.ControlLaws.{starts_are, ends_are}
use Rattle.eb_read_spec.specs.Policy.{form_fault, policy_fault, mac_header_fault}

-- what has the accepted form has a short destination
short_destination : (control : Control) → form_fault control ≡ 0 → control.destination ≡ 2
unfolding form_fault
short_destination control e =
    let kind = was_eq _ _ _ _ _ e (λ z. omega arith) in
    let version = was_eq _ _ _ _ _ kind.1 (λ z. omega arith) in
    let security = was_eq _ _ _ _ _ version.1 (λ z. omega arith) in
    (was_eq _ _ _ _ _ security.1 (λ z. omega arith)).0

two_bytes : (mode : ℕ) → mode ≡ 2 → address_length mode ≡ 2
unfolding address_length if_eq
two_bytes mode e = rw e

module _ (size : ℕ) (header : MacHeader) where
  pub too_long : 125 < size → 1 ≡ policy_fault size header
  unfolding policy_fault
  too_long h = if_lt_lem _ _ _ _ h refl

  module _ (short : size ≤ 125) where
    pub no_control : size < 2 → 2 ≡ policy_fault size header
    unfolding policy_fault
    no_control h = if_ge _ _ _ _ short (if_lt_lem _ _ _ _ h refl)

    module _ (whole : 2 ≤ size) (fault : ℕ) (form : fault ≡ form_fault header.control) where
      pub bad_form : (fault ≡ 0 → ⊥) → fault ≡ policy_fault size header
      unfolding policy_fault
      bad_form h = if_ge _ _ _ _ short (if_ge _ _ _ _ whole (if_ne_lem _ _ _ _ (λ (e : form_fault header.control ≡ 0). h (form ∙ e)) form))

      module _ (good : fault ≡ 0) where
        pub fields_cut : header.end < header.elements → 2 ≡ policy_fault size header
        unfolding policy_fault
        fields_cut h = if_ge _ _ _ _ short (if_ge _ _ _ _ whole (if_eq_lem _ _ _ _ (sym form ∙ good) (if_lt_lem _ _ _ _ h refl)))

        module _ (there : header.elements ≤ header.end) where
          pub no_broadcast : (header.destination ≡ 65535 → ⊥) → 5 ≡ policy_fault size header
          unfolding policy_fault
          no_broadcast h = if_ge _ _ _ _ short (if_ge _ _ _ _ whole (if_eq_lem _ _ _ _ (sym form ∙ good) (if_ge _ _ _ _ there (if_ne_lem _ _ _ _ h refl))))

          pub accepted : header.destination ≡ 65535 → 0 ≡ policy_fault size header
          unfolding policy_fault
          accepted h = if_ge _ _ _ _ short (if_ge _ _ _ _ whole (if_eq_lem _ _ _ _ (sym form ∙ good) (if_ge _ _ _ _ there (if_eq_lem _ _ _ _ h refl))))

-- ---- the same, as the code finds the fields
module _ (s : List ℕ) where
  pub frame_policy : (fault : ℕ) → fault ≡ policy_fault (length s) (mac_header_of s) → fault ≡ mac_header_fault s
  unfolding mac_header_fault
  frame_policy fault e = e

  module _ (short : length s ≤ 125) where
    module _ (whole : 2 ≤ length s) (word : ℕ) (control : Control) (fault : ℕ) (e : word ≡ le_at 2 s 0) (f : control ≡ control_of word) (form : fault ≡ form_fault control) where
      formed : fault ≡ form_fault (mac_header_of s).control
      unfolding mac_header_of
      formed = rw (f, e) at form

      pub frame_form : (fault ≡ 0 → ⊥) → fault ≡ mac_header_fault s
      frame_form bad = frame_policy fault (bad_form (length s) (mac_header_of s) short whole fault formed bad)

      module _ (good : fault ≡ 0) (offsets : FieldOffsets) (g : offsets ≡ offsets_of control (length s)) where
        places : (offsets.end ≡ (mac_header_of s).end) × (offsets.elements ≡ (mac_header_of s).elements)
        places = (ends_are s word control offsets e f g, starts_are s word control offsets e f g)

        pub frame_cut : offsets.end < offsets.elements → 2 ≡ mac_header_fault s
        frame_cut h = frame_policy 2 (fields_cut (length s) (mac_header_of s) short whole fault formed good (rw (places.0, places.1) at h))

        module _ (there : offsets.elements ≤ offsets.end) (destination : ℕ) (d : destination ≡ le_at 2 s offsets.destination) where
          whole_fields : (mac_header_of s).elements ≤ (mac_header_of s).end
          whole_fields = rw (places.0, places.1) at there

          -- in a frame of the accepted form the destination is short
          destination_is : destination ≡ (mac_header_of s).destination
          unfolding mac_header_of
          destination_is = d ∙ ap (λ (width : ℕ). le_at width s offsets.destination) (sym (two_bytes _ (short_destination (control_of (le_at 2 s 0)) (sym formed ∙ good)))) ∙ rw (g, f, e) refl

          pub frame_destination : (destination ≡ 65535 → ⊥) → 5 ≡ mac_header_fault s
          frame_destination h = frame_policy 5 (no_broadcast (length s) (mac_header_of s) short whole fault formed good whole_fields (rw destination_is at h))

          pub frame_accepted : destination ≡ 65535 → 0 ≡ mac_header_fault s
          frame_accepted h = frame_policy 0 (accepted (length s) (mac_header_of s) short whole fault formed good whole_fields (rw destination_is at h))

  pub frame_long : 125 < length s → 1 ≡ mac_header_fault s
  frame_long h = frame_policy 1 (too_long (length s) (mac_header_of s) h)

  pub frame_empty : length s ≤ 125 → length s < 2 → 2 ≡ mac_header_fault s
  frame_empty short h = frame_policy 2 (no_control (length s) (mac_header_of s) short h)

pub ruleset policies = (frame_long, frame_empty, frame_form, frame_cut, frame_destination, frame_accepted)
