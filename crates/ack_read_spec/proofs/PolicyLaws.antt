-- The laws of the checks before the elements, in the shape in which the code meets them: each way out of them. Assumes nothing.
use Prim.Native.Nat.{ℕ, ◌<◌, ◌≤◌}
use mathlib.Core.Path.{◌≡◌, refl, sym, ◌∙◌}
use mathlib.Core.List.{List}
use lib.ListN.{length}
use Rattle.octets_spec.specs.Number.{le_at}
use Rattle.octets_spec.proofs.ChoiceLaws.{if_lt_lem, if_ge, if_eq_lem, if_ne_lem}
use Rattle.mac_header_spec.specs.Control.{control_of}
use Rattle.mac_header_spec.specs.Fields.{offsets_of, mac_header_of}
use Rattle.mac_header_spec.specs.declared.Control.{Control}
use Rattle.mac_header_spec.specs.declared.FieldOffsets.{FieldOffsets}
use Rattle.mac_header_spec.proofs.ControlLaws.{starts_are, ends_are}
use Rattle.ack_read_spec.specs.Policy.{compression_of, addressing_fault, form_fault, policy_fault, mac_header_fault}

-- ---- the addressing
module _ (control : Control) where
  pub far_away : control.destination < 2 → 5 ≡ addressing_fault control
  unfolding addressing_fault
  far_away h = if_lt_lem _ _ _ _ h refl

  module _ (far : 2 ≤ control.destination) where
    pub near_away : control.source < 2 → 5 ≡ addressing_fault control
    unfolding addressing_fault
    near_away h = if_ge _ _ _ _ far (if_lt_lem _ _ _ _ h refl)

    module _ (near : 2 ≤ control.source) (asked : ℕ) (e : asked ≡ compression_of control.destination control.source) where
      pub compressed_else : (control.compression ≡ asked → ⊥) → 5 ≡ addressing_fault control
      unfolding addressing_fault
      compressed_else h = if_ge _ _ _ _ far (if_ge _ _ _ _ near (if_ne_lem _ _ _ _ (λ z. h (z ∙ sym e)) refl))

      module _ (same : control.compression ≡ asked) where
        pub no_elements : (control.elements ≡ 1 → ⊥) → 5 ≡ addressing_fault control
        unfolding addressing_fault
        no_elements h = if_ge _ _ _ _ far (if_ge _ _ _ _ near (if_eq_lem _ _ _ _ (same ∙ e) (if_ne_lem _ _ _ _ h refl)))

        pub addressed : control.elements ≡ 1 → 0 ≡ addressing_fault control
        unfolding addressing_fault
        addressed h = if_ge _ _ _ _ far (if_ge _ _ _ _ near (if_eq_lem _ _ _ _ (same ∙ e) (if_eq_lem _ _ _ _ h refl)))

pub ruleset addressings = (far_away, near_away, compressed_else, no_elements, addressed)

-- ---- the checks in their order
module _ (s : List ℕ) where
  pub frame_long : 125 < length s → 1 ≡ mac_header_fault s
  unfolding mac_header_fault policy_fault
  frame_long h = if_lt_lem _ _ _ _ h refl

  module _ (short : length s ≤ 125) where
    pub frame_empty : length s < 2 → 2 ≡ mac_header_fault s
    unfolding mac_header_fault policy_fault
    frame_empty h = if_ge _ _ _ _ short (if_lt_lem _ _ _ _ h refl)

    module _ (whole : 2 ≤ length s) (word : ℕ) (control : Control) (fault : ℕ) (e : word ≡ le_at 2 s 0) (f : control ≡ control_of word) (form : fault ≡ form_fault control) where
      formed : fault ≡ form_fault (mac_header_of s).control
      unfolding mac_header_of
      formed = rw (f, e) at form

      pub frame_form : (fault ≡ 0 → ⊥) → fault ≡ mac_header_fault s
      unfolding mac_header_fault policy_fault
      frame_form bad = if_ge _ _ _ _ short (if_ge _ _ _ _ whole (if_ne_lem _ _ _ _ (λ (z : form_fault (mac_header_of s).control ≡ 0). bad (formed ∙ z)) formed))

      module _ (good : fault ≡ 0) (offsets : FieldOffsets) (g : offsets ≡ offsets_of control (length s)) where
        pub frame_cut : offsets.end < offsets.elements → 2 ≡ mac_header_fault s
        unfolding mac_header_fault policy_fault
        frame_cut h = if_ge _ _ _ _ short (if_ge _ _ _ _ whole (if_eq_lem _ _ _ _ (sym formed ∙ good) (if_lt_lem _ _ _ _ (rw (ends_are s word control offsets e f g, starts_are s word control offsets e f g) at h) refl)))

        pub frame_accepted : offsets.elements ≤ offsets.end → 0 ≡ mac_header_fault s
        unfolding mac_header_fault policy_fault
        frame_accepted h = if_ge _ _ _ _ short (if_ge _ _ _ _ whole (if_eq_lem _ _ _ _ (sym formed ∙ good) (if_ge _ _ _ _ (rw (ends_are s word control offsets e f g, starts_are s word control offsets e f g) at h) refl)))

pub ruleset policies = (frame_long, frame_empty, frame_form, frame_cut, frame_accepted)
