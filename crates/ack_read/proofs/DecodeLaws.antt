-- The laws of the record's fields, in the shape in which the code meets them. Assumes nothing.
use Prim.Native.Nat.{ℕ, suc, ◌-◌, ◌/◌, ◌%◌, ◌<◌, ◌≤◌}
use mathlib.Core.Path.{◌≡◌, refl, sym, ◌∙◌, ap, subst}
use mathlib.Core.Bool.{true, false, ◌||◌}
use mathlib.Core.List.{List}
use lib.Dec.{eqb}
use lib.IntN.{ℤ, pos, negsuc, ◌-ℤ◌}
use lib.Signed.{lt_z}
use mir.Syntax.{w32}
use mir.Val.{SFits, to_z, of_z}
use mir.Facts.{to_z_pos, to_z-of_z}
use native.Mathlib.Omega.{arith}
use borrow.Author.Tests.{lt-ltb, ltb-true, ltb-false}
use Rattle.octets_spec.specs.Number.{le_at}
use Rattle.octets_spec.proofs.ChoiceLaws.{if_lt_lem, if_ge, if_eq_lem, if_ne_lem}
use Rattle.mac_header_spec.specs.Fields.{mac_header_of, AddressesFit}
use Rattle.mac_header_spec.specs.declared.MacHeader.{MacHeader}
use Rattle.eb_record_spec.proofs.FieldForms.{sequence_form, sequence_zero, address_form, number_form, kind_fits, suppressed_zero}
use Rattle.ack_record_spec.specs.declared.AckForm.{AckForm}
use Rattle.ack_record_spec.specs.Record.{form_of, is_ack}
use Rattle.ack_read_spec.specs.Policy.{compression_of}
use Rattle.ack_read_spec.specs.Read.{correction_of, nack_of, ack_from}

-- ---- the form, by the fields of the MAC header
module _ (s : List ℕ) (header : MacHeader) (content : ℕ) (correction : ℤ) (e : header ≡ mac_header_of s) where
  abbrev decoded : AckForm
  decoded = record {
    sequenced = eqb header.control.suppressed 0;
    sequence = header.sequence;
    pan = header.pan;
    destination_extended = eqb header.control.destination 3;
    destination = header.destination;
    source_extended = eqb header.control.source 3;
    source = header.source;
    correction = correction;
    nack = eqb (content / 32768 % 2) 1;
  }

  pub form_is : (at : ℕ) → content ≡ le_at 2 s at → correction ≡ correction_of content → decoded ≡ form_of (ack_from (mac_header_of s) (le_at 2 s at))
  unfolding form_of ack_from nack_of
  form_is at f g =
      rw (g, f, e, sequence_form (mac_header_of s), sequence_zero s, address_form (mac_header_of s).control.destination (mac_header_of s).destination, number_form (mac_header_of s).control.destination (mac_header_of s).destination, address_form (mac_header_of s).control.source (mac_header_of s).source, number_form (mac_header_of s).control.source (mac_header_of s).source) refl

  pub form_fits_lem : AddressesFit header → is_ack decoded ≡ true
  unfolding is_ack
  form_fits_lem short =
      let zero : (eqb header.control.suppressed 0 || eqb header.sequence 0) ≡ true = rw e (suppressed_zero s) in
      rw (kind_fits header.control.destination header.destination short.0, kind_fits header.control.source header.source short.1, zero)

-- ---- PAN ID compression
module _ (destination source : ℕ) where
  pub destination_short : (destination ≡ 3 → ⊥) → 1 ≡ compression_of destination source
  unfolding compression_of
  destination_short h = if_ne_lem _ _ _ _ h refl

  pub source_short : destination ≡ 3 → (source ≡ 3 → ⊥) → 1 ≡ compression_of destination source
  unfolding compression_of
  source_short d h = if_eq_lem _ _ _ _ d (if_ne_lem _ _ _ _ h refl)

  pub both_extended : destination ≡ 3 → source ≡ 3 → 0 ≡ compression_of destination source
  unfolding compression_of
  both_extended d h = if_eq_lem _ _ _ _ d (if_eq_lem _ _ _ _ h refl)

pub ruleset compressing = (destination_short, source_short, both_extended)

-- ---- the correction
module _ (word : ℕ) where
  abbrev low : ℕ
  low = word % 4096

  low_is : to_z w32 low ≡ pos low
  low_is = let small : low < 4096 = omega arith in to_z_pos w32 (omega arith)

  pub correction_low : lt_z (to_z w32 low) (pos 2048) ≡ true → to_z w32 low ≡ correction_of word
  unfolding correction_of
  correction_low h = if_lt_lem _ _ low 2048 (ltb-true low 2048 (sym (ap (λ (z : ℤ). lt_z z (pos 2048)) low_is) ∙ h)) low_is

  module _ (h : lt_z (to_z w32 low) (pos 2048) ≡ false) where
    high : 2048 ≤ low
    high = ltb-false low 2048 (sym (ap (λ (z : ℤ). lt_z z (pos 2048)) low_is) ∙ h)

    less : ℤ
    less = to_z w32 low -ℤ pos 4096

    less_is : less ≡ negsuc (4096 - suc low)
    unfolding less
    less_is = rw (low_is, lt-ltb low 4096 (omega arith)) refl

    pub correction_fits : SFits w32 (to_z w32 low -ℤ pos 4096)
    unfolding less
    correction_fits = subst (SFits w32) (sym less_is) (record { sfits = omega arith })

    pub correction_high : to_z w32 (of_z w32 (to_z w32 low -ℤ pos 4096)) ≡ correction_of word
    unfolding correction_of
    correction_high = to_z-of_z correction_fits ∙ if_ge _ _ low 2048 high (rw low_is refl)
