-- A written acknowledgement is of the grammar, by how it is built: no offset and no walk comes into it. Assumes nothing.
use Prim.Native.Nat.{ℕ, suc, ◌-◌, ◌/◌, ◌%◌, ◌^◌, ◌<◌, ◌≤◌}
use mathlib.Core.Path.{◌≡◌, refl, sym, ◌∙◌, ap, subst}
use mathlib.Core.Bool.{Bool, true, false, and-false, and-eq-true_iff}
use mathlib.Core.List.{List, [], ◌∷◌, ◌++◌, append-nil}
use native.Mathlib.Omega.{arith}
use borrow.Author.Tests.{lt-ltb, leb-true, ltb-true}
use lib.Dec.{leb, ltb, eqb}
use lib.IntN.{ℤ, pos, negsuc}
use lib.ListN.{length}
use Rattle.octets_spec.specs.Choice.{if_on, if_eq}
use Rattle.octets_spec.specs.Number.{le_bytes}
use Rattle.octets_spec.proofs.ChoiceLaws.{if_lt_lem, if_ge}
use Rattle.mac_header_spec.specs.declared.SequenceNumber.{SequenceNumber}
use Rattle.mac_header_spec.specs.declared.SequenceNumber.TheVariants.{Absent, Number}
use Rattle.mac_header_spec.specs.declared.Address.{Address}
use Rattle.mac_header_spec.specs.declared.Address.TheVariants.{Short, Extended}
use Rattle.eb_record_spec.specs.Form.{address_fits}
use Rattle.eb_write_spec.specs.Frame.{suppressed_bit, address_mode, header_descriptor, flag}
use Rattle.eb_write_spec.specs.Limits.{sequence_fits}
use Rattle.eb_write_spec.proofs.LengthLaws.{length_le, on}
use Rattle.eb_grammar_spec.specs.Row.{le, bits}
use Rattle.eb_grammar_spec.specs.Grammar.{Descriptor, HeaderElements, header_end, header_element, contents}
use Rattle.eb_round_trip_spec.proofs.OfTheGrammar.{le_of, number, address}
use Rattle.ack_record_spec.specs.declared.Ack.{Ack}
use Rattle.ack_read_spec.specs.Read.{correction_of}
use Rattle.ack_write_spec.specs.Frame.{compression_bit, control_word, mac_header_bytes, correction_bits, correction_word, correction_bytes, frame_of}
use Rattle.ack_write_spec.specs.Limits.{is_correction, fits}
use Rattle.ack_write_spec.proofs.Claimed.{lengths_from_12_to_25}
use Rattle.ack_grammar_spec.specs.Grammar.{Compression, both_extended, destination_short, source_short, FrameControl, FixedFields, fixed_fields, elements_of, bytes_end, CorrectionContent, correction}
use Rattle.ack_grammar_spec.proofs.Agreed.{signed_is}
use Rattle.ack_round_trip_spec.specs.ReadBack.{WrittenIsOfTheGrammar}

-- ---- frame control
compressed : (d a : Address) → (Compression (address_mode d) (address_mode a) (compression_bit d a)) × (compression_bit d a ≤ 1)
unfolding address_mode compression_bit
compressed (Short n) a = (destination_short _, omega arith)
compressed (Extended n) (Short m) = (source_short 3, omega arith)
compressed (Extended n) (Extended m) = (both_extended, omega arith)

bit_small : (q : SequenceNumber) → suppressed_bit q ≤ 1
unfolding suppressed_bit
bit_small Absent = omega arith
bit_small (Number n) = omega arith

mode_small : (a : Address) → address_mode a < 4
unfolding address_mode
mode_small (Short n) = omega arith
mode_small (Extended n) = omega arith

control : (ack : Ack) → FrameControl (le (le_bytes 2 (control_word ack))) (suppressed_bit ack.sequence) (address_mode ack.destination) (address_mode ack.source)
unfolding control_word
control ack =
    let c = compressed ack.destination ack.source in
    let q = bit_small ack.sequence in
    let d = mode_small ack.destination in
    let a = mode_small ack.source in
    let word = le_of 2 (control_word ack) (omega (arith, c.1, q, d, a)) in
    rw word (record {
      type = omega (arith, c.1, q, d, a);
      security = omega (arith, c.1, q, d, a);
      compression = let bit : compression_bit ack.destination ack.source ≡ bits 6 1 (control_word ack) = omega (arith, c.1, q, d, a) in subst (Compression (address_mode ack.destination) (address_mode ack.source)) bit c.0;
      suppression = omega (arith, c.1, q, d, a);
      elements = omega (arith, c.1, q, d, a);
      destination = omega (arith, c.1, q, d, a);
      version = omega (arith, c.1, q, d, a);
      source = omega (arith, c.1, q, d, a);
    })

-- ---- the limits, one by one
pub record Within (ack : Ack) : Type 0 where
  pub sequence : sequence_fits ack.sequence ≡ true
  pub pan : ack.pan < 2 ^ 16
  pub destination : address_fits ack.destination ≡ true
  pub source : address_fits ack.source ≡ true
  pub correction : is_correction ack.correction ≡ true

pub within : (ack : Ack) → fits ack ≡ true → Within ack
unfolding fits
within ack e = record {
  sequence = on (sequence_fits ack.sequence) (λ h. simp h at e);
  pan = ltb-true _ _ (on (ltb ack.pan (2 ^ 16)) (λ h. simp (h, and-false) at e));
  destination = on (address_fits ack.destination) (λ h. simp (h, and-false) at e);
  source = on (address_fits ack.source) (λ h. simp (h, and-false) at e);
  correction = on (is_correction ack.correction) (λ h. simp (h, and-false) at e);
}

opens : (ack : Ack) → Within ack → FixedFields (mac_header_bytes ack) ack.sequence ack.pan ack.destination ack.source
unfolding mac_header_bytes le_bytes
opens ack w =
    let word : ℕ = control_word ack in
    let pan : ℕ = ack.pan in
    subst (λ (n : ℕ). FixedFields (mac_header_bytes ack) ack.sequence n ack.destination ack.source) (le_of 2 pan w.pan)
    (fixed_fields (word % 256) (word / 256 % 256) (pan % 256) (pan / 256 % 256) (control ack) (number ack.sequence w.sequence) (address ack.destination w.destination) (address ack.source w.source))

-- ---- the correction
-- its bits are read as itself
bits_back : (z : ℤ) → is_correction z ≡ true → (correction_bits z < 4096) × ((word : ℕ) → word % 4096 ≡ correction_bits z → correction_of word ≡ z)
unfolding is_correction correction_bits correction_of
bits_back (pos n) e =
    let few : n ≤ 2047 = leb-true n 2047 e in
    (omega arith, λ word is. rw is (sym (if_lt_lem _ _ n 2048 (omega arith) refl)))
bits_back (negsuc n) e =
    let few : n ≤ 2047 = leb-true n 2047 ((and-eq-true_iff (leb n 2047) true).0 e).0 in
    let m : ℕ = 4096 - suc n in
    (omega arith, λ word is. rw is (sym (if_ge _ _ m 2048 (omega arith) (rw (lt-ltb m 4096 (omega arith)) (ap negsuc (omega arith))))))

flag_small : (nack : Bool) → (flag nack ≤ 1) × (eqb (flag nack) 1 ≡ nack)
unfolding if_on
flag_small true = (omega arith, refl)
flag_small false = (omega arith, refl)

module _ (z : ℤ) (nack : Bool) (e : is_correction z ≡ true) where
  abbrev word : ℕ
  word = correction_word z nack

  parts : (word < 65536) × (word % 4096 ≡ correction_bits z) × (bits 15 1 word ≡ flag nack)
  unfolding correction_word
  parts = let small = (bits_back z e).0 in let one = (flag_small nack).0 in (omega (arith, small, one), omega (arith, small, one), omega (arith, small, one))

  content : CorrectionContent (le_bytes 2 word) z nack
  unfolding le_bytes
  content =
      let whole = le_of 2 word parts.0 in
      let number = ap correction_of whole ∙ (bits_back z e).1 word parts.1 in
      let mark = ap (λ (n : ℕ). eqb n 1) parts.2 ∙ (flag_small nack).1 in
      subst (λ (b : Bool). CorrectionContent (le_bytes 2 word) z b) (ap (λ (n : ℕ). eqb (bits 15 1 n) 1) whole ∙ mark)
      (subst (λ (x : ℤ). CorrectionContent (le_bytes 2 word) x (eqb (bits 15 1 (le (le_bytes 2 word))) 1)) (signed_is (le (le_bytes 2 word)) ∙ number) (correction (word % 256) (word / 256 % 256)))

  -- the element
  describes : Descriptor 7 2 15 (length (le_bytes 2 word)) 30 0
  unfolding le
  describes = rw (length_le 2 word) (record { parts = refl; length_fits = omega arith; id_fits = omega arith })

  element : HeaderElements (2 ∷ 15 ∷ (le_bytes 2 word ++ []))
  element = header_element 2 15 30 (le_bytes 2 word) describes (λ (x : ◌≡◌ {A = ℕ} 30 126). omega arith) (λ (x : ◌≡◌ {A = ℕ} 30 127). omega arith) header_end

  once : contents 30 (elements_of element) ≡ le_bytes 2 word ∷ []
  unfolding element elements_of contents if_eq
  once = refl

  bytes_are : correction_bytes z nack ≡ 2 ∷ 15 ∷ (le_bytes 2 word ++ [])
  unfolding correction_bytes header_descriptor le_bytes
  bytes_are = refl

pub written_is_of_the_grammar : WrittenIsOfTheGrammar
unfolding frame_of
written_is_of_the_grammar ack e =
    let w = within ack e in
    let bytes = bytes_are ack.correction ack.nack w.correction in
    record {
      fields = mac_header_bytes ack;
      header = _;
      rest = [];
      at_most_125 = omega (arith, lengths_from_12_to_25 ack);
      stands = ap (λ (xs : List ℕ). mac_header_bytes ack ++ xs) (bytes ∙ sym (append-nil _));
      opens = opens ack w;
      lists = element ack.correction ack.nack w.correction;
      ends = bytes_end;
      says = (le_bytes 2 (correction_word ack.correction ack.nack), once ack.correction ack.nack w.correction, content ack.correction ack.nack w.correction);
    }
