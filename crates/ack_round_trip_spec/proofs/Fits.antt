-- What an acknowledgement of the grammar says is within the limits of writing, and needs no more bytes than it was said in. Assumes nothing.
use Prim.Native.Nat.{ℕ, suc, ◌+◌, ◌-◌, ◌%◌, ◌^◌, ◌<◌, ◌≤◌}
use mathlib.Core.Path.{◌≡◌, refl, sym, ◌∙◌, ap}
use mathlib.Core.Bool.{Bool, true}
use mathlib.Core.List.{List, [], ◌∷◌, ◌++◌}
use native.Mathlib.Omega.{arith}
use borrow.Author.Tests.{le-leb, lt-ltb}
use lib.Dec.{ltb}
use lib.IntN.{ℤ, pos, ◌-ℤ◌}
use lib.ListN.{length, get_or, length-append}
use Rattle.octets_spec.proofs.ChoiceLaws.{by_lt, by_eq, if_lt_lem, if_ge}
use Rattle.mac_header_spec.specs.declared.SequenceNumber.{SequenceNumber}
use Rattle.mac_header_spec.specs.declared.Address.{Address}
use Rattle.eb_record_spec.specs.Form.{address_fits}
use Rattle.eb_write_spec.specs.Frame.{sequence_bytes, address_bytes}
use Rattle.eb_write_spec.specs.Limits.{sequence_fits}
use Rattle.eb_grammar_spec.specs.Row.{le}
use Rattle.eb_grammar_spec.specs.Grammar.{HeaderElements, header_end, header_element, contents}
use Rattle.eb_round_trip_spec.proofs.AllBytes.{All, also, parts, behind_byte, le_small}
use Rattle.eb_round_trip_spec.proofs.Fits.{sequence_fits_lem, address_fits_lem}
use Rattle.ack_record_spec.specs.declared.Ack.{Ack}
use Rattle.ack_read_spec.specs.Read.{correction_of}
use Rattle.ack_write_spec.specs.Frame.{frame_of, frame_length}
use Rattle.ack_write_spec.specs.Limits.{is_correction, fits}
use Rattle.ack_write_spec.proofs.Claimed.{length_is_the_formula}
use Rattle.ack_grammar_spec.specs.Grammar.{FixedFields, fixed_fields, elements_of, CorrectionContent, correction, Accepts}
use Rattle.ack_grammar_spec.proofs.Agreed.{signed_is}
use Rattle.ack_grammar_spec.proofs.Lists.{no_more, contents_is, contents_other}

-- ---- what stands before the elements
pub record FieldsFit (size : ℕ) (n : SequenceNumber) (p : ℕ) (to from : Address) : Type 0 where
  pub sequence : sequence_fits n ≡ true
  pub pan : ltb p (2 ^ 16) ≡ true
  pub destination : address_fits to ≡ true
  pub source : address_fits from ≡ true
  pub long : size ≡ 4 + length (sequence_bytes n) + length (address_bytes to) + length (address_bytes from)

fields_fit : (xs : List ℕ) (n : SequenceNumber) (p : ℕ) (to from : Address) → FixedFields xs n p to from → All xs → FieldsFit (length xs) n p to from
fields_fit _ _ _ _ _ (fixed_fields l h p q {sequence} {destination} {source} c n-says to-says from-says) all =
    let cut = parts sequence (p ∷ q ∷ (destination ++ source)) (behind_byte (behind_byte all)) in
    let pan = parts (p ∷ q ∷ []) (destination ++ source) cut.1 in
    let both = parts destination source pan.1 in
    let n = sequence_fits_lem _ _ _ n-says cut.0 in
    let to = address_fits_lem _ _ _ to-says both.0 in
    let from = address_fits_lem _ _ _ from-says both.1 in
    record {
      sequence = n.0;
      pan = lt-ltb _ _ (le_small (p ∷ q ∷ []) pan.0);
      destination = to.0;
      source = from.0;
      long = omega (arith, length-append sequence (p ∷ q ∷ (destination ++ source)), length-append destination source, n.1, to.1, from.1);
    }

-- ---- the correction
correction_fits : (word : ℕ) → is_correction (correction_of word) ≡ true
unfolding is_correction correction_of
correction_fits word =
    let n : ℕ = word % 4096 in
    let less : n < 4096 = omega arith in
    by_lt n 2048
    (λ low. rw (← if_lt_lem (pos n) (pos n -ℤ pos 4096) n 2048 low refl) (le-leb n 2047 (omega arith)))
    (λ high. rw (← if_ge (pos n) (pos n -ℤ pos 4096) n 2048 high refl, lt-ltb n 4096 less) (also (le-leb (4096 - suc n) 2047 (omega arith)) refl))

content_fits : (c : List ℕ) (z : ℤ) (b : Bool) → CorrectionContent c z b → (length c ≡ 2) × (is_correction z ≡ true)
content_fits _ _ _ (correction low high) = (refl, ap is_correction (signed_is (le (low ∷ high ∷ []))) ∙ correction_fits (le (low ∷ high ∷ [])))

-- a header list with a correction has the bytes of its descriptor and of its content
pub once_long : (header : List ℕ) (lists : HeaderElements header) (c : List ℕ) → contents 30 (elements_of lists) ≡ c ∷ [] → 2 + length c ≤ length header
unfolding elements_of contents
once_long _ header_end c once = absurd (no_more (sym once))
once_long _ (header_element a b id content {rest = more} d not_126 not_127 lists) c once =
    by_eq id 30
    (λ is.
    let same : content ≡ c = ap (λ (l : List (List ℕ)). get_or l 0 []) (sym (contents_is id content (elements_of lists) is) ∙ once) in
    omega (arith, ap length same, length-append content more))
    (λ apart. omega (arith, once_long more lists c (sym (contents_other id content (elements_of lists) apart) ∙ once), length-append content more))

-- ---- the frame
module _ (s : List ℕ) (ack : Ack) (a : Accepts s ack) (all : All a.fields) where
  abbrev fields : FieldsFit (length a.fields) ack.sequence ack.pan ack.destination ack.source
  fields = fields_fit a.fields ack.sequence ack.pan ack.destination ack.source a.opens all

  pub said_fits : fits ack ≡ true
  unfolding fits
  said_fits = also fields.sequence (also fields.pan (also fields.destination (also fields.source (content_fits _ _ _ a.says.2).1)))

  pub said_long : length (frame_of ack) ≤ length s
  unfolding frame_length
  said_long =
      let long : length s ≡ length a.fields + (length a.header + length a.rest) = ap length a.stands ∙ omega (arith, length-append a.fields (a.header ++ a.rest), length-append a.header a.rest) in
      omega (arith, long, fields.long, length_is_the_formula ack, once_long a.header a.lists a.says.0 a.says.1, (content_fits _ _ _ a.says.2).0)
