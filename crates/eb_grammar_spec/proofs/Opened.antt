-- What stands before the elements: of the grammar exactly when the checks of the MAC header pass, and read as what it says. Assumes nothing.
use Prim.Native.Nat.{ℕ, zero, suc, ◌+◌, ◌-◌, ◌/◌, ◌%◌, ◌<◌, ◌≤◌}
use mathlib.Core.Path.{◌≡◌, refl, sym, ◌∙◌, ap, subst}
use mathlib.Core.List.{List, [], ◌∷◌, ◌++◌, append_assoc}
use native.Mathlib.Omega.{arith}
use borrow.Author.Tests.{eqb-true, eqb-false}
use lib.Dec.{eqb}
use lib.ListN.{length, get_or, length-append}
use Rattle.octets_spec.specs.Choice.{if_eq}
use Rattle.octets_spec.specs.Number.{le_at}
use Rattle.octets_spec.proofs.ChoiceLaws.{if_ge, by_test, was_eq, was_ge}
use Rattle.refusal.specs.Refusal.{done, frame_too_long, cut, wrong_type, secured, addressing}
use Rattle.mac_header_spec.specs.Control.{control_of}
use Rattle.mac_header_spec.specs.Fields.{address_length, mac_header_of, sequence_of, address_of}
use Rattle.mac_header_spec.specs.declared.Control.{Control}
use Rattle.mac_header_spec.specs.declared.MacHeader.{MacHeader}
use Rattle.mac_header_spec.specs.declared.SequenceNumber.{SequenceNumber}
use Rattle.mac_header_spec.specs.declared.SequenceNumber.TheVariants.{Absent, Number}
use Rattle.mac_header_spec.specs.declared.Address.{Address}
use Rattle.mac_header_spec.specs.declared.Address.TheVariants.{Short, Extended}
use Rattle.mac_header_spec.proofs.ControlLaws as control-laws
use Rattle.eb_read_spec.specs.Claims.{Bytes}
use Rattle.eb_read_spec.specs.Policy.{form_fault, policy_fault, mac_header_fault}
use Rattle.eb_read_spec.proofs.Each.{each_eq}
use Rattle.eb_read_spec.proofs.PolicyLaws.{accepted}
use Rattle.eb_grammar_spec.proofs.Stands.{Stands, stands_whole, stands_first, stands_rest}
use Rattle.eb_grammar_spec.specs.Row.{le}
use Rattle.eb_grammar_spec.specs.Grammar.{SequenceBytes, numbered, suppressed, AddressBytes, short_address, extended_address, FrameControl, FixedFields, fixed_fields}
use Rattle.eb_grammar_spec.proofs.Slices.{part, part_at, part_stands, length_part, le_stands, le_part, part_element}

-- frame control of the accepted form
abbrev form : ℕ → ℕ → Control
form suppression mode = record { kind = 0; security = 0; compression = 1; suppressed = suppression; elements = 1; destination = 2; version = 2; source = mode }

control_is : (word suppression mode : ℕ) → FrameControl word suppression mode → form suppression mode ≡ control_of word
unfolding control_of
control_is word suppression mode c =
    let kind : word % 8 ≡ 0 = omega (arith, c.type) in
    rw (kind, c.security, c.compression, c.suppression, c.elements, c.destination, c.version, c.source)

two_wide : address_length 2 ≡ 2
unfolding address_length if_eq
two_wide = refl

-- ---- the fields of a frame whose control has the accepted form
-- they are read as these, and the elements stand there
pub record Reads (s : List ℕ) (sequence : SequenceNumber) (pan : ℕ) (source : Address) (place : ℕ) : Type 0 where
  pub sequence_is : sequence ≡ sequence_of (mac_header_of s)
  pub pan_is : pan ≡ (mac_header_of s).pan
  pub source_is : source ≡ address_of (mac_header_of s).control.source (mac_header_of s).source
  pub place_is : place ≡ (mac_header_of s).elements
  pub end_is : length s ≡ (mac_header_of s).end

abbrev pub number_at : List ℕ → ℕ → SequenceNumber
number_at s suppression = if_eq suppression 0 (Number (if_eq suppression 0 (get_or s 2 0) 0)) Absent

-- k bytes of a sequence number, by the bit that says whether it is suppressed, and m bytes of a source, by its mode
module _ (s : List ℕ) (suppression mode k m : ℕ) (k_is : 2 + k ≡ if_eq suppression 0 3 2) (m_is : m ≡ address_length mode) (c : FrameControl (le_at 2 s 0) suppression mode) where
  abbrev header : MacHeader
  header = control-laws.placed s (form suppression mode) (control_is _ suppression mode c) k 2 m k_is (sym two_wide) m_is

  header_is : header ≡ mac_header_of s
  header_is = control-laws.placed_is s (form suppression mode) (control_is _ suppression mode c) k 2 m k_is (sym two_wide) m_is

  passes : length s ≤ 125 → 2 ≤ mode → 2 + k + 2 + 2 + m ≤ length s → le_at 2 s (2 + k + 2) ≡ 65535 → 0 ≡ mac_header_fault s
  unfolding mac_header_fault form_fault if_eq
  passes short two room there = subst (λ (h : MacHeader). 0 ≡ policy_fault (length s) h) header_is (accepted (length s) header short (omega arith) 0 (if_ge _ _ mode 2 two refl) refl room there)

  reads : (n : SequenceNumber) (pan : ℕ) (a : Address) → n ≡ number_at s suppression → pan ≡ le_at 2 s (2 + k) → a ≡ address_of mode (le_at m s (2 + k + 2 + 2)) → Reads s n pan a (2 + k + 2 + 2 + m)
  unfolding sequence_of
  reads n pan a n-is pan_is a-is = record {
    sequence_is = n-is ∙ ap sequence_of header_is;
    pan_is = pan_is ∙ ap (λ (h : MacHeader). h.pan) header_is;
    source_is = a-is ∙ ap (λ (h : MacHeader). address_of h.control.source h.source) header_is;
    place_is = ap (λ (h : MacHeader). h.elements) header_is;
    end_is = ap (λ (h : MacHeader). h.end) header_is;
  }

all_ones : le (255 ∷ 255 ∷ []) ≡ 65535
unfolding le
all_ones = refl

-- ---- a frame of the grammar opens
pub record Opens (s : List ℕ) (sequence : SequenceNumber) (pan : ℕ) (source : Address) (elements : List ℕ) : Type 0 where
  pub place : ℕ
  pub fine : 0 ≡ mac_header_fault s
  pub reading : Reads s sequence pan source place
  pub stands : Stands s place elements
  pub ends : place + length elements ≡ length s

module _ (s : List ℕ) where
  pub sequence_reads : (suppression : ℕ) (xs : List ℕ) (n : SequenceNumber) → SequenceBytes suppression xs n → (2 + length xs ≡ if_eq suppression 0 3 2) × (Stands s 2 xs → n ≡ number_at s suppression)
  unfolding Stands if_eq
  sequence_reads _ _ _ (numbered n) = (refl, λ h. ap Number (sym h.0))
  sequence_reads _ _ _ suppressed = (refl, λ h. refl)

  pub address_reads : (mode : ℕ) (xs : List ℕ) (a : Address) → AddressBytes mode xs a → (2 ≤ mode) × (length xs ≡ address_length mode) × ((at : ℕ) → Stands s at xs → a ≡ address_of mode (le_at (length xs) s at))
  unfolding address_length address_of if_eq
  address_reads _ _ _ (short_address xs two) = (omega arith, two, λ at h. ap Short (le_stands s at xs h))
  address_reads _ _ _ (extended_address xs eight) = (omega arith, eight, λ at h. ap Extended (le_stands s at xs h))

  pub opens_of : length s ≤ 125 → (fields elements : List ℕ) (n : SequenceNumber) (pan : ℕ) (address : Address) → FixedFields fields n pan address → s ≡ fields ++ elements → Opens s n pan address elements
  opens_of short _ elements _ _ _ (fixed_fields a b p q {suppression} {mode} {sequence} {source} {number} {address} control n-says address-says) e =
      let k : ℕ = length sequence in
      let m : ℕ = length source in
      let n = sequence_reads suppression sequence number n-says in
      let from = address_reads mode source address address-says in
      let rest : List ℕ = 255 ∷ 255 ∷ (source ++ elements) in
      let is : s ≡ a ∷ b ∷ (sequence ++ (p ∷ q ∷ rest)) = e ∙ ap (λ (xs : List ℕ). a ∷ b ∷ xs) (append_assoc sequence (p ∷ q ∷ 255 ∷ 255 ∷ source) elements) in
      let whole = stands_whole s _ is in
      let word : le (a ∷ b ∷ []) ≡ le_at 2 s 0 = le_stands s 0 (a ∷ b ∷ []) (stands_first s (a ∷ b ∷ []) _ 0 whole) in
      let behind : Stands s 2 (sequence ++ (p ∷ q ∷ rest)) = stands_rest s (a ∷ b ∷ []) _ 0 whole in
      let pans = stands_rest s sequence (p ∷ q ∷ rest) 2 behind in
      let destinations = stands_rest s (p ∷ q ∷ []) rest (2 + k) pans in
      let destination = le_stands s (2 + k + 2) (255 ∷ 255 ∷ []) (stands_first s (255 ∷ 255 ∷ []) (source ++ elements) _ destinations) in
      let sources = stands_rest s (255 ∷ 255 ∷ []) (source ++ elements) (2 + k + 2) destinations in
      let c : FrameControl (le_at 2 s 0) suppression mode = rw word at control in
      let long : length s ≡ 2 + k + 2 + 2 + m + length elements = ap length is ∙ omega (arith, length-append sequence (p ∷ q ∷ rest), length-append source elements) in
      record {
        place = 2 + k + 2 + 2 + m;
        fine = passes s suppression mode k m n.0 from.1 c short from.0 (omega (arith, long)) (sym destination ∙ all_ones);
        reading = reads s suppression mode k m n.0 from.1 c number _ address (n.1 (stands_first s sequence _ 2 behind)) (le_stands s (2 + k) (p ∷ q ∷ []) (stands_first s (p ∷ q ∷ []) rest _ pans)) (from.2 _ (stands_first s source elements _ sources));
        stands = stands_rest s source elements (2 + k + 2 + 2) sources;
        ends = sym long;
      }

-- ---- a frame whose MAC header passes is of the grammar
pub record OpeningSays (s : List ℕ) : Type 0 where
  pub fields : List ℕ
  pub frame : s ≡ fields ++ part s (mac_header_of s).elements (length s - (mac_header_of s).elements)
  pub says : FixedFields fields (sequence_of (mac_header_of s)) (mac_header_of s).pan (address_of (mac_header_of s).control.source (mac_header_of s).source)
  pub ends : length s ≡ (mac_header_of s).end

module _ (s : List ℕ) (bytes : Bytes s) where
  pub two_bytes : (at : ℕ) → le (get_or s at 0 ∷ get_or s (at + 1) 0 ∷ []) ≡ le_at 2 s at
  unfolding le le_at
  two_bytes at = refl

  broadcast : (at : ℕ) → le_at 2 s at ≡ 65535 → (get_or s at 0 ≡ 255) × (get_or s (at + 1) 0 ≡ 255)
  unfolding le_at
  broadcast at e = (omega (arith, e, bytes at, bytes (at + 1)), omega (arith, e, bytes at, bytes (at + 1)))

  -- the whole frame, field by field
  cut_up : (k m : ℕ) → 2 + k + 2 + 2 + m ≤ length s
      → s ≡ get_or s 0 0 ∷ get_or s 1 0 ∷ (part s 2 k ++ (get_or s (2 + k) 0 ∷ get_or s (2 + k + 1) 0 ∷ get_or s (2 + k + 2) 0 ∷ get_or s (2 + k + 2 + 1) 0 ∷ (part s (2 + k + 2 + 2) m ++ part s (2 + k + 2 + 2 + m) (length s - (2 + k + 2 + 2 + m)))))
  unfolding part
  cut_up k m room =
      part_stands s 0 s (stands_whole s s refl)
      ∙ (part_at s 0 0 (length s) (length s - 0) refl (omega arith)
      ∙ (part_element s 0 k (2 + k) (length s) refl (omega arith) ∙ rw (part_element s (2 + k) 0 (2 + k + 2) (length s) (omega arith) (omega arith), part_element s (2 + k + 2) m (2 + k + 2 + 2 + m) (length s) refl room)))

  pub sequence_some : (suppression : ℕ) → suppression < 2 → (k : ℕ) × (2 + k ≡ if_eq suppression 0 3 2) × SequenceBytes suppression (part s 2 k) (number_at s suppression)
  unfolding part if_eq
  sequence_some zero small = (1, refl, numbered (get_or s 2 0))
  sequence_some (suc zero) small = (0, refl, suppressed)
  sequence_some (suc (suc n)) small = absurd (omega arith)

  pub address_some : (mode at : ℕ) → 2 ≤ mode → mode < 4 → AddressBytes mode (part s at (address_length mode)) (address_of mode (le_at (address_length mode) s at))
  unfolding address_length address_of if_eq
  address_some mode at two four =
      by_test (eqb mode 3)
      (λ t. rw (eqb-true mode 3 t) (rw (le_part s 8 at) at (extended_address (part s at 8) (length_part s at 8))))
      (λ t.
      let not : mode ≡ 3 → ⊥ = eqb-false mode 3 t in
      let is : mode ≡ 2 = omega arith in
      rw is (rw (le_part s 2 at) at (short_address (part s at 2) (length_part s at 2))))

  fields_say : (suppression mode : ℕ) → suppression < 2 → 2 ≤ mode → mode < 4 → FrameControl (le_at 2 s 0) suppression mode → (mac_header_of s).elements ≤ (mac_header_of s).end → (mac_header_of s).destination ≡ 65535 → OpeningSays s
  fields_say suppression mode small two four c room there =
      let number = sequence_some suppression small in
      let k : ℕ = number.0 in
      let m : ℕ = address_length mode in
      let r = reads s suppression mode k m number.1 refl c _ (le_at 2 s (2 + k)) _ refl refl refl in
      let fits : 2 + k + 2 + 2 + m ≤ length s = omega (arith, room, r.place_is, r.end_is) in
      let destination = broadcast (2 + k + 2) (ap (λ (h : MacHeader). h.destination) (header_is s suppression mode k m number.1 refl c) ∙ there) in
      let pans : List ℕ = get_or s (2 + k) 0 ∷ get_or s (2 + k + 1) 0 ∷ 255 ∷ 255 ∷ part s (2 + k + 2 + 2) m in
      let behind : List ℕ = part s (mac_header_of s).elements (length s - (mac_header_of s).elements) in
      record {
        fields = get_or s 0 0 ∷ get_or s 1 0 ∷ (part s 2 k ++ pans);
        frame = rw (destination.0, destination.1, r.place_is) at (cut_up k m fits) ∙ sym (ap (λ (xs : List ℕ). get_or s 0 0 ∷ get_or s 1 0 ∷ xs) (append_assoc (part s 2 k) pans behind));
        says = rw (← r.sequence_is, ← r.pan_is, ← r.source_is)
            (rw (two_bytes (2 + k)) at (fixed_fields (get_or s 0 0) (get_or s 1 0) (get_or s (2 + k) 0) (get_or s (2 + k + 1) 0) {suppression = suppression} {mode = mode} (rw (two_bytes 0) c) number.2 (address_some mode (2 + k + 2 + 2) two four)));
        ends = r.end_is;
      }

  not_5 : addressing ≡ done → ⊥
  not_5 e = omega arith

  form_says : (word : ℕ) → form_fault (control_of word) ≡ 0 → (2 ≤ word / 16384 % 4) × FrameControl word (word / 256 % 2) (word / 16384 % 4)
  unfolding form_fault control_of
  form_says word e =
      let kind = was_eq _ _ _ _ _ e (λ (z : wrong_type ≡ done). omega arith) in
      let version = was_eq _ _ _ _ _ kind.1 (λ (z : wrong_type ≡ done). omega arith) in
      let security = was_eq _ _ _ _ _ version.1 (λ (z : secured ≡ done). omega arith) in
      let destination = was_eq _ _ _ _ _ security.1 not_5 in
      let source = was_ge _ _ _ _ _ destination.1 not_5 in
      let compression = was_eq _ _ _ _ _ source.1 not_5 in
      let elements = was_eq _ _ _ _ _ compression.1 not_5 in (
        source.0,
        record {
          type = omega (arith, kind.0);
          security = security.0;
          compression = compression.0;
          suppression = refl;
          elements = elements.0;
          destination = destination.0;
          version = version.0;
          source = refl;
        },
      )

  pub opening_says : mac_header_fault s ≡ 0 → (length s ≤ 125) × OpeningSays s
  unfolding mac_header_fault policy_fault
  opening_says e =
      let control-of : (mac_header_of s).control ≡ control_of (le_at 2 s 0) = unfold mac_header_of in refl in
      let short = was_ge _ _ _ _ _ e (λ (z : frame_too_long ≡ done). omega arith) in
      let two = was_ge _ _ _ _ _ short.1 (λ (z : cut ≡ done). omega arith) in (
        short.0,
        each_eq (λ (n : ℕ). n ≡ 0 → OpeningSays s) _ _ (form_fault (mac_header_of s).control) 0
            (λ formed g.
            let f = form_says (le_at 2 s 0) (rw control-of at formed) in
            let room = was_ge _ _ _ _ _ g (λ (z : cut ≡ done). omega arith) in
            fields_say _ _ (omega arith) f.0 (omega arith) f.1 room.0 (was_eq _ _ _ _ _ room.1 not_5).0)
            (λ bad g. absurd (bad g)) two.1,
      )
