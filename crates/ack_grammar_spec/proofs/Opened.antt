-- What stands before the elements: of the grammar exactly when the checks of the MAC header pass, and read as what it says. Assumes nothing.
use Prim.Native.Nat.{ℕ, ◌+◌, ◌-◌, ◌/◌, ◌%◌, ◌<◌, ◌≤◌}
use mathlib.Core.Path.{◌≡◌, refl, sym, ◌∙◌, ap, subst}
use mathlib.Core.List.{List, [], ◌∷◌, ◌++◌, append_assoc}
use native.Mathlib.Omega.{arith}
use borrow.Author.Tests.{ne_eqb}
use lib.ListN.{length, get_or, length-append}
use Rattle.octets_spec.specs.Choice.{if_eq}
use Rattle.octets_spec.specs.Number.{le_at}
use Rattle.octets_spec.proofs.ChoiceLaws.{if_ge, if_eq_lem, by_eq}
use Rattle.mac_header_spec.specs.Control.{control_of}
use Rattle.mac_header_spec.specs.Fields.{address_length, mac_header_of, sequence_of, address_of}
use Rattle.mac_header_spec.specs.declared.Control.{Control}
use Rattle.mac_header_spec.specs.declared.MacHeader.{MacHeader}
use Rattle.mac_header_spec.specs.declared.SequenceNumber.{SequenceNumber}
use Rattle.mac_header_spec.specs.declared.Address.{Address}
use Rattle.mac_header_spec.proofs.ControlLaws.{placed, placed_is}
use Rattle.eb_read_spec.specs.Claims.{Bytes}
use Rattle.eb_grammar_spec.specs.Row.{le, bits}
use Rattle.eb_grammar_spec.proofs.Stands.{Stands, stands_whole, stands_first, stands_rest}
use Rattle.eb_grammar_spec.proofs.Slices.{part, part_at, part_append, part_stands, le_stands, part_element}
use Rattle.eb_grammar_spec.proofs.Opened.{number_at, sequence_reads, address_reads, two_bytes, sequence_some, address_some}
use Rattle.ack_read_spec.specs.Policy.{compression_of, addressing_fault, form_fault, policy_fault, mac_header_fault}
use Rattle.ack_read_spec.proofs.Judged.{formed, HeaderSays, long, empty, form, cut, fine}
use Rattle.ack_grammar_spec.specs.Grammar.{Compression, both_extended, destination_short, source_short, FrameControl, FixedFields, fixed_fields}

-- ---- PAN ID compression
compression_is : (far near bit : ℕ) → Compression far near bit → bit ≡ compression_of far near
unfolding compression_of if_eq
compression_is _ _ _ both_extended = refl
compression_is _ _ _ (destination_short near) = refl
compression_is _ _ _ (source_short far) = by_eq far 3 (λ e. rw e refl) (λ n. rw (ne_eqb far 3 n) refl)

compression_says : (far near : ℕ) → 2 ≤ far → far < 4 → 2 ≤ near → near < 4 → Compression far near (compression_of far near)
compression_says far near a b c d =
    by_eq far 3
    (λ e. by_eq near 3 (λ f. subst (Compression far near) (compression_is far near 0 (rw (e, f) both_extended)) (rw (e, f) both_extended))
    (λ n. let two : near ≡ 2 = omega arith in subst (Compression far near) (compression_is far near 1 (rw two (source_short far))) (rw two (source_short far))))
    (λ n. let two : far ≡ 2 = omega arith in subst (Compression far near) (compression_is far near 1 (rw two (destination_short near))) (rw two (destination_short near)))

-- ---- the fields of a frame whose control has the accepted form
abbrev accepted : ℕ → ℕ → ℕ → ℕ → Control
accepted bit suppression far near = record { kind = 2; security = 0; compression = bit; suppressed = suppression; elements = 1; destination = far; version = 2; source = near }

control_is : (word suppression far near : ℕ) → FrameControl word suppression far near → accepted (bits 6 1 word) suppression far near ≡ control_of word
unfolding control_of
control_is word suppression far near c =
    let kind : word % 8 ≡ 2 = omega (arith, c.type) in
    rw (kind, c.security, c.suppression, c.elements, c.destination, c.version, c.source)

form_passes : (bit suppression far near : ℕ) → bit ≡ compression_of far near → 2 ≤ far → 2 ≤ near → 0 ≡ form_fault (accepted bit suppression far near)
unfolding form_fault addressing_fault
form_passes bit suppression far near e a b = if_eq_lem _ _ _ _ refl (if_eq_lem _ _ _ _ refl (if_eq_lem _ _ _ _ refl (if_ge _ _ far 2 a (if_ge _ _ near 2 b (if_eq_lem _ _ _ _ e (if_eq_lem _ _ _ _ refl refl))))))

-- they are read as these, and the elements stand there
pub record Reads (s : List ℕ) (sequence : SequenceNumber) (pan : ℕ) (to from : Address) (place : ℕ) : Type 0 where
  pub sequence_is : sequence ≡ sequence_of (mac_header_of s)
  pub pan_is : pan ≡ (mac_header_of s).pan
  pub to_is : to ≡ address_of (mac_header_of s).control.destination (mac_header_of s).destination
  pub from_is : from ≡ address_of (mac_header_of s).control.source (mac_header_of s).source
  pub place_is : place ≡ (mac_header_of s).elements
  pub end_is : length s ≡ (mac_header_of s).end

-- k bytes of a sequence number, by the bit that says whether it is suppressed, d of a destination and m of a source, by their modes
module _ (s : List ℕ) (suppression far near k d m : ℕ) (k_is : 2 + k ≡ if_eq suppression 0 3 2) (d_is : d ≡ address_length far) (m_is : m ≡ address_length near) (c : FrameControl (le_at 2 s 0) suppression far near) where
  abbrev header : MacHeader
  header = placed s (accepted (bits 6 1 (le_at 2 s 0)) suppression far near) (control_is _ suppression far near c) k d m k_is d_is m_is

  header_is : header ≡ mac_header_of s
  header_is = placed_is s (accepted (bits 6 1 (le_at 2 s 0)) suppression far near) (control_is _ suppression far near c) k d m k_is d_is m_is

  passes : length s ≤ 125 → 2 ≤ far → 2 ≤ near → 2 + k + 2 + d + m ≤ length s → 0 ≡ mac_header_fault s
  unfolding mac_header_fault policy_fault
  passes short a b room =
      subst (λ (h : MacHeader). 0 ≡ policy_fault (length s) h) header_is
      (if_ge _ _ _ _ short (if_ge _ _ (length s) 2 (omega arith) (if_eq_lem _ _ _ _ (sym (form_passes (bits 6 1 (le_at 2 s 0)) suppression far near (compression_is far near _ c.compression) a b)) (if_ge _ _ _ _ room refl))))

  reads : (n : SequenceNumber) (pan : ℕ) (to from : Address) → n ≡ number_at s suppression → pan ≡ le_at 2 s (2 + k) → to ≡ address_of far (le_at d s (2 + k + 2)) → from ≡ address_of near (le_at m s (2 + k + 2 + d)) → Reads s n pan to from (2 + k + 2 + d + m)
  unfolding sequence_of
  reads n pan to from n-is pan_is to_is from_is = record {
    sequence_is = n-is ∙ ap sequence_of header_is;
    pan_is = pan_is ∙ ap (λ (h : MacHeader). h.pan) header_is;
    to_is = to_is ∙ ap (λ (h : MacHeader). address_of h.control.destination h.destination) header_is;
    from_is = from_is ∙ ap (λ (h : MacHeader). address_of h.control.source h.source) header_is;
    place_is = ap (λ (h : MacHeader). h.elements) header_is;
    end_is = ap (λ (h : MacHeader). h.end) header_is;
  }

-- ---- a frame of the grammar opens
pub record Opens (s : List ℕ) (sequence : SequenceNumber) (pan : ℕ) (to from : Address) (elements : List ℕ) : Type 0 where
  pub place : ℕ
  pub fault : 0 ≡ mac_header_fault s
  pub reading : Reads s sequence pan to from place
  pub stands : Stands s place elements
  pub ends : place + length elements ≡ length s

pub opens_of : (s : List ℕ) → length s ≤ 125 → (fields elements : List ℕ) (n : SequenceNumber) (pan : ℕ) (to from : Address) → FixedFields fields n pan to from → s ≡ fields ++ elements → Opens s n pan to from elements
opens_of s short _ elements _ _ _ _ (fixed_fields a b p q {suppression} {far} {near} {sequence} {destination} {source} {number} {to} {from} control n-says to-says from-says) e =
    let k : ℕ = length sequence in
    let d : ℕ = length destination in
    let m : ℕ = length source in
    let n = sequence_reads s suppression sequence number n-says in
    let one = address_reads s far destination to to-says in
    let other = address_reads s near source from from-says in
    let rest : List ℕ = destination ++ (source ++ elements) in
    let is : s ≡ a ∷ b ∷ (sequence ++ (p ∷ q ∷ rest)) = e ∙ ap (λ (xs : List ℕ). a ∷ b ∷ xs) (append_assoc sequence (p ∷ q ∷ (destination ++ source)) elements ∙ ap (λ (xs : List ℕ). sequence ++ (p ∷ q ∷ xs)) (append_assoc destination source elements)) in
    let whole = stands_whole s _ is in
    let word : le (a ∷ b ∷ []) ≡ le_at 2 s 0 = le_stands s 0 (a ∷ b ∷ []) (stands_first s (a ∷ b ∷ []) _ 0 whole) in
    let behind : Stands s 2 (sequence ++ (p ∷ q ∷ rest)) = stands_rest s (a ∷ b ∷ []) _ 0 whole in
    let pans = stands_rest s sequence (p ∷ q ∷ rest) 2 behind in
    let destinations = stands_rest s (p ∷ q ∷ []) rest (2 + k) pans in
    let sources = stands_rest s destination (source ++ elements) (2 + k + 2) destinations in
    let c : FrameControl (le_at 2 s 0) suppression far near = rw word at control in
    let long : length s ≡ 2 + k + 2 + d + m + length elements = ap length is ∙ omega (arith, length-append sequence (p ∷ q ∷ rest), length-append destination (source ++ elements), length-append source elements) in
    record {
      place = 2 + k + 2 + d + m;
      fault = passes s suppression far near k d m n.0 one.1 other.1 c short one.0 other.0 (omega (arith, long));
      reading = reads s suppression far near k d m n.0 one.1 other.1 c number _ to from (n.1 (stands_first s sequence _ 2 behind)) (le_stands s (2 + k) (p ∷ q ∷ []) (stands_first s (p ∷ q ∷ []) rest _ pans)) (one.2 _ (stands_first s destination _ _ destinations)) (other.2 _ (stands_first s source elements _ sources));
      stands = stands_rest s source elements (2 + k + 2 + d) sources;
      ends = sym long;
    }

-- ---- a frame whose MAC header passes is of the grammar
pub record OpeningSays (s : List ℕ) : Type 0 where
  pub fields : List ℕ
  pub frame : s ≡ fields ++ part s (mac_header_of s).elements (length s - (mac_header_of s).elements)
  pub says : FixedFields fields (sequence_of (mac_header_of s)) (mac_header_of s).pan (address_of (mac_header_of s).control.destination (mac_header_of s).destination) (address_of (mac_header_of s).control.source (mac_header_of s).source)
  pub starts : (mac_header_of s).elements ≤ length s
  pub ends : length s ≡ (mac_header_of s).end
  pub short : length s ≤ 125

module _ (s : List ℕ) (bytes : Bytes s) where
  -- the whole frame, field by field
  cut_up : (k d m : ℕ) → 2 + k + 2 + d + m ≤ length s
      → s ≡ get_or s 0 0 ∷ get_or s 1 0 ∷ (part s 2 k ++ (get_or s (2 + k) 0 ∷ get_or s (2 + k + 1) 0 ∷ (part s (2 + k + 2) d ++ (part s (2 + k + 2 + d) m ++ part s (2 + k + 2 + d + m) (length s - (2 + k + 2 + d + m))))))
  unfolding part
  cut_up k d m room =
      let last : part s (2 + k + 2 + d) (length s - (2 + k + 2 + d)) ≡ part s (2 + k + 2 + d) m ++ part s (2 + k + 2 + d + m) (length s - (2 + k + 2 + d + m)) = part_at s (2 + k + 2 + d) (2 + k + 2 + d) (length s - (2 + k + 2 + d)) (m + (length s - (2 + k + 2 + d + m))) refl (omega arith) ∙ part_append s (2 + k + 2 + d) m (length s - (2 + k + 2 + d + m)) in
      part_stands s 0 s (stands_whole s s refl)
      ∙ (part_at s 0 0 (length s) (length s - 0) refl (omega arith)
      ∙ (part_element s 0 k (2 + k) (length s) refl (omega arith) ∙ rw (part_element s (2 + k) d (2 + k + 2 + d) (length s) refl (omega arith), last)))

  fields_say : (suppression far near : ℕ) → suppression < 2 → 2 ≤ far → far < 4 → 2 ≤ near → near < 4 → FrameControl (le_at 2 s 0) suppression far near → length s ≤ 125 → (mac_header_of s).elements ≤ (mac_header_of s).end → OpeningSays s
  fields_say suppression far near small a a' b b' c short room =
      let number = sequence_some s bytes suppression small in
      let k : ℕ = number.0 in
      let d : ℕ = address_length far in
      let m : ℕ = address_length near in
      let r = reads s suppression far near k d m number.1 refl refl c _ (le_at 2 s (2 + k)) _ _ refl refl refl refl in
      let fits : 2 + k + 2 + d + m ≤ length s = omega (arith, room, r.place_is, r.end_is) in
      let addresses : List ℕ = part s (2 + k + 2) d ++ part s (2 + k + 2 + d) m in
      let pans : List ℕ = get_or s (2 + k) 0 ∷ get_or s (2 + k + 1) 0 ∷ addresses in
      let behind : List ℕ = part s (mac_header_of s).elements (length s - (mac_header_of s).elements) in
      let joined : part s 2 k ++ (get_or s (2 + k) 0 ∷ get_or s (2 + k + 1) 0 ∷ (part s (2 + k + 2) d ++ (part s (2 + k + 2 + d) m ++ behind))) ≡ (part s 2 k ++ pans) ++ behind = sym (append_assoc (part s 2 k) pans behind ∙ ap (λ (xs : List ℕ). part s 2 k ++ (get_or s (2 + k) 0 ∷ get_or s (2 + k + 1) 0 ∷ xs)) (append_assoc (part s (2 + k + 2) d) (part s (2 + k + 2 + d) m) behind)) in
      record {
        fields = get_or s 0 0 ∷ get_or s 1 0 ∷ (part s 2 k ++ pans);
        frame = rw r.place_is at (cut_up k d m fits) ∙ ap (λ (xs : List ℕ). get_or s 0 0 ∷ get_or s 1 0 ∷ xs) joined;
        says = rw (← r.sequence_is, ← r.pan_is, ← r.to_is, ← r.from_is)
            (rw (two_bytes s bytes (2 + k)) at (fixed_fields (get_or s 0 0) (get_or s 1 0) (get_or s (2 + k) 0) (get_or s (2 + k + 1) 0) {suppression = suppression} {far = far} {near = near} (rw (two_bytes s bytes 0) c) number.2 (address_some s bytes far (2 + k + 2) a a') (address_some s bytes near (2 + k + 2 + d) b b')));
        starts = omega (arith, room, r.end_is);
        ends = r.end_is;
        short = short;
      }

  form_says : (word : ℕ) →
      let control : Control = control_of word in
      (control.kind ≡ 2) × (control.version ≡ 2) → control.security ≡ 0
      → (2 ≤ control.destination) × (2 ≤ control.source) × (control.compression ≡ compression_of control.destination control.source) × (control.elements ≡ 1)
      → (2 ≤ word / 1024 % 4) × (2 ≤ word / 16384 % 4) × FrameControl word (word / 256 % 2) (word / 1024 % 4) (word / 16384 % 4)
  unfolding control_of
  form_says word is plain there = (
    there.0,
    there.1,
    record {
      type = omega (arith, is.0);
      security = plain;
      compression = subst (Compression (word / 1024 % 4) (word / 16384 % 4)) (sym there.2) (compression_says _ _ there.0 (omega arith) there.1 (omega arith));
      suppression = refl;
      elements = there.3;
      destination = refl;
      version = is.1;
      source = refl;
    },
  )

  pub opening_says : (n : ℕ) → HeaderSays s n → n ≡ 0 → OpeningSays s
  opening_says _ (long over) e = absurd (omega (arith, e))
  opening_says _ (empty short none) e = absurd (omega (arith, e))
  opening_says _ (form n has says bad) e = absurd (bad e)
  opening_says _ (cut has says over) e = absurd (omega (arith, e))
  opening_says _ (fine has (formed is plain there) whole) e =
      let control-of : (mac_header_of s).control ≡ control_of (le_at 2 s 0) = unfold mac_header_of in refl in
      let f = form_says (le_at 2 s 0) (rw control-of at is) (rw control-of at plain) (rw control-of at there) in
      fields_say _ _ _ (omega arith) f.0 (omega arith) f.1 (omega arith) f.2 has.0 whole
