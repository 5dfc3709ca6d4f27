-- A list of bytes has one reading by the grammar: where its fields end, where its header elements end, and which elements it holds. Assumes
-- nothing.
use Prim.Native.Nat.{ℕ, ◌+◌, ◌-◌, ◌*◌, ◌^◌, ◌≤◌}
use mathlib.Core.Path.{◌≡◌, refl, sym, ◌∙◌, ap}
use mathlib.Core.List.{List, [], ◌∷◌, ◌++◌, append_assoc}
use native.Mathlib.Omega.{arith}
use lib.ListN.{length, get_or, take, drop}
use lib.Seq.{take_at, drop_at}
use Rattle.mac_header_spec.specs.declared.SequenceNumber.{SequenceNumber}
use Rattle.mac_header_spec.specs.declared.Address.{Address}
use Rattle.eb_record_spec.specs.declared.Beacon.{Beacon}
use Rattle.eb_grammar_spec.specs.Row.{le, bits}
use Rattle.eb_grammar_spec.specs.Grammar.{numbered, suppressed, short_address, extended_address, FixedFields, fixed_fields, Descriptor, HeaderElements, header_end, header_element, Element, SubDescriptor, short_id, long_id, SubElements, group_end, sub_element, Group, mlme, ietf_element, other_group, PayloadElements, bytes_end, payload_end, payload_element, Says, Accepts}
use Rattle.eb_grammar_spec.proofs.Slices.{described}

-- ---- lists
pub split : (xs us ys vs : List ℕ) → xs ++ ys ≡ us ++ vs → length xs ≡ length us → (xs ≡ us) × (ys ≡ vs)
split xs us ys vs e same = (
  sym (take_at xs ys (length us) same) ∙ (ap (λ (l : List ℕ). take (length us) l) e ∙ take_at us vs (length us) refl),
  sym (drop_at xs ys (length us) same) ∙ (ap (λ (l : List ℕ). drop (length us) l) e ∙ drop_at us vs (length us) refl),
)

pub heads : {a b c d : ℕ} {xs ys : List ℕ} → a ∷ b ∷ xs ≡ c ∷ d ∷ ys → (a ≡ c) × (b ≡ d) × (xs ≡ ys)
heads e = (ap (λ (l : List ℕ). get_or l 0 0) e, ap (λ (l : List ℕ). get_or l 1 0) e, ap (λ (l : List ℕ). drop 2 l) e)

none : {a b : ℕ} {xs : List ℕ} → [] ≡ a ∷ b ∷ xs → ⊥
none {xs} e = let longer : ◌≡◌ {A = ℕ} 0 (2 + length xs) = ap length e ∙ omega arith in omega (arith, longer)

-- ---- descriptors of the same two bytes
module _ {a b c d n m i j : ℕ} (low : a ≡ c) (high : b ≡ d) where
  same : {split top : ℕ} → 2 ^ split * 2 ^ (15 - split) ≡ 32768 → Descriptor split a b n i top → Descriptor split c d m j top → (n ≡ m) × (i ≡ j)
  same whole x y = let e = rw (low, high) at (described x whole) in let f = described y whole in (sym e.0 ∙ f.0, sym e.1 ∙ f.1)

  short_not_long : Descriptor 8 a b n i 0 → Descriptor 11 c d m j 1 → ⊥
  short_not_long x y = let e = rw (low, high) at (described x refl).2 in omega (arith, e, (described y refl).2)

sub_same : {a b c d n m : ℕ} (i j : ℕ) → a ≡ c → b ≡ d → SubDescriptor a b n i → SubDescriptor c d m j → (n ≡ m) × (i ≡ j)
sub_same _ _ low high (short_id i x) (short_id j y) = same low high refl x y
sub_same _ _ low high (short_id i x) (long_id j y) = absurd (short_not_long low high x y)
sub_same _ _ low high (long_id i x) (short_id j y) = absurd (short_not_long (sym low) (sym high) y x)
sub_same _ _ low high (long_id i x) (long_id j y) = let e = same low high refl x y in (e.0, ap (λ (k : ℕ). 128 + k) e.1)

-- ---- the fixed fields
abbrev word : List ℕ → ℕ
word s = le (get_or s 0 0 ∷ get_or s 1 0 ∷ [])

abbrev fields_size : List ℕ → ℕ
fields_size s = 6 + (1 - bits 8 1 (word s)) + (6 * bits 14 2 (word s) - 10)

fields_length : (f us : List ℕ) (n : SequenceNumber) (p : ℕ) (a : Address) → FixedFields f n p a → length f ≡ fields_size (f ++ us)
fields_length _ us _ _ _ (fixed_fields l h p q c (numbered n) (short_address xs e)) = rw (c.suppression, c.source) (omega (arith, e))
fields_length _ us _ _ _ (fixed_fields l h p q c (numbered n) (extended_address xs e)) = rw (c.suppression, c.source) (omega (arith, e))
fields_length _ us _ _ _ (fixed_fields l h p q c suppressed (short_address xs e)) = rw (c.suppression, c.source) (omega (arith, e))
fields_length _ us _ _ _ (fixed_fields l h p q c suppressed (extended_address xs e)) = rw (c.suppression, c.source) (omega (arith, e))

pub fields_same : (f g us vs : List ℕ) (n m : SequenceNumber) (p q : ℕ) (a b : Address) → FixedFields f n p a → FixedFields g m q b → f ++ us ≡ g ++ vs → (f ≡ g) × (us ≡ vs)
fields_same f g us vs n m p q a b one other e = split f g us vs e (fields_length f us n p a one ∙ (ap fields_size e ∙ sym (fields_length g vs m q b other)))

-- ---- header elements, and what ends them
module _ (a b c d n m i j : ℕ) (us vs : List ℕ) (one : Descriptor 7 a b n i 0) (other : Descriptor 7 c d m j 0) (i_ends : (i ≡ 126 → ⊥) → (i ≡ 127 → ⊥) → ⊥) (j_ends : (j ≡ 126 → ⊥) → (j ≡ 127 → ⊥) → ⊥) where
  pub header_same : (xs ys : List ℕ) → HeaderElements xs → HeaderElements ys → xs ++ (a ∷ b ∷ us) ≡ ys ++ (c ∷ d ∷ vs) → (xs ≡ ys) × (a ∷ b ∷ us ≡ c ∷ d ∷ vs)
  header_same _ _ header_end header_end e = (refl, e)
  header_same _ _ header_end (header_element l h k content f not_126 not_127 more) e =
      let head = heads e in
      let id : i ≡ k = (same head.0 head.1 refl one f).1 in
      absurd (i_ends (λ z. not_126 (sym id ∙ z)) (λ z. not_127 (sym id ∙ z)))
  header_same _ _ (header_element l h k content f not_126 not_127 more) header_end e =
      let head = heads e in
      let id : k ≡ j = (same head.0 head.1 refl f other).1 in
      absurd (j_ends (λ z. not_126 (id ∙ z)) (λ z. not_127 (id ∙ z)))
  header_same _ _ (header_element l h k content {rest} f not_126 not_127 more) (header_element l' h' k' content' {rest = rest'} f' not-126' not-127' more') e =
      let head = heads e in
      let sized = (same head.0 head.1 refl f f').0 in
      let cut = split content content' _ _ (sym (append_assoc content rest _) ∙ (head.2 ∙ append_assoc content' rest' _)) sized in
      let go = header_same rest rest' more more' cut.1 in
      (rw (head.0, head.1, cut.0, go.0), go.1)

-- ---- sub-elements and payload elements
pub subs_same : (xs ys : List ℕ) (f g : List Element) → SubElements xs f → SubElements ys g → xs ≡ ys → f ≡ g
subs_same _ _ _ _ group_end group_end e = refl
subs_same _ _ _ _ group_end (sub_element a b k c d more) e = absurd (none e)
subs_same _ _ _ _ (sub_element a b k c d more) group_end e = absurd (none (sym e))
subs_same _ _ _ _ (sub_element a b k c {rest} {found} d more) (sub_element a' b' k' c' {rest = rest'} {found = found'} d' more') e =
    let head = heads e in
    let same = sub_same k k' head.0 head.1 d d' in
    let cut = split c c' rest rest' head.2 same.0 in
    rw (same.1, cut.0, subs_same rest rest' found found' more more' cut.1)

group_same : (n : ℕ) (c d : List ℕ) (f g : List Element) → Group n c f → Group n d g → c ≡ d → f ≡ g
group_same _ _ _ _ _ (mlme one) (mlme other) same = subs_same _ _ _ _ one other same
group_same _ _ _ _ _ (mlme one) (other_group not_1 not_5) same = absurd (not_1 refl)
group_same _ _ _ _ _ (ietf_element subtype content) (ietf_element subtype' content') same = cc
group_same _ _ _ _ _ (ietf_element subtype content) (other_group not_1 not_5) same = absurd (not_5 refl)
group_same _ _ _ _ _ (other_group not_1 not_5) (mlme other) same = absurd (not_1 refl)
group_same _ _ _ _ _ (other_group not_1 not_5) (ietf_element subtype content) same = absurd (not_5 refl)
group_same _ _ _ _ _ (other_group not_1 not_5) (other_group not-1' not-5') same = refl

pub payload_same : (xs ys : List ℕ) (f g : List Element) → PayloadElements xs f → PayloadElements ys g → xs ≡ ys → f ≡ g
payload_same _ _ _ _ bytes_end bytes_end e = refl
payload_same _ _ _ _ bytes_end (payload_end a b ignored d) e = absurd (none e)
payload_same _ _ _ _ bytes_end (payload_element a b n c d not-15 holds more) e = absurd (none e)
payload_same _ _ _ _ (payload_end a b ignored d) bytes_end e = absurd (none (sym e))
payload_same _ _ _ _ (payload_end a b ignored d) (payload_end a' b' ignored' d') e = refl
payload_same _ _ _ _ (payload_end a b ignored d) (payload_element a' b' n c d' not-15 holds more) e =
    let head = heads e in
    absurd (not-15 (sym (same head.0 head.1 refl d d').1))
payload_same _ _ _ _ (payload_element a b n c d not-15 holds more) bytes_end e = absurd (none (sym e))
payload_same _ _ _ _ (payload_element a b n c d not-15 holds more) (payload_end a' b' ignored d') e =
    let head = heads e in
    absurd (not-15 (same head.0 head.1 refl d d').1)
payload_same _ _ _ _ (payload_element a b n c {rest} {inside} {found} d not-15 holds more) (payload_element a' b' n' c' {rest = rest'} {inside = inside'} {found = found'} d' not-15' holds' more') e =
    let head = heads e in
    let same = same head.0 head.1 refl d d' in
    let cut = split c c' rest rest' head.2 same.0 in
    rw (group_same n' c c' inside inside' (rw same.1 at holds) holds' cut.0, payload_same rest rest' found found' more more' cut.1)

-- ---- the frame
-- a frame is accepted by its parts
pub accepted_by : {s fields header payload : List ℕ} {low high : ℕ} {found : List Element} {b : Beacon} → length s ≤ 125 → s ≡ fields ++ (header ++ (low ∷ high ∷ payload)) → FixedFields fields b.sequence b.pan b.source
    → HeaderElements header → Descriptor 7 low high 0 126 0 → PayloadElements payload found → Says found b → Accepts s b
accepted_by short stands opens skips follows lists says =
    record { fields = _; header = _; low = _; high = _; payload = _; found = _; at_most_125 = short; stands = stands; opens = opens; skips = skips; follows = follows; lists = lists; says = says }
