-- What follows from the grammar: a frame has one reading by it, so that what replaces a part of the frame and is found to say the same gives a
-- frame that says the same. Assumes nothing.
use Prim.Native.Nat.{ℕ, suc, ◌+◌, ◌*◌, ◌/◌, ◌%◌, ◌≤◌, ◌<◌}
use mathlib.Core.Path.{◌≡◌, refl, sym, ◌∙◌, ap, subst}
use mathlib.Core.Bool.{true}
use mathlib.Core.List.{List, [], ◌∷◌, ◌++◌, append-nil, append_assoc}
use mathlib.Core.Logic.{◌⊎◌, inl, inr, ⊎_elim}
use native.Mathlib.Nat.{mod-lt, div-div-eq-div-mul, dvd-mul_right, mod-mod_of_dvd}
use native.Mathlib.Omega.{arith}
use lib.Arith.{digits_div, mod-mul}
use lib.Dec.{T, lit<, ltb}
use lib.ListN.{length, length-append}
use Rattle.mac_header_spec.specs.declared.SequenceNumber.{SequenceNumber}
use Rattle.mac_header_spec.specs.declared.Address.{Address}
use Rattle.eb_record_spec.specs.declared.TimeslotTemplate.{TimeslotTemplate}
use Rattle.eb_record_spec.specs.declared.JoiningInformation.{JoiningInformation}
use Rattle.eb_record_spec.specs.declared.Beacon.{Beacon}
use Rattle.eb_grammar_spec.specs.Row.{le, be, bits}
use Rattle.eb_grammar_spec.specs.Grammar.{FrameControl, FixedFields, fixed_fields, Descriptor, HeaderElements, Element, SubElements, group_end, sub_element, mlme, ietf_element, PayloadElements, bytes_end, payload_end, payload_element, TimeslotContent, timed_25, timed_27, JoiningContent, absent, joining, contents, Once, Says, Accepts}
use Rattle.eb_grammar_spec.specs.Follows.{Known, SameKnown, Before, OneElement, one_element, one_sub_element, IgnoredBitsDoNotCount, HeaderElementsDoNotCount, NothingCountsBehind7F, KnownContentsCount, BytesBehindGroup15DoNotCount, UnknownElementsDoNotCount, UnknownSubElementsDoNotCount, OrderDoesNotCount, ReservedJoiningBitsDoNotCount, BothTimingFormsSayTheSame}
use Rattle.eb_grammar_spec.proofs.Stands.{stands_whole}
use Rattle.eb_grammar_spec.proofs.Notes.{contents_append, contents_here, contents_other}
use Rattle.eb_grammar_spec.proofs.Timed.{timeslot_value}
use Rattle.eb_grammar_spec.proofs.Joined.{single, no_entry}
use Rattle.eb_grammar_spec.proofs.Unique.{split, heads, fields_same, header_same, payload_same, accepted_by}

-- ---- bits that lie within others: c values from a on, of c * d * a values from u on
within : (u a c d v w : ℕ) → T (ltb 0 a) → T (ltb 0 (c * d)) → v / u % (c * d * a) ≡ w / u % (c * d * a) → v / (u * a) % c ≡ w / (u * a) % c
within u a c d v w some some_more e = inside v ∙ (ap (λ (n : ℕ). n / a % c) e ∙ sym (inside w))
  where
    inside : (n : ℕ) → n / (u * a) % c ≡ n / u % (c * d * a) / a % c
    inside n = rw (mod-mul (n / u) {m = c * d} {c = a} (lit< some_more) (lit< some), digits_div (n / u / a % (c * d)) (mod-lt (n / u) (lit< some)), mod-mod_of_dvd c (n / u / a) (dvd-mul_right c d), div-div-eq-div-mul)

-- ---- the fixed fields and the header elements
two_bytes : (low x : ℕ) → low < 256 → ((low + 256 * x) / 1 % 16 ≡ low / 1 % 16) × ((low + 256 * x) / 1 % 256 ≡ low / 1 % 256) × ((low + 256 * x) / 256 ≡ x)
two_bytes low x small = (omega arith, omega arith, omega arith)

-- two words of frame control with the same parts, but for those that are ignored
pub record SameParts (v w : ℕ) : Type 0 where
  pub type : bits 0 3 v ≡ bits 0 3 w
  pub security : bits 3 1 v ≡ bits 3 1 w
  pub compression : bits 6 1 v ≡ bits 6 1 w
  pub suppression : bits 8 1 v ≡ bits 8 1 w
  pub elements : bits 9 1 v ≡ bits 9 1 w
  pub destination : bits 10 2 v ≡ bits 10 2 w
  pub version : bits 12 2 v ≡ bits 12 2 w
  pub source : bits 14 2 v ≡ bits 14 2 w

module _ (low other : ℕ) (small : low < 256) (small' : other < 256) (four : bits 0 4 low ≡ bits 0 4 other) (six : bits 6 1 low ≡ bits 6 1 other) (high : ℕ) where
  pub same_parts : SameParts (le (other ∷ high ∷ [])) (le (low ∷ high ∷ []))
  unfolding le
  same_parts =
      let x : ℕ = high + 256 * 0 in
      let v : ℕ = other + 256 * x in
      let w : ℕ = low + 256 * x in
      let new = two_bytes other x small' in
      let old = two_bytes low x small in
      let below : v / 1 % 16 ≡ w / 1 % 16 = new.0 ∙ (sym four ∙ sym old.0) in
      let above : v / 256 % 256 ≡ w / 256 % 256 = rw (new.2, old.2) in
      record {
        type = within 1 1 8 2 v w tt tt below;
        security = within 1 8 2 1 v w tt tt below;
        compression = within 1 64 2 2 v other tt tt new.1 ∙ (sym six ∙ within 1 64 2 2 low w tt tt (sym old.1));
        suppression = within 256 1 2 128 v w tt tt above;
        elements = within 256 2 2 64 v w tt tt above;
        destination = within 256 4 4 16 v w tt tt above;
        version = within 256 16 4 4 v w tt tt above;
        source = within 256 64 4 1 v w tt tt above;
      }

  other_bits : (suppression mode : ℕ) → FrameControl (le (low ∷ high ∷ [])) suppression mode → FrameControl (le (other ∷ high ∷ [])) suppression mode
  other_bits suppression mode c = record {
    type = same_parts.type ∙ c.type;
    security = same_parts.security ∙ c.security;
    compression = same_parts.compression ∙ c.compression;
    suppression = same_parts.suppression ∙ c.suppression;
    elements = same_parts.elements ∙ c.elements;
    destination = same_parts.destination ∙ c.destination;
    version = same_parts.version ∙ c.version;
    source = same_parts.source ∙ c.source;
  }

  other_fields : (rest xs fields : List ℕ) (n : SequenceNumber) (p : ℕ) (s : Address) → FixedFields fields n p s → low ∷ high ∷ rest ≡ fields ++ xs → (changed : List ℕ) × FixedFields changed n p s × (other ∷ high ∷ rest ≡ changed ++ xs)
  other_fields rest xs _ _ _ _ (fixed_fields l h p q {suppression} {mode} {sequence} {source} c q-says s-says) e =
      let head = heads e in
      let d : FrameControl (le (other ∷ h ∷ [])) suppression mode = rw head.1 at (other_bits suppression mode (rw (head.0, head.1) c)) in
      (other ∷ h ∷ (sequence ++ (p ∷ q ∷ 255 ∷ 255 ∷ source)), fixed_fields other h p q d q-says s-says, rw (head.1, head.2))

pub ignored_bits_do_not_count : IgnoredBitsDoNotCount
ignored_bits_do_not_count low other high rest b small small' four six a =
    let f = other_fields low other small small' four six high rest _ a.fields _ _ _ a.opens a.stands in
    accepted_by a.at_most_125 f.2 f.1 a.skips a.follows a.lists a.says

ends_126 : (◌≡◌ {A = ℕ} 126 126 → ⊥) → (◌≡◌ {A = ℕ} 126 127 → ⊥) → ⊥
ends_126 n m = n refl

module _ (fields header : List ℕ) (sequence : SequenceNumber) (pan : ℕ) (source : Address) (opens : FixedFields fields sequence pan source) (skips : HeaderElements header) where
  -- where the fields and the header elements of an accepted frame end
  pub front_same : (low high n i : ℕ) (rest : List ℕ) → Descriptor 7 low high n i 0 → ((i ≡ 126 → ⊥) → (i ≡ 127 → ⊥) → ⊥) → (s : List ℕ) (b : Beacon) (a : Accepts s b) → s ≡ fields ++ (header ++ (low ∷ high ∷ rest))
      → (fields ≡ a.fields) × (header ≡ a.header) × (low ∷ high ∷ rest ≡ a.low ∷ a.high ∷ a.payload)
  front_same low high n i rest d ends s b a e =
      let f = fields_same fields a.fields _ _ _ _ _ _ _ _ opens a.opens (sym e ∙ a.stands) in
      let h = header_same _ _ _ _ _ _ _ _ _ _ d a.follows ends ends_126 header a.header skips a.skips f.1 in
      (f.0, h.0, h.1)

pub nothing_counts_behind_7f : NothingCountsBehind7F
nothing_counts_behind_7f fields header rest low high size pan sequence source b opens skips d a =
    let same = heads (front_same fields header sequence pan source opens skips low high size 127 rest d (λ n m. m refl) _ b a refl).2 in
    let is = rw (same.0, same.1) at d.parts in
    omega (arith, is, a.follows.parts, d.length_fits)

pub header_elements_do_not_count : HeaderElementsDoNotCount
header_elements_do_not_count fields header other payload low high pan sequence source b opens skips skips' d short a =
    let same = front_same fields header sequence pan source opens skips low high 0 126 payload d ends_126 _ b a refl in
    accepted_by short (rw (same.0, same.2)) a.opens skips' a.follows a.lists a.says

-- ---- the payload list
-- what stands behind payload elements goes on with the list, or is ignored
goes_on : (payload : List ℕ) (found : List Element) → PayloadElements payload found
    → ((rest : List ℕ) (more : List Element) → PayloadElements rest more → PayloadElements (payload ++ rest) (found ++ more)) ⊎ ((rest : List ℕ) → PayloadElements (payload ++ rest) found)
goes_on _ _ bytes_end = inl (λ rest more list. list)
goes_on _ _ (payload_end a b ignored d) = inr (λ rest. payload_end a b (ignored ++ rest) d)
goes_on _ _ (payload_element a b n c {rest = behind} {inside} {found} d not-15 holds list) =
    ⊎_elim
    (λ go. inl (λ rest more next. rw (append_assoc c behind rest, append_assoc inside found more) (payload_element a b n c d not-15 holds (go rest more next))))
    (λ go. inr (λ rest. rw (append_assoc c behind rest) (payload_element a b n c d not-15 holds (go rest)))) (goes_on behind found list)

module _ (before : List ℕ) (p : Before before) (xs ys : List ℕ) (f g : List Element) (b : Beacon) (one : PayloadElements xs f) (other : PayloadElements ys g) where
  behind : (rest : List ℕ) → before ++ rest ≡ p.fields ++ (p.header ++ (p.low ∷ p.high ∷ (p.payload ++ rest)))
  behind rest =
      ap (λ (l : List ℕ). l ++ rest) p.stands
      ∙ (append_assoc p.fields (p.header ++ (p.low ∷ p.high ∷ p.payload)) rest ∙ ap (λ (l : List ℕ). p.fields ++ l) (append_assoc p.header (p.low ∷ p.high ∷ p.payload) rest))

  -- the same frame with another list behind the place
  pub replaced : (Says (p.found ++ f) b → Says (p.found ++ g) b) → length (before ++ ys) ≤ 125 → Accepts (before ++ xs) b → Accepts (before ++ ys) b
  replaced says short a =
      let same = front_same p.fields p.header _ _ _ p.opens p.skips p.low p.high 0 126 (p.payload ++ xs) p.follows ends_126 _ b a (behind xs) in
      let list = (heads same.2).2 in
      let with : (found : List Element) → PayloadElements (p.payload ++ ys) found → Says found b → Accepts (before ++ ys) b =
      λ found lists said. accepted_by short (rw (← same.0, ← same.1) (behind ys)) a.opens a.skips p.follows lists said in
      ⊎_elim
      (λ go.
      let found : p.found ++ f ≡ a.found = payload_same _ _ _ _ (go xs f one) a.lists list in
      with (p.found ++ g) (go ys g other) (says (rw found a.says)))
      (λ go.
      let found : p.found ≡ a.found = payload_same _ _ _ _ (go xs) a.lists list in
      with p.found (go ys) (rw found a.says))
      (goes_on p.payload p.found p.lists)

-- ---- elements that say the same
-- timeslot and joining information may differ in their contents
says_but : (f g : List Element) (b : Beacon) → ((k : ℕ) → Known k → (28 ≡ k → ⊥) → (258 ≡ k → ⊥) → contents k f ≡ contents k g) → (Once 28 f (λ c. TimeslotContent c b.timeslot) → Once 28 g (λ c. TimeslotContent c b.timeslot))
    → (JoiningContent (contents 258 f) b.joining → JoiningContent (contents 258 g) b.joining) → Says f b → Says g b
says_but f g b same timed joined says = record {
  synchronization = rw (← same 26 (inl refl) (λ z. omega arith) (λ z. omega arith)) says.synchronization;
  timeslot = timed says.timeslot;
  hopping = rw (← same 137 (inr (inr (inr (inl refl)))) (λ z. omega arith) (λ z. omega arith)) says.hopping;
  slotframe = rw (← same 27 (inr (inl refl)) (λ z. omega arith) (λ z. omega arith)) says.slotframe;
  joining = joined says.joining;
}

says_same : (f g : List Element) (b : Beacon) → SameKnown f g → Says f b → Says g b
says_same f g b same = says_but f g b (λ k known not-28 not-258. same k known) (λ t. rw (← same 28 (inr (inr (inl refl)))) t) (λ j. rw (← same 258 (inr (inr (inr (inr refl))))) j)

behind_same : (h f g : List Element) → SameKnown f g → SameKnown (h ++ f) (h ++ g)
behind_same h f g same k known = rw (contents_append k h f, contents_append k h g, same k known)

before_same : (f g h : List Element) → SameKnown f g → SameKnown (f ++ h) (g ++ h)
before_same f g h same k known = rw (contents_append k f h, contents_append k g h, same k known)

pub known_contents_count : KnownContentsCount
known_contents_count before xs ys f g b p one other same short = replaced before p xs ys f g b one other (says_same _ _ b (behind_same p.found f g same)) short

pub bytes_behind_group_15_do_not_count : BytesBehindGroup15DoNotCount
bytes_behind_group_15_do_not_count before ignored other low high b p d short = replaced before p _ _ [] [] b (payload_end low high ignored d) (payload_end low high other d) (λ says. says) short

pub unknown_elements_do_not_count : UnknownElementsDoNotCount
unknown_elements_do_not_count before content _ rest group inside found b p (one_element low high d) not-15 holds none list short =
    let with : PayloadElements (low ∷ high ∷ (content ++ rest)) (inside ++ found) = payload_element low high group content d not-15 holds list in
    let less : length (before ++ rest) ≤ 125 = omega (arith, short, length-append before rest, length-append before (low ∷ high ∷ (content ++ rest)), length-append content rest) in (
      replaced before p _ _ _ _ b list with (says_same _ _ b (behind_same p.found _ _ (λ k known. sym (before_same inside [] found none k known)))) short,
      replaced before p _ _ _ _ b with list (says_same _ _ b (behind_same p.found _ _ (before_same inside [] found none))) less,
    )

-- ---- groups
subs_append : (xs ys : List ℕ) (f g : List Element) → SubElements xs f → SubElements ys g → SubElements (xs ++ ys) (f ++ g)
subs_append _ ys _ g group_end more = more
subs_append _ ys _ g (sub_element a b k c {rest} {found} d behind) more = rw (append_assoc c rest ys) (sub_element a b k c d (subs_append rest ys found g behind more))

group_list : (content group rest : List ℕ) (inside found : List Element) → OneElement 1 content group → SubElements content inside → PayloadElements rest found → PayloadElements (group ++ rest) (inside ++ found)
group_list content _ rest inside found (one_element low high d) subs list = payload_element low high 1 content d (λ (z : ◌≡◌ {A = ℕ} 1 15). omega arith) (mlme subs) list

pub unknown_sub_elements_do_not_count : UnknownSubElementsDoNotCount
unknown_sub_elements_do_not_count before one unknown two rest group wider in_one in-unknown in_two found b p narrow wide ones unknowns twos none list short short' =
    let without = group_list _ group rest _ found narrow (subs_append one two in_one in_two ones twos) list in
    let with = group_list _ wider rest _ found wide (subs_append one (unknown ++ two) in_one (in-unknown ++ in_two) ones (subs_append unknown two in-unknown in_two unknowns twos)) list in
    let same = before_same (in_one ++ (in-unknown ++ in_two)) (in_one ++ in_two) found (behind_same in_one (in-unknown ++ in_two) in_two (before_same in-unknown [] in_two none)) in (
      replaced before p _ _ _ _ b without with (says_same _ _ b (behind_same p.found _ _ (λ k known. sym (same k known)))) short',
      replaced before p _ _ _ _ b with without (says_same _ _ b (behind_same p.found _ _ same)) short,
    )

-- ---- the order
few_joining : (cs : List (List ℕ)) (j : JoiningInformation) → JoiningContent cs j → length cs ≤ 1
few_joining _ _ absent = omega arith
few_joining _ _ (joining word address network four eight few) = omega arith

says_few : (f : List Element) (b : Beacon) → Says f b → (k : ℕ) → Known k → length (contents k f) ≤ 1
says_few f b says k (inl e) = rw (e, says.synchronization.1) (omega arith)
says_few f b says k (inr (inl e)) = rw (e, says.slotframe.1) (omega arith)
says_few f b says k (inr (inr (inl e))) = rw (e, says.timeslot.1) (omega arith)
says_few f b says k (inr (inr (inr (inl e)))) = rw (e, says.hopping.1) (omega arith)
says_few f b says k (inr (inr (inr (inr e)))) = rw e (few_joining _ _ says.joining)

module _ {A : Type 0} where
  swap : (xs ys : List A) → length (xs ++ ys) ≤ 1 → xs ++ ys ≡ ys ++ xs
  swap [] ys h = sym (append-nil ys)
  swap (x ∷ xs) [] h = append-nil (x ∷ xs)
  swap (x ∷ xs) (y ∷ ys) h = absurd (omega (arith, h, length-append xs (y ∷ ys)))

  swap_inside : (a u v w x y : List A) → length (a ++ ((u ++ (v ++ (w ++ x))) ++ y)) ≤ 1 → a ++ ((u ++ (v ++ (w ++ x))) ++ y) ≡ a ++ ((u ++ (w ++ (v ++ x))) ++ y)
  swap_inside a u v w x y few =
      let short : length (v ++ w) ≤ 1 =
      omega (arith, few, length-append a ((u ++ (v ++ (w ++ x))) ++ y), length-append (u ++ (v ++ (w ++ x))) y, length-append u (v ++ (w ++ x)), length-append v (w ++ x), length-append w x, length-append v w) in
      let same : v ++ (w ++ x) ≡ w ++ (v ++ x) = sym (append_assoc v w x) ∙ (ap (λ (l : List A). l ++ x) (swap v w short) ∙ append_assoc w v x) in
      rw same

pub order_does_not_count : OrderDoesNotCount
order_does_not_count before one two three four rest group other u v w x found b p first second ones twos threes fours list short =
    let list₁ = group_list _ group rest _ found first (subs_append one _ u _ ones (subs_append two _ v _ twos (subs_append three four w x threes fours))) list in
    let list₂ = group_list _ other rest _ found second (subs_append one _ u _ ones (subs_append three _ w _ threes (subs_append two four v x twos fours))) list in
    replaced before p _ _ _ _ b list₁ list₂
    (λ says. says_same _ _ b
    (λ k known. simp contents_append (swap_inside (contents k p.found) (contents k u) (contents k v) (contents k w) (contents k x) (contents k found) (simp contents_append at (says_few _ b says k known)))) says) short

-- ---- the content of one element
only_one : {A : Type 0} (x c d : A) (before after : List A) → x ∷ [] ≡ before ++ (c ∷ after) → (x ≡ c) × (before ++ (d ∷ after) ≡ d ∷ [])
only_one x c d before after e = let one = single x c before after e in (one.1, rw (one.0, one.2))

module _ (h f : List Element) (kind : ℕ) where
  here : (c : List ℕ) → contents kind (h ++ (record { kind = kind; content = c } ∷ f)) ≡ contents kind h ++ (c ∷ contents kind f)
  here c = contents_here h f _ kind refl

  elsewhere : (c d : List ℕ) (k : ℕ) → (kind ≡ k → ⊥) → contents k (h ++ (record { kind = kind; content = c } ∷ f)) ≡ contents k (h ++ (record { kind = kind; content = d } ∷ f))
  elsewhere c d k n = contents_other h f _ k n ∙ sym (contents_other h f _ k n)

-- ---- joining information's reserved bits
module _ (word other content : List ℕ) (four : length word ≡ 4) (four' : length other ≡ 4) (top : bits 30 2 (be word) ≡ bits 30 2 (be other)) (low : bits 0 27 (be word) ≡ bits 0 27 (be other)) where
  joining_changed : (cs : List (List ℕ)) (j : JoiningInformation) → JoiningContent cs j → (before after : List (List ℕ)) → cs ≡ before ++ ((word ++ content) ∷ after) → JoiningContent (before ++ ((other ++ content) ∷ after)) j
  joining_changed _ _ absent before after e = absurd (no_entry _ before after e)
  joining_changed _ _ (joining w address network w-four eight few) before after e =
      let one = only_one (w ++ (address ++ network)) (word ++ content) (other ++ content) before after e in
      let cut = split w word (address ++ network) content one.0 (w-four ∙ sym four) in
      let p : bits 30 1 (be word) ≡ bits 30 1 (be other) = within 1073741824 1 2 2 _ _ tt tt top in
      let r : bits 31 1 (be word) ≡ bits 31 1 (be other) = within 1073741824 2 2 1 _ _ tt tt top in
      let proxy : bits 20 7 (be word) ≡ bits 20 7 (be other) = within 1 1048576 128 1 _ _ tt tt low in
      let rank : bits 8 12 (be word) ≡ bits 8 12 (be other) = within 1 256 4096 128 _ _ tt tt low in
      let pan : bits 0 8 (be word) ≡ bits 0 8 (be other) = within 1 1 256 524288 _ _ tt tt low in
      let eight' : length address ≡ 8 * bits 30 1 (be other) = eight ∙ rw (cut.0, p) in
      rw (one.1, ← cut.1, cut.0, r, p, proxy, rank, pan) (joining other address network four' eight' few)

pub reserved_joining_bits_do_not_count : ReservedJoiningBitsDoNotCount
reserved_joining_bits_do_not_count before word other content _ _ rest found b p four four' top low (one_element l h d) (one_element l' h' d') list short =
    let lists : (low high : ℕ) (c : List ℕ) → Descriptor 11 low high (suc (length c)) 5 1 → PayloadElements (low ∷ high ∷ 2 ∷ (c ++ rest)) (record { kind = 258; content = c } ∷ found) =
    λ low high c d. payload_element low high 5 (2 ∷ c) d (λ (z : ◌≡◌ {A = ℕ} 5 15). omega arith) (ietf_element 2 c) list in
    let same = elsewhere p.found found 258 (word ++ content) (other ++ content) in
    replaced before p _ _ _ _ b (lists l h (word ++ content) d) (lists l' h' (other ++ content) d')
    (says_but _ _ b (λ k known not-28 not-258. same k not-258) (λ t. rw (← same 28 (λ z. omega arith)) t)
    (λ j. rw (here p.found found 258 (other ++ content)) (joining_changed word other content four four' top low _ _ j (contents 258 p.found) (contents 258 found) (here p.found found 258 (word ++ content))))) short

-- ---- the two forms of timings
other_timings : (c : List ℕ) (t u : TimeslotTemplate) → TimeslotContent c t → TimeslotContent c u → t ≡ u
other_timings c t u one other = let h = stands_whole c c refl in timeslot_value c 0 c t one h ∙ sym (timeslot_value c 0 c u other h)

timings_changed : (h f : List Element) (c d : List ℕ) (u : TimeslotTemplate) (b : Beacon) → TimeslotContent c u → TimeslotContent d u → Says (h ++ (record { kind = 28; content = c } ∷ f)) b → Says (h ++ (record { kind = 28; content = d } ∷ f)) b
timings_changed h f c d u b was is =
    let same = elsewhere h f 28 c d in
    says_but _ _ b (λ k known not-28 not-258. same k not-28)
    (λ t.
    let one = only_one t.0 c d (contents 28 h) (contents 28 f) (sym t.1 ∙ here h f 28 c) in
    (d, here h f 28 d ∙ one.1, subst (λ t. TimeslotContent d t) (other_timings c u b.timeslot was (rw (← one.0) t.2)) is))
    (λ j. rw (← same 258 (λ z. omega arith)) j)

regroup : (h u : List Element) (x : Element) (v f : List Element) → h ++ ((u ++ (x ∷ v)) ++ f) ≡ (h ++ u) ++ (x ∷ (v ++ f))
regroup h u x v f = ap (λ (l : List Element). h ++ l) (append_assoc u (x ∷ v) f) ∙ sym (append_assoc h u (x ∷ (v ++ f)))

pub both_timing_forms_say_the_same : BothTimingFormsSayTheSame
both_timing_forms_say_the_same before one two rest narrow wide timings _ _ group other id u v found b p row row' (one_sub_element l h d) (one_sub_element l' h' d') first second ones twos list short short' =
    let t : TimeslotTemplate = record { id = id; timed = true; timings = timings } in
    let lists = group_list _ group rest _ found first (subs_append one _ u _ ones (sub_element l h 28 (id ∷ narrow) d twos)) list in
    let lists' = group_list _ other rest _ found second (subs_append one _ u _ ones (sub_element l' h' 28 (id ∷ wide) d' twos)) list in
    let changed : (c d : List ℕ) → TimeslotContent c t → TimeslotContent d t → Says (p.found ++ ((u ++ (record { kind = 28; content = c } ∷ v)) ++ found)) b → Says (p.found ++ ((u ++ (record { kind = 28; content = d } ∷ v)) ++ found)) b =
    λ c d was is says. rw (regroup p.found u (record { kind = 28; content = d }) v found) (timings_changed (p.found ++ u) (v ++ found) c d t b was is (rw (regroup p.found u (record { kind = 28; content = c }) v found) at says)) in (
      replaced before p _ _ _ _ b lists lists' (changed _ _ (timed_25 id row) (timed_27 id row')) short',
      replaced before p _ _ _ _ b lists' lists (changed _ _ (timed_27 id row') (timed_25 id row)) short,
    )
