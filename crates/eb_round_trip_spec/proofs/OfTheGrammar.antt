-- A written frame is of the grammar, by how it is built: no offset and no walk comes into it. Assumes nothing.
use Prim.Native.Nat.{ℕ, zero, suc, ◌+◌, ◌-◌, ◌*◌, ◌/◌, ◌%◌, ◌^◌, ◌<◌, ◌≤◌}
use mathlib.Core.Path.{◌≡◌, refl, sym, ◌∙◌, subst}
use mathlib.Core.Bool.{Bool, true, false}
use mathlib.Core.List.{List, [], ◌∷◌, ◌++◌, append-nil, append_assoc}
use native.Mathlib.Nat.{pow-suc, pow-succ', one-le-pow, mul_comm, mod-one, mod-eq_of_lt}
use native.Mathlib.Omega.{arith}
use borrow.Author.Tests.{ltb-true}
use lib.Arith.{mod-mul}
use lib.Dec.{eqb, lit<}
use lib.ListN.{length, get_or, take, drop, replicate, length-append, length-drop, take-append-drop}
use lib.Seq.{get_or-take, length-take-le}
use Rattle.octets_spec.specs.Choice.{if_on, if_lt, if_eq}
use Rattle.octets_spec.specs.Number.{le_bytes, be_bytes}
use Rattle.octets_spec.proofs.ChoiceLaws.{by_lt, by_test, if_lt_lem, if_ge, if_ne_lem, if_on_lem, was_lt}
use Rattle.eb_record_spec.specs.Record.{blank_link, blank_beacon}
use Rattle.mac_header_spec.specs.declared.SequenceNumber.{SequenceNumber}
use Rattle.mac_header_spec.specs.declared.SequenceNumber.TheVariants.{Absent, Number}
use Rattle.mac_header_spec.specs.declared.Address.{Address}
use Rattle.mac_header_spec.specs.declared.Address.TheVariants.{Short, Extended}
use Rattle.eb_record_spec.specs.declared.Synchronization.{Synchronization}
use Rattle.eb_record_spec.specs.declared.TimeslotTemplate.{TimeslotTemplate}
use Rattle.eb_record_spec.specs.declared.Link.{Link}
use Rattle.eb_record_spec.specs.declared.Slotframe.{Slotframe}
use Rattle.eb_record_spec.specs.declared.JoiningInformation.{JoiningInformation}
use Rattle.eb_record_spec.specs.declared.Beacon.{Beacon}
use Rattle.eb_write_spec.specs.Frame.{suppressed_bit, sequence_bytes, address_mode, address_bytes, control_word, mac_header_bytes, header_descriptor, group_descriptor, short_descriptor, long_descriptor, numbers_in, last_width, synchronization_bytes, timings_bytes, template_size, template_bytes, hopping_bytes, link_bytes, links_bytes, slotframe_bytes, group_size, group_bytes, flag, joining_word, joining_size, joining_bytes, frame_of}
use Rattle.eb_write_spec.specs.Limits.{sequence_fits}
use Rattle.eb_record_spec.specs.Form.{address_fits}
use Rattle.eb_write_spec.proofs.LengthLaws.{length_le, length_be, length_template, length_links, length_group}
use Rattle.eb_round_trip_spec.specs.ReadBack.{Writable}
use Rattle.eb_round_trip_spec.proofs.Fitting.{SynchronizationWithin, TemplateWithin, LinkWithin, SlotframeWithin, PresentWithin, Within, within_limits, below_at}
use Rattle.eb_grammar_spec.specs.Row.{le, be, bits, Row, last, next}
use Rattle.eb_grammar_spec.specs.Grammar.{Descriptor, Element, contents, short_id, long_id, SubElements, group_end, sub_element, PayloadElements, bytes_end, payload_element, mlme, ietf_element, header_end, TimeslotContent, id_alone, timed_25, timed_27, Links, no_links, one_link, SlotframeContent, slotframe, JoiningContent, absent, joining, Says, FrameControl, SequenceBytes, numbered, suppressed, AddressBytes, short_address, extended_address, FixedFields, fixed_fields, Accepts}
use Rattle.eb_grammar_spec.proofs.Joined.{joining_said}

-- ---- numbers
pub le_of : (width n : ℕ) → n < 256 ^ width → le (le_bytes width n) ≡ n
unfolding le le_bytes
le_of zero n fits = omega (arith, fits)
le_of (suc width) n fits =
    let high : n / 256 < 256 ^ width = omega (arith, rw (pow-suc 256 width) at fits) in
    rw (le_of width (n / 256) high) (omega arith)

be_low : (width n : ℕ) → be (be_bytes width n) ≡ n % 256 ^ width
unfolding be be_bytes
be_low zero n = sym (mod-one n)
be_low (suc width) n = rw (length_be width n, be_low width n, pow-succ' 256 width) (omega (arith, mod-mul n {m = 256} {c = 256 ^ width} (lit< tt) (one-le-pow width 256 (lit< tt)), mul_comm (256 ^ width) (n / 256 ^ width % 256)))

be_of : (width n : ℕ) → n < 256 ^ width → be (be_bytes width n) ≡ n
be_of width n fits = be_low width n ∙ mod-eq_of_lt fits

number_row : (width n : ℕ) → n < 256 ^ width → {ws ys ns : List ℕ} → Row ws ys ns → Row (width ∷ ws) (le_bytes width n ++ ys) (n ∷ ns)
number_row width n fits more = rw (length_le width n, le_of width n fits) at (next (le_bytes width n) more)

row_append : (ws xs ns : List ℕ) → Row ws xs ns → (vs ys ms : List ℕ) → Row vs ys ms → Row (ws ++ vs) (xs ++ ys) (ns ++ ms)
row_append _ _ _ last vs ys ms r = r
row_append _ _ _ (next xs {widths = ws} {bytes} {numbers = ns} more) vs ys ms r = rw (append_assoc xs bytes ys) (next xs (row_append ws bytes ns more vs ys ms r))

row_numbers : (width : ℕ) (ns : List ℕ) → ((i : ℕ) → i < length ns → get_or ns i 0 < 256 ^ width) → Row (replicate (length ns) width) (numbers_in width ns) ns
unfolding numbers_in
row_numbers width [] fits = last
row_numbers width (n ∷ ns) fits = number_row width n (fits 0 (omega arith)) (row_numbers width ns (λ i l. fits (suc i) (omega arith)))

-- ---- descriptors
pub describes : (split size id top n : ℕ) → n ≡ size + 2 ^ split * id + 32768 * top → n < 65536 → size < 2 ^ split → id < 2 ^ (15 - split) → Descriptor split (n % 256) (n / 256 % 256) size id top
unfolding le_bytes
describes split size id top n e small fits id_fits = record { parts = le_of 2 n small ∙ e; length_fits = fits; id_fits = id_fits }

short_sub : (id size : ℕ) (c rest : List ℕ) (found : List Element) → id < 128 → length c ≡ size → size < 256 → SubElements rest found → SubElements (short_descriptor id size ++ c ++ rest) (record { kind = id; content = c } ∷ found)
unfolding short_descriptor le_bytes
short_sub id size c rest found small e fits more =
    let n : ℕ = size + id * 256 in
    let d : Descriptor 8 (n % 256) (n / 256 % 256) (length c) id 0 = rw e (describes 8 size id 0 n (omega arith) (omega arith) fits small) in
    sub_element (n % 256) (n / 256 % 256) id c (short_id id d) more

long_sub : (id size : ℕ) (c rest : List ℕ) (found : List Element) → id < 16 → length c ≡ size → size < 2048 → SubElements rest found → SubElements (long_descriptor id size ++ c ++ rest) (record { kind = 128 + id; content = c } ∷ found)
unfolding long_descriptor le_bytes
long_sub id size c rest found small e fits more =
    let n : ℕ = size + id * 2048 + 32768 in
    let d : Descriptor 11 (n % 256) (n / 256 % 256) (length c) id 1 = rw e (describes 11 size id 1 n (omega arith) (omega arith) fits small) in
    sub_element (n % 256) (n / 256 % 256) (128 + id) c (long_id id d) more

-- ---- the opening
control : (q : SequenceNumber) (a : Address) → FrameControl (le (le_bytes 2 (control_word q a))) (suppressed_bit q) (address_mode a)
unfolding le le_bytes control_word suppressed_bit address_mode
control Absent (Short n) = record { type = refl; security = refl; compression = refl; suppression = refl; elements = refl; destination = refl; version = refl; source = refl }
control Absent (Extended n) = record { type = refl; security = refl; compression = refl; suppression = refl; elements = refl; destination = refl; version = refl; source = refl }
control (Number m) (Short n) = record { type = refl; security = refl; compression = refl; suppression = refl; elements = refl; destination = refl; version = refl; source = refl }
control (Number m) (Extended n) = record { type = refl; security = refl; compression = refl; suppression = refl; elements = refl; destination = refl; version = refl; source = refl }

byte : (n : ℕ) → n < 256 → n % 256 ≡ n
byte n h = omega arith

pub number : (q : SequenceNumber) → sequence_fits q ≡ true → SequenceBytes (suppressed_bit q) (sequence_bytes q) q
unfolding suppressed_bit sequence_bytes le_bytes sequence_fits
number Absent fits = suppressed
number (Number n) fits = rw (byte n (ltb-true n 256 fits)) (numbered n)

pub address : (a : Address) → address_fits a ≡ true → AddressBytes (address_mode a) (address_bytes a) a
unfolding address_mode address_bytes address_fits
address (Short n) fits = rw (le_of 2 n (ltb-true _ _ fits)) at (short_address (le_bytes 2 n) (length_le 2 n))
address (Extended n) fits = rw (le_of 8 n (ltb-true _ _ fits)) at (extended_address (le_bytes 8 n) (length_le 8 n))

opens : (q : SequenceNumber) (pan : ℕ) (a : Address) → sequence_fits q ≡ true → pan < 2 ^ 16 → address_fits a ≡ true → FixedFields (mac_header_bytes q pan a) q pan a
unfolding mac_header_bytes le_bytes
opens q pan a q-fits fits a-fits =
    let w : ℕ = control_word q a in
    let o : FixedFields (mac_header_bytes q pan a) q (le (le_bytes 2 pan)) a = fixed_fields (w % 256) (w / 256 % 256) (pan % 256) (pan / 256 % 256) (control q a) (number q q-fits) (address a a-fits) in
    subst (λ n. FixedFields (mac_header_bytes q pan a) q n a) (le_of 2 pan fits) o

-- ---- synchronization and hopping
synchronization_row : (y : Synchronization) → SynchronizationWithin y → Row (5 ∷ 1 ∷ []) (le_bytes 5 y.asn ++ le_bytes 1 y.metric) (y.asn ∷ y.metric ∷ [])
synchronization_row y w = rw (append-nil (le_bytes 1 y.metric)) at (number_row 5 y.asn w.asn (number_row 1 y.metric w.metric last))

-- ---- timeslot
by_width : {X : Type 0} (ns : List ℕ) → (last_width ns ≡ 2 → X) → (last_width ns ≡ 3 → X) → X
unfolding last_width
by_width [] two three = two refl
by_width (n ∷ ns) two three =
    by_lt n 65536
    (λ l. let e : if_lt n 65536 (last_width ns) 3 ≡ last_width ns = sym (if_lt_lem _ _ n 65536 l refl) in by_width ns (λ k. two (e ∙ k)) (λ k. three (e ∙ k)))
    (λ l. three (sym (if_ge _ _ n 65536 l refl)))

pub template_small : (t : TimeslotTemplate) → (1 ≤ template_size t) × (template_size t ≤ 27)
unfolding template_size if_on
template_small t = by_test t.timed (λ e. rw e (by_width (drop 10 t.timings) (λ k. (omega arith, omega arith)) (λ k. (omega arith, omega arith)))) (λ e. rw e (omega arith, omega arith))

narrow : (ns : List ℕ) → last_width ns ≡ 2 → (i : ℕ) → i < length ns → get_or ns i 0 < 65536
unfolding last_width
narrow [] e i l = absurd (omega arith)
narrow (n ∷ ns) e zero l = (was_lt (last_width ns) 3 2 n 65536 e (λ (z : ◌≡◌ {A = ℕ} 3 2). omega arith)).0
narrow (n ∷ ns) e (suc i) l = narrow ns (was_lt (last_width ns) 3 2 n 65536 e (λ (z : ◌≡◌ {A = ℕ} 3 2). omega arith)).1 i (omega arith)

module _ (t : TimeslotTemplate) (sized : length t.timings ≡ 12) (w : TemplateWithin t) where
  ten : length (take 10 t.timings) ≡ 10
  ten = length-take-le 10 t.timings (omega arith)

  two : length (drop 10 t.timings) ≡ 2
  two = omega (arith, length-drop 10 t.timings)

  timings_row : t.timed ≡ true → (width : ℕ) → last_width (drop 10 t.timings) ≡ width → ((i : ℕ) → i < 2 → get_or (drop 10 t.timings) i 0 < 256 ^ width) → Row (replicate 10 2 ++ (width ∷ width ∷ [])) (timings_bytes t.timings) t.timings
  unfolding timings_bytes
  timings_row timed width e fits =
      let first = row_numbers 2 (take 10 t.timings) (λ i l. let k : i < 10 = omega (arith, l, ten) in rw (get_or-take 10 t.timings i 0 k) (w.early timed i k)) in
      let behind = row_numbers width (drop 10 t.timings) (λ i l. fits i (omega (arith, l, two))) in
      rw e (rw (ten, two, take-append-drop 10 t.timings) at (row_append _ _ _ first _ _ _ behind))

  abbrev content : List ℕ
  content = le_bytes 1 t.id ++ if_on t.timed (timings_bytes t.timings) []

  bare_content : t.timed ≡ false → TimeslotContent content t
  unfolding le_bytes if_on
  bare_content e = rw ((w.bare e).0, e, (w.bare e).1) id_alone

  timed_content : t.timed ≡ true → TimeslotContent content t
  unfolding le_bytes if_on
  timed_content e =
      let c : TimeslotContent (t.id ∷ timings_bytes t.timings) (record { id = t.id; timed = true; timings = t.timings }) =
      by_width (drop 10 t.timings)
      (λ k. timed_25 t.id (timings_row e 2 k (λ i l. narrow _ k i (omega (arith, two, l)))))
      (λ k. timed_27 t.id (timings_row e 3 k (λ i l. below_at (2 ^ 24) _ i (omega (arith, two, l)) (w.late e)))) in
      rw (e, byte t.id w.id) c

  template_content : TimeslotContent content t
  template_content = by_test t.timed timed_content bare_content

-- ---- slotframe
links_of : (size : ℕ) (ls : List Link) → size < 2 ^ 16 → ((i : ℕ) → i < length ls → LinkWithin size (get_or ls i blank_link)) → Links size (links_bytes ls) ls
unfolding links_bytes link_bytes
links_of size [] fits h = no_links
links_of size (l ∷ ls) fits h =
    let w = h 0 (omega arith) in
    let row : Row (2 ∷ 2 ∷ 1 ∷ []) (le_bytes 2 l.timeslot ++ (le_bytes 2 l.channel_offset ++ le_bytes 1 l.options)) (l.timeslot ∷ l.channel_offset ∷ l.options ∷ []) =
    rw (append-nil (le_bytes 1 l.options)) at (number_row 2 l.timeslot (omega (arith, w.timeslot, fits)) (number_row 2 l.channel_offset w.channel_offset (number_row 1 l.options w.options last))) in
    one_link l.timeslot l.channel_offset l.options row w.timeslot (links_of size ls fits (λ i k. h (suc i) (omega arith)))

module _ (f : Slotframe) (sized : length f.links ≡ 16) (w : SlotframeWithin f) where
  abbrev used : List Link
  used = take f.count f.links

  abbrev slotframe_bytes_lem : List ℕ
  slotframe_bytes_lem = le_bytes 1 1 ++ (le_bytes 1 f.handle ++ (le_bytes 2 f.size ++ (le_bytes 1 f.count ++ links_bytes used)))

  many : length used ≡ f.count
  many = length-take-le f.count f.links (omega (arith, w.few))

  slotframe_length : length slotframe_bytes_lem ≡ 5 + 5 * f.count
  unfolding le_bytes
  slotframe_length = omega (arith, length_links used, many)

  slotframe_content : SlotframeContent slotframe_bytes_lem f
  unfolding le_bytes
  slotframe_content =
      let few : length used ≤ 16 = omega (arith, many, w.few) in
      let within : (i : ℕ) → i < length used → LinkWithin f.size (get_or used i blank_link) =
      λ i l. let k : i < f.count = omega (arith, l, many) in rw (get_or-take f.count f.links i blank_link k) (w.used i k) in
      let row : Row (1 ∷ 1 ∷ 2 ∷ 1 ∷ []) (le_bytes 1 1 ++ (le_bytes 1 f.handle ++ (le_bytes 2 f.size ++ (le_bytes 1 f.count ++ [])))) (1 ∷ f.handle ∷ f.size ∷ length used ∷ []) =
      rw many (number_row 1 1 (omega arith) (number_row 1 f.handle w.handle (number_row 2 f.size w.size (number_row 1 f.count (omega (arith, w.few)) last)))) in
      let all : used ++ replicate (16 - f.count) blank_link ≡ f.links = rw (← w.unused) (take-append-drop f.count f.links) in
      rw (many, all) at (slotframe f.handle f.size used row (links_of f.size used w.size within) w.positive (rw many w.some) few)

-- ---- joining information: the parts of the word
flag_back : (b : Bool) → eqb (flag b) 1 ≡ b
unfolding if_on
flag_back true = refl
flag_back false = refl

pub flag_small : (b : Bool) → flag b ≤ 1
unfolding if_on
flag_small true = omega arith
flag_small false = omega arith

record Parts (r p x y z word : ℕ) : Type 0 where
  fits : word < 2 ^ 32
  router : bits 31 1 word ≡ r
  proxied : bits 30 1 word ≡ p
  proxy : bits 20 7 word ≡ x
  rank : bits 8 12 word ≡ y
  pan : bits 0 8 word ≡ z

word_parts : (r p proxy rank pan : ℕ) → r ≤ 1 → p ≤ 1 → proxy < 128 → rank < 4096 → pan < 256 → Parts r p proxy rank pan (r * 2 ^ 31 + p * 2 ^ 30 + proxy * 2 ^ 20 + rank * 2 ^ 8 + pan)
word_parts r p proxy rank pan r-bit p-bit a b c =
    let word : ℕ = r * 2 ^ 31 + p * 2 ^ 30 + proxy * 2 ^ 20 + rank * 2 ^ 8 + pan in
    let k₁ : word / 2 ^ 31 ≡ r = omega arith in
    let k₂ : word / 2 ^ 30 ≡ 2 * r + p = omega arith in
    let k₃ : word / 2 ^ 20 ≡ 2048 * r + 1024 * p + proxy = omega arith in
    let k₄ : word / 2 ^ 8 ≡ 8388608 * r + 4194304 * p + 4096 * proxy + rank = omega arith in
    record { fits = omega arith; router = rw k₁ (omega arith); proxied = rw k₂ (omega arith); proxy = rw k₃ (omega arith); rank = rw k₄ (omega arith); pan = omega arith }

module _ (j : JoiningInformation) (sized : length j.network ≡ 16) (there : j.present ≡ true) (w : PresentWithin j) where
  abbrev word : List ℕ
  word = be_bytes 4 (joining_word j)

  abbrev addresses : List ℕ
  addresses = if_on j.proxied (be_bytes 8 j.address) []

  abbrev network : List ℕ
  network = take j.length j.network

  parts : Parts (flag j.router) (flag j.proxied) j.proxy j.rank j.pan (joining_word j)
  unfolding joining_word
  parts = word_parts (flag j.router) (flag j.proxied) j.proxy j.rank j.pan (flag_small j.router) (flag_small j.proxied) w.proxy w.rank w.pan

  word_is : be word ≡ joining_word j
  word_is = be_of 4 (joining_word j) parts.fits

  address_length_lem : length addresses ≡ 8 * flag j.proxied
  unfolding if_on
  address_length_lem = by_test j.proxied (λ e. rw e (length_be 8 j.address)) (λ e. rw e)

  address_is : be addresses ≡ j.address
  unfolding if_on be
  address_is = by_test j.proxied (λ e. rw e (be_of 8 j.address (w.proxied e))) (λ e. rw (e, w.unproxied e))

  network_length : length network ≡ j.length
  network_length = length-take-le j.length j.network (omega (arith, w.few))

  joining_bytes_length : length (word ++ (addresses ++ network)) ≡ 4 + 8 * flag j.proxied + j.length
  joining_bytes_length = length-append word (addresses ++ network) ∙ omega (arith, length_be 4 (joining_word j), length-append addresses network, address_length_lem, network_length)

  joining_content : JoiningContent ((word ++ (addresses ++ network)) ∷ []) j
  joining_content =
      let eight : length addresses ≡ 8 * bits 30 1 (be word) = rw (word_is, parts.proxied) address_length_lem in
      let few : length network ≤ 16 = omega (arith, network_length, w.few) in
      let padded : network ++ replicate (16 - j.length) 0 ≡ j.network = rw (← w.unused) (take-append-drop j.length j.network) in
      let is : ◌≡◌ {A = JoiningInformation} (joining_said word addresses network)
      (record { present = j.present; router = j.router; proxied = j.proxied; proxy = j.proxy; rank = j.rank; pan = j.pan; address = j.address; length = j.length; network = j.network }) =
      rw (word_is, parts.router, parts.proxied, parts.proxy, parts.rank, parts.pan, flag_back j.router, flag_back j.proxied, address_is, network_length, padded, there) in
      subst (λ r. JoiningContent ((word ++ (addresses ++ network)) ∷ []) r) is (joining word addresses network (length_be 4 (joining_word j)) eight few)

  bytes_are : group_descriptor 5 (joining_size j) ++ (le_bytes 1 2 ++ (word ++ (addresses ++ network))) ≡ joining_bytes j
  unfolding joining_bytes
  bytes_are = if_on_lem _ _ j.present there refl

-- what stands behind the group
record Tail (j : JoiningInformation) : Type 0 where
  found : List Element
  list : PayloadElements (joining_bytes j) found
  says : JoiningContent (contents 258 found) j
  others : (k : ℕ) → k < 256 → contents k found ≡ []

tail_there : (j : JoiningInformation) → length j.network ≡ 16 → j.present ≡ true → PresentWithin j → Tail j
unfolding group_descriptor le_bytes contents if_eq joining_size
tail_there j sized there w =
    let c : List ℕ = word j sized there w ++ (addresses j sized there w ++ network j sized there w) in
    let n : ℕ = joining_size j + 5 * 2048 + 32768 in
    let long : suc (length c) ≡ joining_size j = omega (arith, joining_bytes_length j sized there w) in
    let small : joining_size j < 2048 = omega (arith, flag_small j.proxied, w.few) in
    let d : Descriptor 11 (n % 256) (n / 256 % 256) (suc (length c)) 5 1 = rw long (describes 11 (joining_size j) 5 1 n (omega arith) (omega (arith, small)) small (omega arith)) in
    let list : PayloadElements (n % 256 ∷ n / 256 % 256 ∷ 2 ∷ c) (record { kind = 258; content = c } ∷ []) = rw (append-nil c) at (payload_element (n % 256) (n / 256 % 256) 5 (2 ∷ c) d (λ (z : ◌≡◌ {A = ℕ} 5 15). omega arith) (ietf_element 2 c) bytes_end) in
    record {
      found = record { kind = 258; content = c } ∷ [];
      list = subst (λ xs. PayloadElements xs (record { kind = 258; content = c } ∷ [])) (bytes_are j sized there w) list;
      says = joining_content j sized there w;
      others = λ k l. sym (if_ne_lem _ _ 258 k (λ (z : 258 ≡ k). omega arith) refl);
    }

tail_none : (j : JoiningInformation) → j.present ≡ false → j ≡ blank_beacon.joining → Tail j
unfolding joining_bytes if_on contents
tail_none j none blank = record { found = []; list = rw none bytes_end; says = rw blank absent; others = λ k l. refl }

-- ---- the frame
module _ (b : Beacon) (ok : Writable b) where
  limits : Within b
  limits = within_limits b ok.sized ok.within

  tail : Tail b.joining
  tail = by_test b.joining.present (λ e. tail_there b.joining ok.sized.network e (limits.present e)) (λ e. tail_none b.joining e (limits.absent e))

  abbrev c₁ : List ℕ
  c₁ = le_bytes 5 b.synchronization.asn ++ le_bytes 1 b.synchronization.metric

  abbrev c₂ : List ℕ
  c₂ = content b.timeslot ok.sized.timings limits.timeslot

  abbrev c₄ : List ℕ
  c₄ = slotframe_bytes_lem b.slotframe ok.sized.links limits.slotframe

  abbrev inside : List Element
  inside = record { kind = 26; content = c₁ } ∷ record { kind = 28; content = c₂ } ∷ record { kind = 137; content = b.hopping ∷ [] } ∷ record { kind = 27; content = c₄ } ∷ []

  abbrev group_content : List ℕ
  group_content = synchronization_bytes b.synchronization ++ (template_bytes b.timeslot ++ (hopping_bytes b.hopping ++ slotframe_bytes b.slotframe))

  template_length : length c₂ ≡ template_size b.timeslot
  unfolding template_bytes short_descriptor le_bytes
  template_length = omega (arith, length_template b.timeslot ok.sized.timings)

  subs : SubElements group_content inside
  unfolding synchronization_bytes template_bytes hopping_bytes slotframe_bytes le_bytes
  subs =
      let w = limits in
      let four = short_sub 27 (5 + 5 * b.slotframe.count) c₄ [] [] (omega arith) (slotframe_length b.slotframe ok.sized.links w.slotframe) (omega (arith, w.slotframe.few)) group_end in
      let four' : SubElements (slotframe_bytes b.slotframe) (record { kind = 27; content = c₄ } ∷ []) = rw (append-nil (slotframe_bytes b.slotframe)) at four in
      let three : SubElements (hopping_bytes b.hopping ++ slotframe_bytes b.slotframe) (record { kind = 137; content = b.hopping ∷ [] } ∷ record { kind = 27; content = c₄ } ∷ []) =
      rw (byte b.hopping w.hopping) (long_sub 9 1 (b.hopping ∷ []) (slotframe_bytes b.slotframe) _ (omega arith) refl (omega arith) four') in
      short_sub 26 6 c₁ _ _ (omega arith) refl (omega arith) (short_sub 28 (template_size b.timeslot) c₂ _ _ (omega arith) template_length (omega (arith, template_small b.timeslot)) three)

  abbrev found : List Element
  found = inside ++ tail.found

  payload : PayloadElements (group_bytes b.synchronization b.timeslot b.hopping b.slotframe ++ joining_bytes b.joining) found
  unfolding group_bytes group_descriptor group_size le_bytes
  payload =
      let size : ℕ = group_size b.timeslot b.slotframe.count in
      let n : ℕ = size + 1 * 2048 + 32768 in
      let long : length group_content ≡ size = omega (arith, length_group b.synchronization b.timeslot b.hopping b.slotframe ok.sized.timings ok.sized.links limits.slotframe.few) in
      let small : size < 2048 = omega (arith, template_small b.timeslot, limits.slotframe.few) in
      let d : Descriptor 11 (n % 256) (n / 256 % 256) (length group_content) 1 1 = rw long (describes 11 size 1 1 n (omega arith) (omega (arith, small)) small (omega arith)) in
      payload_element (n % 256) (n / 256 % 256) 1 group_content d (λ (z : ◌≡◌ {A = ℕ} 1 15). omega arith) (mlme subs) tail.list

  says : Says found b
  unfolding contents if_eq
  says = record {
    synchronization = (c₁, rw (tail.others 26 (omega arith)), synchronization_row b.synchronization limits.synchronization);
    timeslot = (c₂, rw (tail.others 28 (omega arith)), template_content b.timeslot ok.sized.timings limits.timeslot);
    hopping = (b.hopping ∷ [], rw (tail.others 137 (omega arith)), refl);
    slotframe = (c₄, rw (tail.others 27 (omega arith)), slotframe_content b.slotframe ok.sized.links limits.slotframe);
    joining = tail.says;
  }

  pub derived : Accepts (frame_of b) b
  unfolding frame_of header_descriptor le_bytes
  derived = record {
    fields = mac_header_bytes b.sequence b.pan b.source;
    header = [];
    low = 0;
    high = 63;
    payload = group_bytes b.synchronization b.timeslot b.hopping b.slotframe ++ joining_bytes b.joining;
    found = found;
    at_most_125 = ok.short;
    stands = refl;
    opens = opens b.sequence b.pan b.source limits.sequence limits.pan limits.source;
    skips = header_end;
    follows = describes 7 0 126 0 16128 refl (omega arith) (omega arith) (omega arith);
    lists = payload;
    says = says;
  }
