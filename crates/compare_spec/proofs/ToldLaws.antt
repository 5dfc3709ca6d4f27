-- A record whose unused parts are blank is told by the contents of its fields: what makes a record of contents gives that record back, part by
-- part. Assumes nothing.
use Prim.Native.Nat.{ℕ, zero, suc, ◌+◌, ◌*◌, ◌-◌, ◌<◌, ◌≤◌}
use mathlib.Core.Path.{◌≡◌, refl, sym, ◌∙◌, ap, ap₂}
use mathlib.Core.Bool.{Bool, true, false, ◌&&◌, true≢false}
use mathlib.Core.List.{List, [], ◌∷◌, ◌++◌}
use native.Mathlib.Omega.{arith}
use borrow.Author.Tests.{ltb-false}
use lib.Dec.{ltb, eqb}
use lib.ListN.{length, get_or, take, drop, get_or-replicate}
use lib.Seq.{take-suc, take_all, get_or-drop}
use Rattle.octets_spec.specs.Choice.{if_on, if_eq}
use Rattle.octets_spec.specs.Counted.{counted}
use Rattle.mac_header_spec.specs.declared.SequenceNumber.{SequenceNumber}
use Rattle.mac_header_spec.specs.declared.SequenceNumber.TheVariants.{Absent, Number}
use Rattle.mac_header_spec.specs.declared.Address.{Address}
use Rattle.mac_header_spec.specs.declared.Address.TheVariants.{Short, Extended}
use Rattle.eb_record_spec.specs.declared.TimeslotTemplate.{TimeslotTemplate}
use Rattle.eb_record_spec.specs.declared.Link.{Link}
use Rattle.eb_record_spec.specs.declared.Slotframe.{Slotframe}
use Rattle.eb_record_spec.specs.declared.JoiningInformation.{JoiningInformation}
use Rattle.eb_record_spec.specs.declared.Beacon.{Beacon}
use Rattle.eb_record_spec.specs.Record.{blank_link, blank_joining}
use Rattle.eb_fields_spec.specs.declared.Content.{Content}
use Rattle.eb_fields_spec.specs.Content.{absent_kind, number_kind, short_kind, absent_content, number_content, address_content, octets_content, sequence_content, content_if, flag_content}
use Rattle.eb_fields_spec.specs.Fields.{timing_content, link_at, link_content, fields, content_at}
use Rattle.eb_round_trip_spec.specs.ReadBack.{Sized}
use Rattle.eb_round_trip_spec.proofs.Fitting.{TemplateWithin, SlotframeWithin, Within}

-- ---- a record of contents
abbrev sequence_of : Content → SequenceNumber
sequence_of content = if_eq content.kind absent_kind Absent (Number content.number)

abbrev source_of : Content → Address
source_of content = if_eq content.kind short_kind (Short content.number) (Extended content.number)

-- whether a field that has a number is there
abbrev is_there : Content → Bool
is_there content = eqb content.kind number_kind

abbrev flag_of : Content → Bool
flag_of content = eqb content.number 1

-- the link whose three contents stand from this place on
abbrev link_of : (ℕ → Content) → ℕ → Link
link_of at place = record { timeslot = (at place).number; channel_offset = (at (place + 1)).number; options = (at (place + 2)).number }

-- the record whose field at each place has this content
abbrev pub record_of : (ℕ → Content) → Beacon
record_of at = record {
  sequence = sequence_of (at 0);
  pan = (at 1).number;
  source = source_of (at 2);
  synchronization = record { asn = (at 3).number; metric = (at 4).number };
  timeslot = record { id = (at 5).number; timed = is_there (at 6); timings = counted (λ i. (at (6 + i)).number) 12 };
  hopping = (at 18).number;
  slotframe = record { handle = (at 19).number; size = (at 20).number; count = (at 21).number; links = counted (λ i. link_of at (22 + 3 * i)) 16 };
  joining = record {
    present = is_there (at 70);
    router = flag_of (at 70);
    proxied = flag_of (at 71);
    proxy = (at 72).number;
    rank = (at 73).number;
    pan = (at 74).number;
    address = (at 75).number;
    length = (at 76).length;
    network = (at 76).octets;
  };
}

-- ---- a field that may be absent: a part of its content is the value, there or not
abbrev number_in : Content → ℕ
number_in content = content.number

module _ {X : Type 0} (part : Content → X) (content : Content) (value : X) (present : part content ≡ value) where
  part_told : (there : Bool) → (there ≡ false → value ≡ part absent_content) → part (content_if there content) ≡ value
  unfolding content_if if_on
  part_told true absent = present
  part_told false absent = sym (absent refl)

number_told : (there : Bool) (value : ℕ) → (there ≡ false → value ≡ 0) → number_in (content_if there (number_content value)) ≡ value
unfolding number_content absent_content
number_told there value = part_told number_in (number_content value) value refl there

flag_told : (there set : Bool) → (there ≡ false → set ≡ false) → flag_of (content_if there (flag_content set)) ≡ set
unfolding flag_content number_content absent_content if_on
flag_told there true = part_told flag_of (flag_content true) true refl there
flag_told there false = part_told flag_of (flag_content false) false refl there

-- that it is there, too
there_told : (there : Bool) (value : ℕ) → is_there (content_if there (number_content value)) ≡ there
unfolding number_content absent_content content_if if_on
there_told true value = refl
there_told false value = refl

-- ---- a list that is counted out entry by entry is that list
module _ {A : Type 0} (f : ℕ → A) (blank : A) (xs : List A) where
  counted_front : (n : ℕ) → n ≤ length xs → ((i : ℕ) → i < n → f i ≡ get_or xs i blank) → counted f n ≡ take n xs
  unfolding counted
  counted_front zero inside same = refl
  counted_front (suc n) inside same =
      ap₂ (λ (front : List A) (entry : A). front ++ (entry ∷ [])) (counted_front n (omega arith) (λ i l. same i (omega arith))) (same n (omega arith)) ∙ sym (take-suc xs n blank (omega arith))

  counted_is : (n : ℕ) → length xs ≡ n → ((i : ℕ) → i < n → f i ≡ get_or xs i blank) → counted f n ≡ xs
  counted_is n long same = counted_front n (omega arith) same ∙ take_all n xs (omega arith)

-- ---- the MAC header
sequence_told : (sequence : SequenceNumber) → sequence_of (sequence_content sequence) ≡ sequence
unfolding sequence_content absent_content number_content if_eq
sequence_told Absent = refl
sequence_told (Number value) = refl

source_told : (source : Address) → source_of (address_content source) ≡ source
unfolding address_content if_eq
source_told (Short value) = refl
source_told (Extended value) = refl

-- ---- timeslot
abbrev template_back : TimeslotTemplate → TimeslotTemplate
template_back t = record { id = t.id; timed = is_there (timing_content t 0); timings = counted (λ i. number_in (timing_content t i)) 12 }

module _ (t : TimeslotTemplate) (long : length t.timings ≡ 12) (within : TemplateWithin t) where
  -- without timings each of them is 0
  no_timing : (i : ℕ) → i < 12 → t.timed ≡ false → get_or t.timings i 0 ≡ 0
  no_timing i l off = ap (λ (ns : List ℕ). get_or ns i 0) (within.bare off).1 ∙ get_or-replicate 12 i 0 0 l

  timings_told : counted (λ i. number_in (timing_content t i)) 12 ≡ t.timings
  unfolding timing_content
  timings_told = counted_is (λ i. number_in (timing_content t i)) 0 t.timings 12 long (λ i l. number_told t.timed (get_or t.timings i 0) (no_timing i l))

  template_told : template_back t ≡ t
  unfolding timing_content
  template_told = λ k. record { id = t.id; timed = there_told t.timed (get_or t.timings 0 0) k; timings = timings_told k }

-- ---- slotframe and link
abbrev link_back : Slotframe → ℕ → Link
link_back f i = record {
  timeslot = number_in (link_content f i (link_at f i).timeslot);
  channel_offset = number_in (link_content f i (link_at f i).channel_offset);
  options = number_in (link_content f i (link_at f i).options);
}

abbrev slotframe_back : Slotframe → Slotframe
slotframe_back f = record { handle = f.handle; size = f.size; count = f.count; links = counted (link_back f) 16 }

module _ (f : Slotframe) (long : length f.links ≡ 16) (within : SlotframeWithin f) where
  -- a link behind the last is blank
  no_link : (i : ℕ) → i < 16 → ltb i f.count ≡ false → link_at f i ≡ blank_link
  no_link i l off =
      let behind : f.count ≤ i = ltb-false i f.count off in
      let e : f.count + (i - f.count) ≡ i = omega arith in
      let there : get_or (drop f.count f.links) (i - f.count) blank_link ≡ blank_link =
      ap (λ (ls : List Link). get_or ls (i - f.count) blank_link) within.unused ∙ get_or-replicate (16 - f.count) (i - f.count) blank_link blank_link (omega arith) in
      rw e at (sym (get_or-drop f.count f.links (i - f.count) blank_link) ∙ there)

  -- a number of a link, whichever
  link_number_lem : (part : Link → ℕ) → part blank_link ≡ 0 → (i : ℕ) → i < 16 → number_in (link_content f i (part (link_at f i))) ≡ part (link_at f i)
  unfolding link_content
  link_number_lem part blank i l = number_told (ltb i f.count) (part (link_at f i)) (λ off. ap part (no_link i l off) ∙ blank)

  link_told : (i : ℕ) → i < 16 → link_back f i ≡ link_at f i
  link_told i l = λ k. record {
    timeslot = link_number_lem (λ (link : Link). link.timeslot) refl i l k;
    channel_offset = link_number_lem (λ (link : Link). link.channel_offset) refl i l k;
    options = link_number_lem (λ (link : Link). link.options) refl i l k;
  }

  slotframe_told : slotframe_back f ≡ f
  slotframe_told = λ k. record { handle = f.handle; size = f.size; count = f.count; links = counted_is (link_back f) blank_link f.links 16 long link_told k }

-- ---- joining information
abbrev joining_back : JoiningInformation → JoiningInformation
joining_back j = record {
  present = is_there (content_if j.present (flag_content j.router));
  router = flag_of (content_if j.present (flag_content j.router));
  proxied = flag_of (content_if j.present (flag_content j.proxied));
  proxy = number_in (content_if j.present (number_content j.proxy));
  rank = number_in (content_if j.present (number_content j.rank));
  pan = number_in (content_if j.present (number_content j.pan));
  address = number_in (content_if (j.present && j.proxied) (address_content (Extended j.address)));
  length = (content_if j.present (octets_content j.length j.network)).length;
  network = (content_if j.present (octets_content j.length j.network)).octets;
}

module _ (j : JoiningInformation) (unproxied : j.present ≡ true → j.proxied ≡ false → j.address ≡ 0) (absent : j.present ≡ false → j ≡ blank_joining) where
  -- where there is none, each part is blank
  blank : {X : Type 0} (part : JoiningInformation → X) → j.present ≡ false → part j ≡ part blank_joining
  blank part off = ap part (absent off)

  no_address : (present proxied : Bool) → j.present ≡ present → j.proxied ≡ proxied → present && proxied ≡ false → j.address ≡ 0
  no_address true true there on off = absurd (true≢false off)
  no_address true false there on off = unproxied there on
  no_address false proxied there on off = blank (λ (j : JoiningInformation). j.address) there

  joining_told : joining_back j ≡ j
  unfolding flag_content address_content octets_content absent_content
  joining_told =
      let network : Content = octets_content j.length j.network in
      λ k. record {
        present = there_told j.present (if_on j.router 1 0) k;
        router = flag_told j.present j.router (blank (λ (j : JoiningInformation). j.router)) k;
        proxied = flag_told j.present j.proxied (blank (λ (j : JoiningInformation). j.proxied)) k;
        proxy = number_told j.present j.proxy (blank (λ (j : JoiningInformation). j.proxy)) k;
        rank = number_told j.present j.rank (blank (λ (j : JoiningInformation). j.rank)) k;
        pan = number_told j.present j.pan (blank (λ (j : JoiningInformation). j.pan)) k;
        address = part_told number_in (address_content (Extended j.address)) j.address refl (j.present && j.proxied) (no_address j.present j.proxied refl refl) k;
        length = part_told (λ (content : Content). content.length) network j.length refl j.present (blank (λ (j : JoiningInformation). j.length)) k;
        network = part_told (λ (content : Content). content.octets) network j.network refl j.present (blank (λ (j : JoiningInformation). j.network)) k;
      }

-- ---- the record
pub told : (b : Beacon) → Sized b → Within b → record_of (content_at b) ≡ b
unfolding content_at fields counted number_content
told b sized within = λ k. record {
  sequence = sequence_told b.sequence k;
  pan = b.pan;
  source = source_told b.source k;
  synchronization = b.synchronization;
  timeslot = template_told b.timeslot sized.timings within.timeslot k;
  hopping = b.hopping;
  slotframe = slotframe_told b.slotframe sized.links within.slotframe k;
  joining = joining_told b.joining (λ there. (within.present there).unproxied) within.absent k;
}
