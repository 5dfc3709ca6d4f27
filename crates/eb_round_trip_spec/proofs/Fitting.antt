-- What it says that a record is within the limits, element by element and by name. Assumes nothing.
use Prim.Native.Nat.{ℕ, zero, suc, ◌-◌, ◌^◌, ◌<◌}
use mathlib.Core.Path.{◌≡◌, refl, ◌∙◌}
use mathlib.Core.Bool.{Bool, true, false, not, ◌&&◌, and-eq-true_iff}
use mathlib.Core.List.{List, [], ◌∷◌}
use native.Mathlib.Omega.{arith}
use borrow.Author.Tests.{ltb-true, eqb-true, not-true}
use lib.Dec.{ltb, eqb}
use lib.ListN.{length, get_or, take, drop, replicate, length-drop}
use lib.Seq.{get_or-take, length-take-le}
use Rattle.octets_spec.specs.Choice.{if_on}
use Rattle.eb_record_spec.specs.Record.{blank_link, blank_beacon}
use Rattle.eb_record_spec.specs.declared.Synchronization.{Synchronization}
use Rattle.eb_record_spec.specs.declared.TimeslotTemplate.{TimeslotTemplate}
use Rattle.eb_record_spec.specs.declared.Link.{Link}
use Rattle.eb_record_spec.specs.declared.Slotframe.{Slotframe}
use Rattle.eb_record_spec.specs.declared.JoiningInformation.{JoiningInformation}
use Rattle.eb_record_spec.specs.declared.Beacon.{Beacon}
use Rattle.eb_write_spec.specs.Limits.{all_of, all_below, sequence_fits, synchronization_fits, template_fits, link_fits, link_unused, slotframe_fits, proxy_fits, present_fits, absent_fits, joining_fits, fits}
use Rattle.eb_record_spec.specs.Form.{address_fits}
use Rattle.eb_round_trip_spec.specs.ReadBack.{Sized}

-- each test of a row of them
abbrev every : List Bool → Bool
every [] = true
every (t ∷ []) = t
every (t ∷ u ∷ ts) = t && every (u ∷ ts)

each : (ts : List Bool) → every ts ≡ true → (i : ℕ) → get_or ts i true ≡ true
each [] h i = refl
each (t ∷ []) h zero = h
each (t ∷ []) h (suc i) = refl
each (t ∷ u ∷ ts) h zero = ((and-eq-true_iff t (every (u ∷ ts))).0 h).0
each (t ∷ u ∷ ts) h (suc i) = each (u ∷ ts) ((and-eq-true_iff t (every (u ∷ ts))).0 h).1 i

-- the part of a choice that counts
pub on_on : (test x y : Bool) → if_on test x y ≡ true → test ≡ true → x ≡ true
unfolding if_on
on_on test x y h e = rw e at h

off_on : (test x y : Bool) → if_on test x y ≡ true → test ≡ false → y ≡ true
unfolding if_on
off_on test x y h e = rw e at h

-- ---- what a test of every entry says
module _ {A : Type 0} (test : A → Bool) where
  all_at : (xs : List A) (blank : A) (i : ℕ) → i < length xs → all_of test xs ≡ true → test (get_or xs i blank) ≡ true
  unfolding all_of
  all_at [] blank i l h = absurd (omega arith)
  all_at (x ∷ xs) blank zero l h = ((and-eq-true_iff (test x) (all_of test xs)).0 h).0
  all_at (x ∷ xs) blank (suc i) l h = all_at xs blank i (omega arith) ((and-eq-true_iff (test x) (all_of test xs)).0 h).1

  all_blank : (blank : A) → ((x : A) → test x ≡ true → x ≡ blank) → (xs : List A) → all_of test xs ≡ true → xs ≡ replicate (length xs) blank
  unfolding all_of
  all_blank blank one [] h = refl
  all_blank blank one (x ∷ xs) h =
      let k = (and-eq-true_iff (test x) (all_of test xs)).0 h in
      rw (one x k.0, ← all_blank blank one xs k.1)

pub below_at : (bound : ℕ) (ns : List ℕ) (i : ℕ) → i < length ns → all_below bound ns ≡ true → get_or ns i 0 < bound
unfolding all_below
below_at bound ns i l h = ltb-true _ _ (all_at (λ n. ltb n bound) ns 0 i l h)

zero_below_1 : (n : ℕ) → ltb n 1 ≡ true → n ≡ 0
zero_below_1 n t = let l : n < 1 = ltb-true n 1 t in omega arith

zeros : (ns : List ℕ) → all_below 1 ns ≡ true → ns ≡ replicate (length ns) 0
unfolding all_below
zeros = all_blank (λ n. ltb n 1) 0 zero_below_1

-- what is behind the first n entries of an array, if it is unused
module _ {A : Type 0} (test : A → Bool) (blank : A) (one : (x : A) → test x ≡ true → x ≡ blank) where
  unused_is : (l : List A) (size n : ℕ) → length l ≡ size → all_of test (drop n l) ≡ true → drop n l ≡ replicate (size - n) blank
  unused_is l size n sized h =
      let e : length (drop n l) ≡ size - n = omega (arith, length-drop n l) in
      all_blank test blank one (drop n l) h ∙ rw e

-- ---- synchronization
pub record SynchronizationWithin (y : Synchronization) : Type 0 where
  pub asn : y.asn < 2 ^ 40
  pub metric : y.metric < 256

synchronization_within : (y : Synchronization) → synchronization_fits y ≡ true → SynchronizationWithin y
unfolding synchronization_fits
synchronization_within y h =
    let k = each (ltb y.asn (2 ^ 40) ∷ ltb y.metric 256 ∷ []) h in
    record { asn = ltb-true _ _ (k 0); metric = ltb-true _ _ (k 1) }

-- ---- timeslot
pub record TemplateWithin (t : TimeslotTemplate) : Type 0 where
  pub id : t.id < 256
  pub bare : t.timed ≡ false → (t.id ≡ 0) × (t.timings ≡ replicate 12 0)
  pub early : t.timed ≡ true → (i : ℕ) → i < 10 → get_or t.timings i 0 < 2 ^ 16
  pub late : t.timed ≡ true → all_below (2 ^ 24) (drop 10 t.timings) ≡ true

template_within : (t : TimeslotTemplate) → length t.timings ≡ 12 → template_fits t ≡ true → TemplateWithin t
unfolding template_fits
template_within t sized h =
    let bare : Bool = eqb t.id 0 && all_below 1 t.timings in
    let timed : Bool = all_below (2 ^ 16) (take 10 t.timings) && all_below (2 ^ 24) (drop 10 t.timings) in
    let k = each (ltb t.id 256 ∷ if_on t.timed timed bare ∷ []) h in
    let first : length (take 10 t.timings) ≡ 10 = length-take-le 10 t.timings (omega arith) in
    record {
      id = ltb-true _ _ (k 0);
      bare = λ e. let u = (and-eq-true_iff (eqb t.id 0) (all_below 1 t.timings)).0 (off_on t.timed timed bare (k 1) e) in (eqb-true _ _ u.0, zeros t.timings u.1 ∙ rw sized);
      early = λ e i l. rw (get_or-take 10 t.timings i 0 l) at (below_at (2 ^ 16) (take 10 t.timings) i (omega arith) ((and-eq-true_iff _ (all_below (2 ^ 24) (drop 10 t.timings))).0 (on_on t.timed timed bare (k 1) e)).0);
      late = λ e. ((and-eq-true_iff (all_below (2 ^ 16) (take 10 t.timings)) _).0 (on_on t.timed timed bare (k 1) e)).1;
    }

-- ---- slotframe
pub record LinkWithin (size : ℕ) (l : Link) : Type 0 where
  pub timeslot : l.timeslot < size
  pub channel_offset : l.channel_offset < 2 ^ 16
  pub options : l.options < 256

link_within : (size : ℕ) (l : Link) → link_fits size l ≡ true → LinkWithin size l
unfolding link_fits
link_within size l h =
    let k = each (ltb l.timeslot size ∷ ltb l.channel_offset (2 ^ 16) ∷ ltb l.options 256 ∷ []) h in
    record { timeslot = ltb-true _ _ (k 0); channel_offset = ltb-true _ _ (k 1); options = ltb-true _ _ (k 2) }

link_unused_lem : (l : Link) → link_unused l ≡ true → l ≡ blank_link
unfolding link_unused
link_unused_lem l h =
    let k = each (eqb l.timeslot 0 ∷ eqb l.channel_offset 0 ∷ eqb l.options 0 ∷ []) h in
    let e : ◌≡◌ {A = Link} (record { timeslot = l.timeslot; channel_offset = l.channel_offset; options = l.options }) blank_link =
    rw (eqb-true l.timeslot 0 (k 0), eqb-true l.channel_offset 0 (k 1), eqb-true l.options 0 (k 2)) in
    e

pub record SlotframeWithin (f : Slotframe) : Type 0 where
  pub handle : f.handle < 256
  pub positive : 0 < f.size
  pub size : f.size < 2 ^ 16
  pub some : 0 < f.count
  pub few : f.count < 17
  pub used : (i : ℕ) → i < f.count → LinkWithin f.size (get_or f.links i blank_link)
  pub unused : drop f.count f.links ≡ replicate (16 - f.count) blank_link

abbrev slotframe_tests : Slotframe → List Bool
slotframe_tests f =
    ltb f.handle 256 ∷ ltb 0 f.size ∷ ltb f.size (2 ^ 16) ∷ ltb 0 f.count ∷ ltb f.count 17
    ∷ all_of (link_fits f.size) (take f.count f.links) ∷ all_of link_unused (drop f.count f.links) ∷ []

slotframe_each : (f : Slotframe) → slotframe_fits f ≡ true → (i : ℕ) → get_or (slotframe_tests f) i true ≡ true
unfolding slotframe_fits
slotframe_each f = each (slotframe_tests f)

pub count_within : (f : Slotframe) → slotframe_fits f ≡ true → (0 < f.count) × (f.count < 17)
count_within f h = (ltb-true _ _ (slotframe_each f h 3), ltb-true _ _ (slotframe_each f h 4))

slotframe_within : (f : Slotframe) → length f.links ≡ 16 → slotframe_fits f ≡ true → SlotframeWithin f
slotframe_within f sized h =
    let k = slotframe_each f h in
    let few : f.count < 17 = (count_within f h).1 in
    let first : length (take f.count f.links) ≡ f.count = length-take-le f.count f.links (omega arith) in
    record {
      handle = ltb-true _ _ (k 0);
      positive = ltb-true _ _ (k 1);
      size = ltb-true _ _ (k 2);
      some = (count_within f h).0;
      few = few;
      used = λ i l. link_within f.size _ (rw (get_or-take f.count f.links i blank_link l) at (all_at (link_fits f.size) (take f.count f.links) blank_link i (omega arith) (k 5)));
      unused = unused_is link_unused blank_link link_unused_lem f.links 16 f.count sized (k 6);
    }

-- ---- joining information
pub record PresentWithin (j : JoiningInformation) : Type 0 where
  pub proxy : j.proxy < 128
  pub rank : j.rank < 4096
  pub pan : j.pan < 256
  pub proxied : j.proxied ≡ true → j.address < 2 ^ 64
  pub unproxied : j.proxied ≡ false → j.address ≡ 0
  pub few : j.length < 17
  pub unused : drop j.length j.network ≡ replicate (16 - j.length) 0

present_within : (j : JoiningInformation) → length j.network ≡ 16 → present_fits j ≡ true → PresentWithin j
unfolding present_fits proxy_fits all_below
present_within j sized h =
    let k = each (ltb j.proxy 128 ∷ ltb j.rank 4096 ∷ ltb j.pan 256 ∷ proxy_fits j ∷ ltb j.length 17 ∷ all_below 256 (take j.length j.network) ∷ all_below 1 (drop j.length j.network) ∷ []) h in
    record {
      proxy = ltb-true _ _ (k 0);
      rank = ltb-true _ _ (k 1);
      pan = ltb-true _ _ (k 2);
      proxied = λ e. ltb-true _ _ (on_on j.proxied (ltb j.address (2 ^ 64)) (eqb j.address 0) (k 3) e);
      unproxied = λ e. eqb-true _ _ (off_on j.proxied (ltb j.address (2 ^ 64)) (eqb j.address 0) (k 3) e);
      few = ltb-true _ _ (k 4);
      unused = unused_is (λ n. ltb n 1) 0 zero_below_1 j.network 16 j.length sized (k 6);
    }

absent_within : (j : JoiningInformation) → length j.network ≡ 16 → absent_fits j ≡ true → j.present ≡ false → j ≡ blank_beacon.joining
unfolding absent_fits
absent_within j sized h e =
    let k = each (not j.router ∷ not j.proxied ∷ eqb j.proxy 0 ∷ eqb j.rank 0 ∷ eqb j.pan 0 ∷ eqb j.address 0 ∷ eqb j.length 0 ∷ all_below 1 j.network ∷ []) h in
    let unused : j.network ≡ replicate 16 0 = zeros j.network (k 7) ∙ rw sized in
    let is : ◌≡◌ {A = JoiningInformation} (record { present = j.present; router = j.router; proxied = j.proxied; proxy = j.proxy; rank = j.rank; pan = j.pan; address = j.address; length = j.length; network = j.network }) blank_beacon.joining =
    rw (e, not-true j.router (k 0), not-true j.proxied (k 1), eqb-true j.proxy 0 (k 2), eqb-true j.rank 0 (k 3), eqb-true j.pan 0 (k 4), eqb-true j.address 0 (k 5), eqb-true j.length 0 (k 6), unused) in
    is

-- ---- the record
pub record Within (b : Beacon) : Type 0 where
  pub sequence : sequence_fits b.sequence ≡ true
  pub pan : b.pan < 2 ^ 16
  pub source : address_fits b.source ≡ true
  pub synchronization : SynchronizationWithin b.synchronization
  pub timeslot : TemplateWithin b.timeslot
  pub hopping : b.hopping < 256
  pub slotframe : SlotframeWithin b.slotframe
  pub present : b.joining.present ≡ true → PresentWithin b.joining
  pub absent : b.joining.present ≡ false → b.joining ≡ blank_beacon.joining

pub within_limits : (b : Beacon) → Sized b → fits b ≡ true → Within b
unfolding fits joining_fits
within_limits b sized h =
    let k = each (sequence_fits b.sequence ∷ ltb b.pan (2 ^ 16) ∷ address_fits b.source ∷ synchronization_fits b.synchronization ∷ template_fits b.timeslot ∷ ltb b.hopping 256 ∷ slotframe_fits b.slotframe ∷ joining_fits b.joining ∷ []) h in
    record {
      sequence = k 0;
      pan = ltb-true _ _ (k 1);
      source = k 2;
      synchronization = synchronization_within b.synchronization (k 3);
      timeslot = template_within b.timeslot sized.timings (k 4);
      hopping = ltb-true _ _ (k 5);
      slotframe = slotframe_within b.slotframe sized.links (k 6);
      present = λ e. present_within b.joining sized.network (on_on b.joining.present (present_fits b.joining) (absent_fits b.joining) (k 7) e);
      absent = λ e. absent_within b.joining sized.network (off_on b.joining.present (present_fits b.joining) (absent_fits b.joining) (k 7) e) e;
    }
