-- The length of a frame is the formula, for records whose arrays have their sizes. Assumes nothing.
use Prim.Native.Nat.{ℕ, zero, suc, ◌+◌, ◌*◌, ◌/◌, ◌<◌, min}
use mathlib.Core.Path.{◌≡◌, refl, sym, ◌∙◌, ap}
use mathlib.Core.Bool.{Bool, true, false, and-false}
use mathlib.Core.List.{List, [], ◌∷◌, ◌++◌}
use native.Mathlib.Nat.{mul-zero, mul-suc}
use native.Mathlib.Omega.{arith}
use borrow.Author.Tests.{ltb-true}
use lib.Dec.{ltb}
use lib.ListN.{length, get_or, take, drop, length-append, length-take, length-drop, drop_of_length-le}
use lib.Seq.{drop-cons}
use Rattle.octets_spec.specs.Choice.{if_on}
use Rattle.octets_spec.specs.Number.{le_bytes, be_bytes}
use Rattle.mac_header_spec.specs.declared.SequenceNumber.{SequenceNumber}
use Rattle.mac_header_spec.specs.declared.Address.{Address}
use Rattle.eb_record_spec.specs.declared.Synchronization.{Synchronization}
use Rattle.eb_record_spec.specs.declared.TimeslotTemplate.{TimeslotTemplate}
use Rattle.eb_record_spec.specs.declared.Link.{Link}
use Rattle.eb_record_spec.specs.declared.Slotframe.{Slotframe}
use Rattle.eb_record_spec.specs.declared.JoiningInformation.{JoiningInformation}
use Rattle.eb_record_spec.specs.declared.Beacon.{Beacon}
use Rattle.eb_write_spec.specs.Frame.{mac_header_bytes, sequence_bytes, address_bytes, header_descriptor, group_descriptor, short_descriptor, long_descriptor, numbers_in, synchronization_bytes, last_width, timings_bytes, template_size, template_bytes, hopping_bytes, link_bytes, links_bytes, slotframe_bytes, group_size, group_bytes, flag, joining_word, joining_size, joining_bytes, frame_of, frame_length}
use Rattle.eb_write_spec.specs.Limits.{slotframe_fits, present_fits, absent_fits, joining_fits, fits}

-- ---- a test that a row of `&&` stands on: were it off, so would be the row
pub on : (t : Bool) → (t ≡ false → false ≡ true) → t ≡ true
on true row = refl
on false row = row refl

below : (a b : ℕ) → (ltb a b ≡ false → false ≡ true) → a < b
below a b row = ltb-true a b (on (ltb a b) row)

-- ---- numbers
pub length_le : (width n : ℕ) → length (le_bytes width n) ≡ width
unfolding le_bytes
length_le zero n = refl
length_le (suc width) n = omega (arith, length_le width (n / 256))

pub length_be : (width n : ℕ) → length (be_bytes width n) ≡ width
unfolding be_bytes
length_be zero n = refl
length_be (suc width) n = omega (arith, length_be width n)

pub length_numbers : (width : ℕ) (ns : List ℕ) → length (numbers_in width ns) ≡ width * length ns
unfolding numbers_in
length_numbers width [] = sym (mul-zero width)
length_numbers width (n ∷ ns) = length-append (le_bytes width n) (numbers_in width ns) ∙ omega (arith, length_le width n, length_numbers width ns, mul-suc width (length ns))

pub last_two : (ns : List ℕ) → length ns ≡ 12 → drop 10 ns ≡ get_or ns 10 0 ∷ get_or ns 11 0 ∷ []
last_two ns twelve = drop-cons ns 10 0 (omega arith) ∙ ap (λ (l : List ℕ). get_or ns 10 0 ∷ l) (drop-cons ns 11 0 (omega arith) ∙ ap (λ (l : List ℕ). get_or ns 11 0 ∷ l) (drop_of_length-le ns {i = 12} (omega arith)))

-- ---- elements
module _ (y : Synchronization) where
  pub length_synchronization : length (synchronization_bytes y) ≡ 8
  unfolding synchronization_bytes short_descriptor
  length_synchronization = simp (length-append, length_le) refl

pub length_hopping : (id : ℕ) → length (hopping_bytes id) ≡ 3
unfolding hopping_bytes long_descriptor
length_hopping id = simp (length-append, length_le) refl

pub length_timings : (ns : List ℕ) → length ns ≡ 12 → length (timings_bytes ns) ≡ 20 + 2 * last_width (drop 10 ns)
unfolding timings_bytes
length_timings ns twelve =
    let ten : length (take 10 ns) ≡ 10 = omega (arith, length-take 10 ns) in
    let two : length (drop 10 ns) ≡ 2 = omega (arith, length-drop 10 ns) in
    simp (length-append, length_numbers, ten, two) (omega arith)

one_more : (ns : List ℕ) → length ns ≡ 12 → (timed : Bool) → length (if_on timed (timings_bytes ns) []) + 1 ≡ if_on timed (21 + 2 * last_width (drop 10 ns)) 1
unfolding if_on
one_more ns twelve true = omega (arith, length_timings ns twelve)
one_more ns twelve false = refl

pub length_template : (t : TimeslotTemplate) → length t.timings ≡ 12 → length (template_bytes t) ≡ 2 + template_size t
unfolding template_bytes template_size short_descriptor
length_template t twelve = simp (length-append, length_le) (omega (arith, one_more t.timings twelve t.timed))

pub length_links : (ls : List Link) → length (links_bytes ls) ≡ 5 * length ls
unfolding links_bytes link_bytes
length_links [] = refl
length_links (l ∷ ls) = simp (length-append, length_le) (omega (arith, length_links ls))

-- sixteen links at most are written, whatever number of links is
pub length_slotframe : (f : Slotframe) → length f.links ≡ 16 → length (slotframe_bytes f) ≡ 7 + 5 * min f.count 16
unfolding slotframe_bytes short_descriptor
length_slotframe f sixteen =
    let used : length (take f.count f.links) ≡ min f.count 16 = omega (arith, length-take f.count f.links) in
    simp (length-append, length_le, length_links, used) (omega arith)

module _ (y : Synchronization) (m : TimeslotTemplate) (id : ℕ) (f : Slotframe) (twelve : length m.timings ≡ 12) (sixteen : length f.links ≡ 16) where
  pub length_group_used : length (group_bytes y m id f) ≡ 2 + group_size m (min f.count 16)
  unfolding group_bytes group_size group_descriptor
  length_group_used =
      simp (length-append, length_le, length_synchronization, length_hopping) (omega (arith, length_template m twelve, length_slotframe f sixteen))

  pub length_group : f.count < 17 → length (group_bytes y m id f) ≡ 2 + group_size m f.count
  length_group few = let all : min f.count 16 ≡ f.count = omega arith in rw all at length_group_used

length_address : (proxied : Bool) (n : ℕ) → length (if_on proxied (be_bytes 8 n) []) ≡ 8 * flag proxied
unfolding if_on
length_address true n = length_be 8 n
length_address false n = refl

-- ---- what the limits say of the two numbers that count
pub few_links : (f : Slotframe) → slotframe_fits f ≡ true → f.count < 17
unfolding slotframe_fits
few_links f within = below f.count 17 (λ h. simp (h, and-false) at within)

pub short_network : (j : JoiningInformation) → present_fits j ≡ true → j.length < 17
unfolding present_fits
short_network j within = below j.length 17 (λ h. simp (h, and-false) at within)

-- ---- joining information, there or not
module _ (j : JoiningInformation) (sixteen : length j.network ≡ 16) where
  -- its group and subtype, its word, the address if there is one, and the network ID
  abbrev present_bytes : List ℕ
  present_bytes = group_descriptor 5 (joining_size j) ++ (le_bytes 1 2 ++ (be_bytes 4 (joining_word j) ++ (if_on j.proxied (be_bytes 8 j.address) [] ++ take j.length j.network)))

  length_present : j.length < 17 → length present_bytes ≡ 2 + joining_size j
  unfolding group_descriptor joining_size
  length_present few =
      let used : length (take j.length j.network) ≡ j.length = omega (arith, length-take j.length j.network) in
      simp (length-append, length_le, length_be, used, length_address) (omega arith)

  length_there : (there : Bool) → if_on there (present_fits j) (absent_fits j) ≡ true → length (if_on there present_bytes []) ≡ if_on there (2 + joining_size j) 0
  unfolding if_on
  length_there true within = length_present (short_network j within)
  length_there false within = refl

  pub length_joining : joining_fits j ≡ true → length (joining_bytes j) ≡ if_on j.present (2 + joining_size j) 0
  unfolding joining_bytes joining_fits
  length_joining = length_there j.present

-- ---- the frame
pub slotframe_on : (b : Beacon) → fits b ≡ true → slotframe_fits b.slotframe ≡ true
unfolding fits
slotframe_on b within = on (slotframe_fits b.slotframe) (λ h. simp (h, and-false) at within)

pub joining_on : (b : Beacon) → fits b ≡ true → joining_fits b.joining ≡ true
unfolding fits
joining_on b within = on (joining_fits b.joining) (λ h. simp (h, and-false) at within)

pub length_mac_header : (q : SequenceNumber) (pan : ℕ) (a : Address) → length (mac_header_bytes q pan a) ≡ 6 + length (sequence_bytes q) + length (address_bytes a)
unfolding mac_header_bytes
length_mac_header q pan a = simp (length-append, length_le) (omega arith)

pub length_frame : (b : Beacon) → length b.timeslot.timings ≡ 12 → length b.slotframe.links ≡ 16 → length b.joining.network ≡ 16 → fits b ≡ true → length (frame_of b) ≡ frame_length b
unfolding frame_of frame_length header_descriptor
length_frame b twelve sixteen bytes within =
    simp (length-append, length_le)
    (omega (arith, length_mac_header b.sequence b.pan b.source, length_group b.synchronization b.timeslot b.hopping b.slotframe twelve sixteen (few_links b.slotframe (slotframe_on b within)), length_joining b.joining bytes (joining_on b within)))
