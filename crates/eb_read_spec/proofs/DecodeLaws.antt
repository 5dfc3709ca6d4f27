-- The laws of decoding: each field and element from its bytes, with what was read as a variable. Assumes nothing.
use Prim.Native.Nat.{ℕ, ◌+◌, ◌-◌, ◌*◌, ◌/◌, ◌%◌, ◌<◌, min}
use mathlib.Core.Path.{◌≡◌, refl, ◌∙◌}
use mathlib.Core.Bool.{true, false}
use mathlib.Core.List.{List}
use lib.Dec.{eqb}
use lib.ListN.{get_or, replicate}
use Rattle.octets_spec.specs.Choice.{if_eq}
use Rattle.octets_spec.specs.Number.{le_at, be_at}
use Rattle.octets_spec.specs.Counted.{counted, padded}
use Rattle.octets_spec.proofs.ChoiceLaws.{if_lt_lem, if_eq_lem, if_ne_lem}
use Rattle.ie_walk_spec.specs.declared.Walk.{Walk}
use Rattle.eb_record_spec.specs.Record.{blank_link, blank_joining, blank_beacon}
use Rattle.mac_header_spec.specs.Fields.{mac_header_of, sequence_of, address_of}
use Rattle.mac_header_spec.specs.declared.SequenceNumber.{SequenceNumber}
use Rattle.mac_header_spec.specs.declared.Address.{Address}
use Rattle.eb_record_spec.specs.declared.Synchronization.{Synchronization}
use Rattle.eb_record_spec.specs.declared.TimeslotTemplate.{TimeslotTemplate}
use Rattle.eb_record_spec.specs.declared.Slotframe.{Slotframe}
use Rattle.eb_record_spec.specs.declared.JoiningInformation.{JoiningInformation}
use Rattle.eb_record_spec.specs.declared.Beacon.{Beacon}
use Rattle.eb_record_spec.specs.declared.Link.{Link}
use Rattle.eb_read_spec.specs.Decode.{synchronization_at, timing_at, template_at, link_at, slotframe_at, network_offset, joining_at, decoded}

module _ (s : List ℕ) where
  pub synchronizes : (at asn metric : ℕ) → asn ≡ le_at 5 s at → metric ≡ get_or s (at + 5) 0 → record { asn = asn; metric = metric } ≡ synchronization_at s at
  unfolding synchronization_at
  synchronizes at asn metric e f = rw (e, f)

  -- ---- timings
  module _ (at width k r : ℕ) where
    pub timing_two : k < 10 → r ≡ le_at 2 s (at + (1 + 2 * k)) → r ≡ timing_at s at width k
    unfolding timing_at
    timing_two h e = if_lt_lem _ _ k 10 h e

  -- ---- elements
  module _ (at id : ℕ) (i : id ≡ get_or s at 0) where
    pub template_bare : (size : ℕ) → size ≡ 1 → record { id = id; timed = false; timings = replicate 12 0 } ≡ template_at s at size
    unfolding template_at
    template_bare size h = if_eq_lem _ _ size 1 h (rw i)

    pub template_timed : (size width : ℕ) (all : List ℕ) → (size ≡ 1 → ⊥) → width ≡ if_eq size 27 3 2 → all ≡ counted (timing_at s at width) 12 → record { id = id; timed = true; timings = all } ≡ template_at s at size
    unfolding template_at
    template_timed size width all h e f = if_ne_lem _ _ size 1 h (rw (i, f, e))

  pub links_at : (at i timeslot offset options : ℕ) → timeslot ≡ le_at 2 s (at + (5 + 5 * i)) → offset ≡ le_at 2 s (at + (7 + 5 * i)) → options ≡ get_or s (at + (9 + 5 * i)) 0
      → record { timeslot = timeslot; channel_offset = offset; options = options } ≡ link_at s at i
  unfolding link_at
  links_at at i timeslot offset options e f g = rw (e, f, g)

  pub slotframe_is : (at handle size count : ℕ) (all : List Link) → count ≡ get_or s (at + 4) 0 → handle ≡ get_or s (at + 1) 0 → size ≡ le_at 2 s (at + 2) → all ≡ padded (link_at s at) blank_link 16 count
      → record { handle = handle; size = size; count = count; links = all } ≡ slotframe_at s at
  unfolding slotframe_at
  slotframe_is at handle size count all e f g h = rw (f, g, h, e)

  -- ---- joining information
  module _ (at word : ℕ) (w : word ≡ be_at 4 s at) where
    pub network_from : 4 + 8 * (word / 1073741824 % 2) ≡ network_offset s at
    unfolding network_offset
    network_from = rw w

  module _ (at to : ℕ) where
    pub joining_none : (b : Beacon) → b ≡ blank_beacon → at ≡ 0 → b.joining ≡ joining_at s at to
    unfolding joining_at
    joining_none b e h = if_eq_lem _ _ at 0 h (rw e)

    pub joining_absent : (j : JoiningInformation) → j ≡ blank_joining → at ≡ 0 → j ≡ joining_at s at to
    joining_absent j e h = e ∙ joining_none blank_beacon refl h

    pub joining_is : (word skip size address : ℕ) (all : List ℕ) → (at ≡ 0 → ⊥) → word ≡ be_at 4 s at → skip ≡ network_offset s at → size ≡ min (to - at - skip) 16
        → address ≡ if_eq (word / 1073741824 % 2) 1 (be_at 8 s (at + 4)) 0 → all ≡ padded (λ i. get_or s (at + (skip + i)) 0) 0 16 size
        → record {
          present = true;
          router = eqb (word / 2147483648 % 2) 1;
          proxied = eqb (word / 1073741824 % 2) 1;
          proxy = word / 1048576 % 128;
          rank = word / 256 % 4096;
          pan = word % 256;
          address = address;
          length = size;
          network = all;
        } ≡ joining_at s at to
    unfolding joining_at
    joining_is word skip size address all h e f g k m = if_ne_lem _ _ at 0 h (rw (k, m, g, f, e))

  -- ---- the whole
  pub decodes : (w : Walk) (sequence : SequenceNumber) (pan : ℕ) (source : Address) (y : Synchronization) (t : TimeslotTemplate) (size hopping : ℕ) (f : Slotframe) (j : JoiningInformation) → sequence ≡ sequence_of (mac_header_of s) → pan ≡ (mac_header_of s).pan
      → source ≡ address_of (mac_header_of s).control.source (mac_header_of s).source → y ≡ synchronization_at s w.synchronization
      → size ≡ w.timeslotend - w.timeslot → t ≡ template_at s w.timeslot size → hopping ≡ get_or s w.hopping 0 → f ≡ slotframe_at s w.slotframe → j ≡ joining_at s w.joining w.joiningend
      → record { sequence = sequence; pan = pan; source = source; synchronization = y; timeslot = t; hopping = hopping; slotframe = f; joining = j } ≡ decoded s w
  unfolding decoded
  decodes w sequence pan source y t size hopping f j a k m b c d e g h = rw (a, k, m, b, d, c, e, g, h)
