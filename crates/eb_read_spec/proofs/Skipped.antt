-- How many elements a walk skips: no more than there are bytes. Assumes nothing.
use Prim.Native.Nat.{ℕ, zero, suc, ◌+◌, ◌-◌, ◌*◌, ◌<◌, ◌≤◌, ◌^◌}
use native.Mathlib.Omega.{arith}
use mathlib.Core.Path.{◌≡◌, refl}
use mathlib.Core.List.{List, []}
use lib.ListN.{length}
use Rattle.octets_spec.proofs.ChoiceLaws.{by_lt, either_eq}
use Rattle.ie_step_spec.specs.Header.{header_at, header_within}
use Rattle.ie_step_spec.specs.declared.HeaderStep.{HeaderStep}
use Rattle.ie_step_spec.specs.declared.HeaderStep.TheVariants as header
use Rattle.ie_walk_spec.specs.Walk.{HeaderList, blank_walk, in_front, skip_one, stopped, header_go, header_list, skipped_over, payload_list}
use Rattle.ie_walk_spec.specs.declared.Walk.{Walk}
use Rattle.ie_walk_spec.specs.declared.HeaderListEnd.{HeaderListEnd}
use Rattle.ie_walk_spec.proofs.WalkLaws.{part_counts}
use Rattle.ie_walk_spec.proofs.ListLaws.{payload_past}
use Rattle.mac_header_spec.specs.Fields.{offsets_of, mac_header_of}
use Rattle.eb_read_spec.specs.Claims.{SkippedFitTheFrame}
use Rattle.eb_read_spec.specs.Read.{CountsBefore, walk_start, skipped_before, behind_header, elements_walk, examined}
use Rattle.eb_read_spec.specs.Read.{Examination}
use Rattle.eb_read_spec.proofs.Each.{each_eq}
use Rattle.eb_read_spec.proofs.Within.{header_within_lem}
use Rattle.eb_read_spec.proofs.Keeps.{Kept, list_keeps}

-- ---- the header list: its elements lie before the payload list
record HeaderFew (at end : ℕ) (list : HeaderList) : Type 0 where
  few : length list.elements ≤ end - at
  before : (list.payload ≡ 0 → ⊥) → (at + length list.elements ≤ list.payload) × (list.payload ≤ end)

none_few : (at end fault faulty : ℕ) → HeaderFew at end (record { elements = []; fault = fault; faulty = faulty; payload = 0 })
none_few at end fault faulty = record { few = omega arith; before = λ some. absurd (some refl) }

header_step : (bound : ℕ) (s : List ℕ) (at end : ℕ) → ((to : ℕ) → HeaderFew to end (header_go bound s to end)) → (o : HeaderStep) → header_at s at end ≡ o → header_within o at end → HeaderFew at end (header_go (suc bound) s at end)
unfolding header_go in_front
header_step bound s at end rest header.End e w = rw (e, header_go) (none_few at end _ _)
header_step bound s at end rest (header.Payload from) e w = rw (e, header_go) (record { few = omega arith; before = λ some. (omega (arith, w), w.1) })
header_step bound s at end rest (header.Element id from to) e w =
    rw (e, header_go) (record { few = omega (arith, w, (rest to).few); before = λ some. let behind = (rest to).before some in (omega (arith, w, behind.0), behind.1) })
header_step bound s at end rest (header.Fault refusal) e w = rw (e, header_go) (none_few at end _ _)

header_few : (bound : ℕ) (s : List ℕ) (at end : ℕ) → HeaderFew at end (header_go bound s at end)
unfolding header_go
header_few zero s at end = none_few at end _ _
header_few (suc bound) s at end = header_step bound s at end (λ to. header_few bound s to end) (header_at s at end) refl (header_within_lem s at end)

-- ---- the payload list: each element that it skips has a byte
counted_kept : (s : List ℕ) (start end : ℕ) → Kept s end (λ at w. start + w.skipped ≤ at)
unfolding skip_one stopped
counted_kept s start end = record {
  moved = λ at to w low h. omega (arith, low, h);
  skips = λ at to w low h. omega (arith, low, h);
  parts = λ at kind from to w low le high h. omega (arith, low, le, h, part_counts s w kind from to at);
  stops = λ at refusal w e h. h;
  stops_inside = λ at to refusal w e h. h;
}

payload_inside : (s : List ℕ) (at end : ℕ) → at ≤ end → at + (payload_list s at end).skipped ≤ end
unfolding payload_list blank_walk
payload_inside s at end low =
    let r = list_keeps s end (λ i w. at + w.skipped ≤ i) (counted_kept s at end) (suc (2 * end)) at blank_walk (omega arith) in
    omega (arith, r.1 low, r.2)

payload_few : (s : List ℕ) (at end : ℕ) → (payload_list s at end).skipped ≤ end - at
unfolding blank_walk
payload_few s at end = by_lt end at (λ past. rw (← payload_past s at end blank_walk refl past) (omega arith)) (λ low. omega (arith, payload_inside s at end low))

-- ---- both lists
module _ (s : List ℕ) (at end : ℕ) where
  both_few : ((header_list s at end).payload ≡ 0 → ⊥) → length (header_list s at end).elements + (payload_list s (header_list s at end).payload end).skipped ≤ end
  unfolding header_list
  both_few some =
      let before = (header_few (suc end) s at end).before some in
      omega (arith, before, payload_few s (header_go (suc end) s at end).payload end)

  header_alone : length (header_list s at end).elements ≤ end
  unfolding header_list
  header_alone = omega (arith, (header_few (suc end) s at end).few)

  elements_few : (elements_walk s at end).skipped ≤ end
  unfolding elements_walk behind_header walk_start skipped_over skipped_before
  elements_few =
      let P : Walk → Type 0 = λ w. w.skipped ≤ end in
      either_eq P _ _ (each_eq P _ _ _ _ (λ none. header_alone) (λ some. both_few some)) header_alone _ _

  -- the elements that the code skips in the header list lie before the payload list
  pub head_counts : (head : HeaderListEnd) → head ≡ skipped_over (header_list s at end) → CountsBefore head
  unfolding skipped_over header_list
  head_counts head e some = rw e (omega (arith, ((header_few (suc end) s at end).before (rw e at some)).0))

-- the two counts of the code have a sum
pub counts_fit : (s : List ℕ) (end : ℕ) (head : HeaderListEnd) (w : Walk) → head.payload < 2 ^ 64 → end < 2 ^ 64 → CountsBefore head → (head.payload ≡ 0 → ⊥) → w ≡ payload_list s head.payload end → head.skipped + w.skipped < 2 ^ 64
counts_fit s end head w low small counts some e = rw e (omega (arith, counts some, payload_few s head.payload end))

pub skipped_fit_the_frame : SkippedFitTheFrame
unfolding examined mac_header_of offsets_of blank_walk
skipped_fit_the_frame s = either_eq (λ (x : Examination). x.walk.skipped ≤ length s) _ _ (elements_few s (mac_header_of s).elements (length s)) (omega arith) _ _
