-- Every number of reading is one of 0 to 8, and 1 is given for the length alone. Assumes nothing.
use Prim.Native.Nat.{ℕ, zero, suc, ◌≤◌}
use mathlib.Core.Path.{◌≡◌, refl, sym, subst}
use mathlib.Core.Bool.{Bool, not, ◌&&◌}
use mathlib.Core.List.{List}
use lib.Dec.{T, T_not, leb, eqb, leb→le}
use lib.ListN.{length}
use Rattle.octets_spec.proofs.ChoiceLaws.{if_ge, either_on, either_lt, either_eq}
use Rattle.refusal.specs.Refusal.{number_of}
use Rattle.mac_header_spec.specs.declared.Control.{Control}
use Rattle.ie_verdict_spec.specs.Verdict.{once_only, sync_fault, timeslot_fault, hopping_fault, slotframe_shape, slotframe_limits, slotframe_fault, joining_fault, slotframe_fault_at, part_fault}
use Rattle.ie_verdict_spec.specs.declared.Seen.{Seen}
use Rattle.ie_step_spec.specs.Header.{header_word, header_at}
use Rattle.ie_step_spec.specs.Payload.{group_of, outer_word, outer_at, inner_word, inner_at}
use Rattle.ie_step_spec.specs.declared.HeaderStep.{HeaderStep}
use Rattle.ie_step_spec.specs.declared.HeaderStep.TheVariants as header
use Rattle.ie_step_spec.specs.declared.OuterStep.{OuterStep}
use Rattle.ie_step_spec.specs.declared.OuterStep.TheVariants as outer
use Rattle.ie_step_spec.specs.declared.InnerStep.{InnerStep}
use Rattle.ie_step_spec.specs.declared.InnerStep.TheVariants as inner
use Rattle.ie_walk_spec.specs.Walk.{blank_walk, in_front, skipped_over, seen_of, skip_one, taken, stopped, part_taken, header_go, header_list, payload_list}
use Rattle.ie_walk_spec.specs.declared.Walk.{Walk}
use Rattle.mac_header_spec.specs.Fields.{mac_header_of}
use Rattle.eb_read_spec.specs.Policy.{form_fault, policy_fault, mac_header_fault}
use Rattle.eb_read_spec.proofs.Keeps.{Kept, list_keeps}
use Rattle.eb_read_spec.specs.Read.{Examination}
use Rattle.eb_read_spec.specs.Read.{walk_start, skipped_before, behind_header, elements_walk, missing, walk_number, examined}
use mir.Facts.{and_yes}

-- a number from 0 to 8 but 1, as a test that computes at a literal
abbrev Small : ℕ → Type 0
Small n = T (leb n 8 && not (eqb n 1))

pub at_most_8 : (n : ℕ) → Small n → n ≤ 8
at_most_8 n h = leb→le n 8 (and_yes (leb n 8) (not (eqb n 1)) h).0

pub not_1 : (n : ℕ) → Small n → n ≡ 1 → ⊥
not_1 n h e = T_not (eqb n 1) (and_yes (leb n 8) (not (eqb n 1)) h).1 (subst (λ (k : ℕ). T (eqb k 1)) (sym e) tt)

-- a number that faults of elements and missing elements have: none of 1, 3, 4 and 5
abbrev pub Late : ℕ → Type 0
Late n = T (not (eqb n 3) && (not (eqb n 4) && (not (eqb n 5) && (leb n 8 && not (eqb n 1)))))

pub late_small : (n : ℕ) → Late n → Small n
late_small n h = (and_yes (not (eqb n 5)) _ (and_yes (not (eqb n 4)) _ (and_yes (not (eqb n 3)) _ h).1).1).1

-- ---- the checks before the elements
form_small : (c : Control) → Small (form_fault c)
unfolding form_fault
form_small c =
    either_eq Small _ _ (either_eq Small _ _ (either_eq Small _ _ (either_eq Small _ _ (either_lt Small _ _ tt (either_eq Small _ _ (either_eq Small _ _ tt tt _ _) tt _ _) _ _) tt _ _) tt _ _) tt _ _) tt _ _

pub mac_header_small : (s : List ℕ) → length s ≤ 125 → Small (mac_header_fault s)
unfolding mac_header_fault policy_fault
mac_header_small s short = subst Small (if_ge _ _ 125 (length s) short refl) (either_lt Small _ _ tt (either_eq Small _ _ (either_lt Small _ _ tt (either_eq Small _ _ tt tt _ _) _ _) (form_small _) _ _) _ _)

-- ---- the elements
once_small : (seen : ℕ) → Late (once_only seen)
unfolding once_only
once_small seen = either_eq Late _ _ tt tt _ _

timeslot_small : (bytes seen id : ℕ) → Late (timeslot_fault bytes seen id)
unfolding timeslot_fault
timeslot_small bytes seen id = either_on Late _ _ tt (either_eq Late _ _ (either_on Late _ _ tt tt _) tt _ _) _

hopping_small : (bytes seen : ℕ) → Late (hopping_fault bytes seen)
unfolding hopping_fault
hopping_small bytes seen = either_eq Late _ _ tt (either_eq Late _ _ (either_lt Late _ _ tt tt _ _) tt _ _) _ _

shape_small : (bytes count links : ℕ) → Late (slotframe_shape bytes count links)
unfolding slotframe_shape
shape_small bytes count links = either_lt Late _ _ tt (either_eq Late _ _ (either_eq Late _ _ tt tt _ _) tt _ _) _ _

limits_small : (size links : ℕ) (below : Bool) → Late (slotframe_limits size links below)
unfolding slotframe_limits
limits_small size links below = either_eq Late _ _ tt (either_eq Late _ _ tt (either_lt Late _ _ tt (either_on Late _ _ tt tt _) _ _) _ _) _ _

slotframe_small : (s : List ℕ) (from bytes seen : ℕ) → Late (slotframe_fault_at s from bytes seen)
unfolding slotframe_fault_at slotframe_fault
slotframe_small s from bytes seen = either_eq Late _ _ (either_eq Late _ _ (limits_small _ _ _) tt _ _) (shape_small _ _ _) _ _

joining_small : (bytes seen proxied : ℕ) → Late (joining_fault bytes seen proxied)
unfolding joining_fault
joining_small bytes seen proxied = either_lt Late _ _ tt (either_lt Late _ _ tt (either_lt Late _ _ tt (once_small seen) _ _) _ _) _ _

part_small : (s : List ℕ) (kind from to : ℕ) (seen : Seen) → Late (part_fault s kind from to seen)
unfolding part_fault sync_fault
part_small s kind from to seen =
    either_eq Late _ _ (either_eq Late _ _ (once_small _) tt _ _) (either_eq Late _ _ (timeslot_small _ _ _) (either_eq Late _ _ (hopping_small _ _) (either_eq Late _ _ (slotframe_small _ _ _ _) (either_eq Late _ _ (joining_small _ _ _) tt _ _) _ _) _ _) _ _) _ _

-- ---- the steps
abbrev OuterSmall : OuterStep → Type 0
OuterSmall outer.End = Unit
OuterSmall (outer.Group from to) = Unit
OuterSmall (outer.Joining from to) = Unit
OuterSmall (outer.Skip to) = Unit
OuterSmall (outer.Fault refusal) = Late (number_of refusal)

outer_small : (s : List ℕ) (at end : ℕ) → OuterSmall (outer_at s at end)
unfolding outer_at outer_word group_of
outer_small s at end =
    let P : OuterStep → Type 0 = λ o. OuterSmall o in
    either_lt P _ _ (either_lt P _ _ tt (either_lt P _ _ tt (either_eq P _ _ tt (either_eq P _ _ (either_eq P _ _ tt tt _ _)
    (either_eq P _ _ tt (either_eq P _ _ (either_eq P _ _ tt (either_eq P _ _ tt tt _ _) _ _) tt _ _) _ _) _ _) _ _) _ _) _ _) tt _ _

abbrev InnerSmall : InnerStep → Type 0
InnerSmall inner.Back = Unit
InnerSmall (inner.Part kind from to) = Unit
InnerSmall (inner.Fault refusal) = Late (number_of refusal)

inner_small : (s : List ℕ) (at end : ℕ) → InnerSmall (inner_at s at end)
unfolding inner_at inner_word
inner_small s at end =
    let P : InnerStep → Type 0 = λ o. InnerSmall o in
    either_lt P _ _ (either_lt P _ _ tt (either_eq P _ _ (either_lt P _ _ tt tt _ _) (either_lt P _ _ tt tt _ _) _ _) _ _) tt _ _

-- ---- the header list: its fault is a number of any kind that 0, 2 and 6 are of
module _ (P : ℕ → Type 0) (none : P 0) (is_cut : P 2) (is_shape : P 6) where
  abbrev Faults : HeaderStep → Type 0
  Faults header.End = Unit
  Faults (header.Payload from) = Unit
  Faults (header.Element id from to) = Unit
  Faults (header.Fault refusal) = P (number_of refusal)

  header_faults : (s : List ℕ) (at end : ℕ) → Faults (header_at s at end)
  unfolding header_at header_word
  header_faults s at end =
      let Q : HeaderStep → Type 0 = λ o. Faults o in
      either_lt Q _ _ (either_lt Q _ _ is_cut (either_lt Q _ _ is_cut (either_eq Q _ _ is_shape (either_eq Q _ _ (either_eq Q _ _ tt is_shape _ _) (either_eq Q _ _ (either_eq Q _ _ tt is_shape _ _) tt _ _) _ _) _ _) _ _) _ _) tt _ _

  -- one step, given the rest of the list
  header_step : (bound : ℕ) (s : List ℕ) (at end : ℕ) → ((to : ℕ) → P (header_go bound s to end).fault) → (o : HeaderStep) → header_at s at end ≡ o → Faults o → P (header_go (suc bound) s at end).fault
  unfolding header_go in_front
  header_step bound s at end rest header.End e f = rw (e, header_go) none
  header_step bound s at end rest (header.Payload from) e f = rw (e, header_go) none
  header_step bound s at end rest (header.Element id from to) e f = rw (e, header_go) (rest to)
  header_step bound s at end rest (header.Fault refusal) e f = rw (e, header_go) f

  header_go_lem : (bound : ℕ) (s : List ℕ) (at end : ℕ) → P (header_go bound s at end).fault
  unfolding header_go
  header_go_lem zero s at end = none
  header_go_lem (suc bound) s at end = header_step bound s at end (λ to. header_go_lem bound s to end) (header_at s at end) refl (header_faults s at end)

  pub header_fault : (s : List ℕ) (at end : ℕ) → P (header_list s at end).fault
  unfolding header_list
  header_fault s at end = header_go_lem (suc end) s at end

-- ---- the payload list
abbrev WalkSmall : Walk → Type 0
WalkSmall w = Late w.fault

taken_part : (s : List ℕ) (w : Walk) (kind from to at : ℕ) → WalkSmall w → WalkSmall (part_taken s w kind from to at)
unfolding part_taken taken stopped
taken_part s w kind from to at h = either_eq WalkSmall _ _ h (part_small s kind from to (seen_of w)) _ _

small_kept : (s : List ℕ) (end : ℕ) → Kept s end (λ at w. WalkSmall w)
unfolding skip_one stopped
small_kept s end = record {
  moved = λ at to w low h. h;
  skips = λ at to w low h. h;
  parts = λ at kind from to w low le high h. taken_part s w kind from to at h;
  stops = λ at refusal w e h. rw e at (outer_small s at end);
  stops_inside = λ at to refusal w e h. rw e at (inner_small s at to);
}

pub elements_small : (s : List ℕ) (at end : ℕ) → WalkSmall (elements_walk s at end)
unfolding elements_walk behind_header walk_start skipped_before skipped_over payload_list blank_walk
elements_small s at end =
    let h : Late (header_list s at end).fault = header_fault Late tt tt tt s at end in
    either_eq WalkSmall _ _ (either_eq WalkSmall _ _ h (list_keeps s end (λ at w. WalkSmall w) (small_kept s end) _ _ blank_walk tt).2 _ _) h _ _

missing_small : (w : Walk) → Late (missing w)
unfolding missing
missing_small w = either_eq Late _ _ tt (either_eq Late _ _ tt (either_eq Late _ _ tt (either_eq Late _ _ tt tt _ _) _ _) _ _) _ _

pub number_small : (w : Walk) → WalkSmall w → Late (walk_number w)
unfolding walk_number
number_small w h = either_eq Late _ _ (missing_small w) h _ _

pub examined_small : (s : List ℕ) → length s ≤ 125 → Small (examined s).number
unfolding examined
examined_small s short = either_eq (λ (x : Examination). Small x.number) _ _ (late_small (walk_number (elements_walk s (mac_header_of s).elements (mac_header_of s).end)) (number_small _ (elements_small s (mac_header_of s).elements (mac_header_of s).end))) (mac_header_small s short) _ _
