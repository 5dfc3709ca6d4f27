-- What holds of every element that the walk noted: it passed the tests of its kind, so that the bytes at its offset are within the
-- limits of reading, and it lies before the end of the list. An offset that is 0 is none. Assumes nothing.
use Prim.Native.Nat.{ℕ, ◌+◌, ◌-◌, ◌*◌, ◌/◌, ◌%◌, ◌≤◌}
use mathlib.Core.Path.{◌≡◌, refl}
use mathlib.Core.Bool.{true}
use mathlib.Core.List.{List}
use mathlib.Core.Logic.{◌⊎◌, inl, inr}
use native.Mathlib.Omega.{arith}
use lib.ListN.{length, get_or}
use Rattle.octets_spec.specs.Choice.{if_eq}
use Rattle.octets_spec.specs.Number.{le_at}
use lib.Dec.{eqb}
use borrow.Author.Tests.{eqb-true, not-false}
use Rattle.octets_spec.proofs.ChoiceLaws.{by_test, was_ge, was_eq, was_ne, was_on, was_off, either_eq}
use Rattle.refusal.specs.Refusal.{done, shape, missing_or_twice, out_of_limits, number_of}
use Rattle.ie_verdict_spec.specs.Verdict.{sync_fault, timeslot_fault, hopping_fault, slotframe_shape, slotframe_limits, slotframe_fault, joining_fault, timeslots_fit, slotframe_fault_at, part_fault}
use Rattle.ie_verdict_spec.specs.declared.Seen.{Seen}
use Rattle.ie_walk_spec.specs.Walk.{blank_walk, besides, seen_of, skip_one, taken, stopped, part_taken, payload_list}
use Rattle.ie_walk_spec.specs.declared.Walk.{Walk}
use Rattle.ie_walk_spec.specs.declared.HeaderListEnd.{HeaderListEnd}
use Rattle.mac_header_spec.specs.Fields.{offsets_of, mac_header_of}
use Rattle.eb_read_spec.specs.Read.{Examination}
use Rattle.eb_read_spec.specs.Read.{walk_start, skipped_before, behind_header, elements_walk, examined}
use Rattle.eb_read_spec.proofs.Each.{each_eq, each_eq_2}
use Rattle.eb_read_spec.proofs.Keeps.{Kept, list_keeps}

-- ---- what the bytes of an element are once it passed
-- slotframe and link: 1 to 16 links, a size of at least 1, each timeslot below the size
pub record SlotframePassed (s : List ℕ) (at : ℕ) : Type 0 where
  pub some : 1 ≤ get_or s (at + 4) 0
  pub few : get_or s (at + 4) 0 ≤ 16
  pub sized : 1 ≤ le_at 2 s (at + 2)
  pub below : timeslots_fit s (at + 5) (get_or s (at + 4) 0) (le_at 2 s (at + 2)) ≡ true

-- timeslot: one of the lengths with timings, or the ID alone, which is 0
abbrev pub TimeslotPassed : List ℕ → ℕ → ℕ → Type 0
TimeslotPassed s at to = (to - at ≡ 25) ⊎ ((to - at ≡ 27) ⊎ ((to - at ≡ 1) × (get_or s at 0 ≡ 0)))

-- joining information: four bytes, eight of an address if P, and 0 to 16 of a network ID
pub record JoiningPassed (s : List ℕ) (at to : ℕ) : Type 0 where
  pub least : 4 + 8 * (get_or s at 0 / 64 % 2) ≤ to - at
  pub most : to - at ≤ 4 + 8 * (get_or s at 0 / 64 % 2) + 16

-- every element that a walk noted passed, and lies before the end
pub record Noted (s : List ℕ) (end : ℕ) (w : Walk) : Type 0 where
  pub slotframe : (w.slotframe ≡ 0 → ⊥) → SlotframePassed s w.slotframe
  pub timeslot : (w.timeslot ≡ 0 → ⊥) → TimeslotPassed s w.timeslot w.timeslotend
  pub joining : (w.joining ≡ 0 → ⊥) → JoiningPassed s w.joining w.joiningend
  pub synchronization_end : (w.synchronization ≡ 0 → ⊥) → w.synchronization + 6 ≤ end
  pub timeslot_end : (w.timeslot ≡ 0 → ⊥) → w.timeslotend ≤ end
  pub hopping_end : (w.hopping ≡ 0 → ⊥) → w.hopping + 1 ≤ end
  pub slotframe_end : (w.slotframe ≡ 0 → ⊥) → w.slotframe + (5 + 5 * get_or s (w.slotframe + 4) 0) ≤ end
  pub joining_end : (w.joining ≡ 0 → ⊥) → w.joiningend ≤ end

-- ---- an element without a fault passed
-- numbers of faults are not 0
pub wrong_shape : shape ≡ done → ⊥
wrong_shape e = omega arith

pub twice : missing_or_twice ≡ done → ⊥
twice e = omega arith

pub over_limits : out_of_limits ≡ done → ⊥
over_limits e = omega arith

limits_passed : (s : List ℕ) (at : ℕ) → slotframe_limits (le_at 2 s (at + 2)) (get_or s (at + 4) 0) (timeslots_fit s (at + 5) (get_or s (at + 4) 0) (le_at 2 s (at + 2))) ≡ 0 → SlotframePassed s at
unfolding slotframe_limits
limits_passed s at e =
    let size = was_ne _ _ _ _ _ e over_limits in
    let links = was_ne _ _ _ _ _ size.1 over_limits in
    let most = was_ge _ _ _ _ _ links.1 over_limits in
    let all = was_on _ _ _ _ most.1 over_limits in
    let sized : le_at 2 s (at + 2) ≡ 0 → ⊥ = size.0 in
    let some : get_or s (at + 4) 0 ≡ 0 → ⊥ = links.0 in
    record { some = omega arith; few = most.0; sized = omega arith; below = all.0 }

shape_passed : (bytes count n : ℕ) → slotframe_shape bytes count n ≡ 0 → (count ≡ 1) × (bytes ≡ 5 + 5 * n)
unfolding slotframe_shape
shape_passed bytes count n e =
    let one = was_eq _ _ _ _ _ (was_ge _ _ _ _ _ e wrong_shape).1 over_limits in
    (one.0, (was_eq _ _ _ _ _ one.1 wrong_shape).0)

-- by its kind
module _ (s : List ℕ) (from to : ℕ) (seen : Seen) where
  pub kind_slotframe : part_fault s 27 from to seen ≡ 0 → SlotframePassed s from × (get_or s from 0 ≡ 1) × (to - from ≡ 5 + 5 * get_or s (from + 4) 0)
  unfolding part_fault slotframe_fault_at slotframe_fault if_eq
  kind_slotframe =
      each_eq (λ (n : ℕ). n ≡ 0 → SlotframePassed s from × (get_or s from 0 ≡ 1) × (to - from ≡ 5 + 5 * get_or s (from + 4) 0)) _ _ (slotframe_shape (to - from) (get_or s from 0) (get_or s (from + 4) 0)) 0
      (λ shaped e. let shape = shape_passed _ _ _ shaped in (limits_passed s from (was_eq _ _ _ seen.slotframe 0 e twice).1, shape.0, shape.1)) (λ misshapen e. absurd (misshapen e))

  pub kind_timeslot : part_fault s 28 from to seen ≡ 0 → TimeslotPassed s from to
  unfolding part_fault timeslot_fault if_eq
  kind_timeslot e =
      let shaped = was_off _ _ _ _ e wrong_shape in
      let once = was_eq _ _ _ seen.timeslot 0 shaped.1 twice in
      let within = (was_off _ _ _ _ once.1 over_limits).0 in
      by_test (eqb (to - from) 1)
      (λ alone. inr (inr (eqb-true (to - from) 1 alone, eqb-true (get_or s from 0) 0 (not-false _ (rw alone at within)))))
      (λ long. by_test (eqb (to - from) 25) (λ of-25. inl (eqb-true (to - from) 25 of-25)) (λ other. inr (inl (eqb-true (to - from) 27 (not-false _ (rw (long, other) at shaped.0))))))

  pub kind_joining : part_fault s 258 from to seen ≡ 0 → JoiningPassed s from to
  unfolding part_fault joining_fault if_eq
  kind_joining e =
      let four = was_ge _ _ _ _ _ e wrong_shape in
      let least = was_ge _ _ _ _ _ four.1 wrong_shape in
      let most = was_ge _ _ _ _ _ least.1 wrong_shape in
      record { least = least.0; most = most.0 }

  -- and where it ends
  module _ (end : ℕ) (h : to ≤ end) where
    sync_ends : part_fault s 26 from to seen ≡ 0 → from + 6 ≤ end
    unfolding part_fault sync_fault if_eq
    sync_ends e = let six = (was_eq _ _ _ (to - from) 6 e wrong_shape).0 in omega (arith, six)

    hopping_ends : part_fault s 137 from to seen ≡ 0 → from + 1 ≤ end
    unfolding part_fault hopping_fault if_eq
    hopping_ends e = let some : to - from ≡ 0 → ⊥ = (was_ne _ _ _ _ _ e wrong_shape).0 in omega arith

    slotframe_ends : part_fault s 27 from to seen ≡ 0 → from + (5 + 5 * get_or s (from + 4) 0) ≤ end
    slotframe_ends e = omega (arith, (kind_slotframe e).2)

-- ---- the walk
module _ (s : List ℕ) (end : ℕ) where
  -- no element is noted where the walk begins
  blank_noted : Noted s end blank_walk
  unfolding blank_walk
  blank_noted = record {
    slotframe = λ some. absurd (some refl);
    timeslot = λ some. absurd (some refl);
    joining = λ some. absurd (some refl);
    synchronization_end = λ some. absurd (some refl);
    timeslot_end = λ some. absurd (some refl);
    hopping_end = λ some. absurd (some refl);
    slotframe_end = λ some. absurd (some refl);
    joining_end = λ some. absurd (some refl);
  }

  module _ (w : Walk) (h : Noted s end w) where
    -- what a walk notes besides its elements does not matter
    noted_besides : (fault faulty skipped : ℕ) → Noted s end (besides w fault faulty skipped)
    noted_besides fault faulty skipped = record {
      slotframe = h.slotframe;
      timeslot = h.timeslot;
      joining = h.joining;
      synchronization_end = h.synchronization_end;
      timeslot_end = h.timeslot_end;
      hopping_end = h.hopping_end;
      slotframe_end = h.slotframe_end;
      joining_end = h.joining_end;
    }

    skip_noted : Noted s end (skip_one w)
    unfolding skip_one
    skip_noted = noted_besides _ _ _

    stop_noted : (fault at : ℕ) → Noted s end (stopped w fault at)
    unfolding stopped
    stop_noted fault at = noted_besides _ _ _

    module _ (kind from to : ℕ) (before : to ≤ end) where
      taken_noted : part_fault s kind from to (seen_of w) ≡ 0 → Noted s end (taken w kind from to)
      unfolding taken
      taken_noted e =
          let q = seen_of w in
          record {
            slotframe = each_eq (λ (at : ℕ). (at ≡ 0 → ⊥) → SlotframePassed s at) _ _ _ _ (λ k some. (kind_slotframe s from to q (rw k at e)).0) (λ k. h.slotframe);
            timeslot = each_eq_2 (λ (at stop : ℕ). (at ≡ 0 → ⊥) → TimeslotPassed s at stop) _ _ _ _ _ _ (λ k some. kind_timeslot s from to q (rw k at e)) (λ k. h.timeslot);
            joining = each_eq_2 (λ (at stop : ℕ). (at ≡ 0 → ⊥) → JoiningPassed s at stop) _ _ _ _ _ _ (λ k some. kind_joining s from to q (rw k at e)) (λ k. h.joining);
            synchronization_end = each_eq (λ (at : ℕ). (at ≡ 0 → ⊥) → at + 6 ≤ end) _ _ _ _ (λ k some. sync_ends s from to q end before (rw k at e)) (λ k. h.synchronization_end);
            timeslot_end = each_eq_2 (λ (at stop : ℕ). (at ≡ 0 → ⊥) → stop ≤ end) _ _ _ _ _ _ (λ k some. before) (λ k. h.timeslot_end);
            hopping_end = each_eq (λ (at : ℕ). (at ≡ 0 → ⊥) → at + 1 ≤ end) _ _ _ _ (λ k some. hopping_ends s from to q end before (rw k at e)) (λ k. h.hopping_end);
            slotframe_end = each_eq (λ (at : ℕ). (at ≡ 0 → ⊥) → at + (5 + 5 * get_or s (at + 4) 0) ≤ end) _ _ _ _ (λ k some. slotframe_ends s from to q end before (rw k at e)) (λ k. h.slotframe_end);
            joining_end = each_eq_2 (λ (at stop : ℕ). (at ≡ 0 → ⊥) → stop ≤ end) _ _ _ _ _ _ (λ k some. before) (λ k. h.joining_end);
          }

      part_noted : (at : ℕ) → Noted s end (part_taken s w kind from to at)
      unfolding part_taken
      part_noted at = each_eq (λ (t : Walk). Noted s end t) _ _ _ _ (λ e. taken_noted e) (λ bad. stop_noted _ at)

pub start_noted : (s : List ℕ) (end : ℕ) (head : HeaderListEnd) → Noted s end (walk_start head)
unfolding walk_start blank_walk
start_noted s end head = noted_besides s end blank_walk (blank_noted s end) _ _ _

noted_kept : (s : List ℕ) (end : ℕ) → Kept s end (λ at w. Noted s end w)
noted_kept s end = record {
  moved = λ at to w low h. h;
  skips = λ at to w low h. skip_noted s end w h;
  parts = λ at kind from to w low le high h. part_noted s end w h kind from to high at;
  stops = λ at refusal w e h. stop_noted s end w h (number_of refusal) at;
  stops_inside = λ at to refusal w e h. stop_noted s end w h (number_of refusal) at;
}

pub elements_noted : (s : List ℕ) (at end : ℕ) → Noted s end (elements_walk s at end)
unfolding elements_walk behind_header payload_list skipped_before
elements_noted s at end =
    let P : Walk → Type 0 = λ w. Noted s end w in
    either_eq P _ _ (either_eq P _ _ (start_noted s end _) (noted_besides s end _ (list_keeps s end (λ at w. Noted s end w) (noted_kept s end) _ _ _ (blank_noted s end)).2 _ _ _) _ _) (start_noted s end _) _ _

pub examined_noted : (s : List ℕ) → Noted s (length s) (examined s).walk
unfolding examined mac_header_of offsets_of
examined_noted s =
    either_eq (λ (x : Examination). Noted s (length s) x.walk) _ _ (elements_noted s (mac_header_of s).elements (length s)) (blank_noted s (length s)) _ _
