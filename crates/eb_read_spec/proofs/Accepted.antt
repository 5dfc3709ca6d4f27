-- What a frame with the number 0 gives: the walk noted the required elements, which lie inside the frame, and the record is what
-- stands at their offsets, so that a slot can be decided on by it. Assumes nothing.
use Prim.Native.Nat.{ℕ, ◌+◌, ◌-◌, ◌*◌, ◌<◌, ◌≤◌}
use mathlib.Core.Path.{◌≡◌, refl, sym, ◌∙◌, ap}
use mathlib.Core.List.{List}
use mathlib.Core.Logic.{inl, inr, ⊎_elim}
use native.Mathlib.Omega.{arith}
use lib.ListN.{length, get_or}
use Rattle.octets_spec.proofs.ChoiceLaws.{if_eq_lem, was_ne}
use Rattle.eb_record_spec.specs.Record.{blank_link}
use Rattle.ie_walk_spec.specs.declared.Walk.{Walk}
use Rattle.eb_read_spec.specs.Decode.{synchronization_at, link_at, slotframe_at, decoded}
use Rattle.eb_read_spec.specs.Read.{missing, walk_number, examined, read_frame}
use Rattle.eb_read_spec.specs.Claims.{AcceptedMayBeDecidedOn}
use Rattle.eb_read_spec.specs.Inside.{TimeslotLength, JoiningInside, ElementsInside, AcceptedLiesInside}
use Rattle.eb_read_spec.specs.Read.{Examination}
use Rattle.eb_read_spec.specs.Read.{ReadAnswer}
use Rattle.eb_read_spec.proofs.Claimed.{number_of}
use Rattle.eb_read_spec.proofs.Each.{each_eq}
use Rattle.eb_read_spec.proofs.InsideLaws.{facts_inside}
use Rattle.eb_read_spec.proofs.Noted.{twice, SlotframePassed, TimeslotPassed, JoiningPassed, examined_noted}
use Rattle.eb_read_spec.proofs.Bounds.{le_below, padded_at, fit_below}

-- the required elements have offsets
pub record Required (w : Walk) : Type 0 where
  pub synchronization : w.synchronization ≡ 0 → ⊥
  pub timeslot : w.timeslot ≡ 0 → ⊥
  pub hopping : w.hopping ≡ 0 → ⊥
  pub slotframe : w.slotframe ≡ 0 → ⊥

none_missing : (w : Walk) → missing w ≡ 0 → Required w
unfolding missing
none_missing w e =
    let synchronization = was_ne _ _ _ _ _ e twice in
    let timeslot = was_ne _ _ _ _ _ synchronization.1 twice in
    let hopping = was_ne _ _ _ _ _ timeslot.1 twice in
    let slotframe = was_ne _ _ _ _ _ hopping.1 twice in
    record { synchronization = synchronization.0; timeslot = timeslot.0; hopping = hopping.0; slotframe = slotframe.0 }

faultless : (w : Walk) → walk_number w ≡ 0 → Required w
unfolding walk_number
faultless w = each_eq (λ (n : ℕ). n ≡ 0 → Required w) _ _ _ _ (λ good e. none_missing w e) (λ bad e. absurd (bad e))

examined_required : (s : List ℕ) → (examined s).number ≡ 0 → Required (examined s).walk
unfolding examined
examined_required s = each_eq (λ (x : Examination). x.number ≡ 0 → Required x.walk) _ _ _ _ (λ good e. faultless _ e) (λ bad e. absurd (bad e))

module _ (s : List ℕ) (e : (read_frame s).number ≡ 0) where
  pub accepted_required : Required (examined s).walk
  accepted_required = examined_required s (sym (number_of s) ∙ e)

  pub accepted_decoded : decoded s (examined s).walk ≡ (read_frame s).beacon
  unfolding read_frame
  accepted_decoded = ap (λ (a : ReadAnswer). a.beacon) (if_eq_lem _ _ (examined s).number 0 (sym (number_of s) ∙ e) refl)

-- ---- the slotframe of an element that passed
module _ (s : List ℕ) (at : ℕ) (h : SlotframePassed s at) where
  pub link_below : (i : ℕ) → i < (slotframe_at s at).count → (get_or (slotframe_at s at).links i blank_link).timeslot < (slotframe_at s at).size
  unfolding slotframe_at link_at
  link_below i lt =
      let offset : at + (5 + 5 * i) ≡ at + 5 + 5 * i = omega arith in
      rw (padded_at (link_at s at) blank_link blank_link 16 (get_or s (at + 4) 0) i lt h.few, offset) (fit_below s _ _ (at + 5) i h.below lt)

pub accepted_may_be_decided_on : AcceptedMayBeDecidedOn
unfolding decoded slotframe_at synchronization_at
accepted_may_be_decided_on s e =
    let w = (examined s).walk in
    let frame = (examined_noted s).slotframe (accepted_required s e).slotframe in
    rw (← accepted_decoded s e) (frame.some, frame.few, frame.sized, link_below s _ frame, λ bytes. le_below s bytes 5 w.synchronization)

-- ---- where the elements lie
timeslot_length : (s : List ℕ) (at to : ℕ) → TimeslotPassed s at to → TimeslotLength (to - at)
timeslot_length s at to h = ⊎_elim (λ long. inl long) (λ k. ⊎_elim (λ long. inr (inl long)) (λ alone. inr (inr alone.0)) k) h

joining_inside_lem : (s : List ℕ) (at to : ℕ) → JoiningPassed s at to → to ≤ length s → JoiningInside s at to
joining_inside_lem s at to h k = record { least = omega (arith, h.least); most = omega (arith, h.most); inside = k }

accepted_inside : (s : List ℕ) → (examined s).number ≡ 0 → ElementsInside s (examined s).walk
accepted_inside s e =
    let w = (examined s).walk in
    let noted = examined_noted s in
    let there = examined_required s e in
    record {
      synchronization = noted.synchronization_end there.synchronization;
      timeslot = timeslot_length s _ _ (noted.timeslot there.timeslot);
      timeslotend = noted.timeslot_end there.timeslot;
      hopping = omega (arith, noted.hopping_end there.hopping);
      slotframe = noted.slotframe_end there.slotframe;
      few = (noted.slotframe there.slotframe).few;
      joining = λ some. joining_inside_lem s _ _ (noted.joining some) (noted.joining_end some);
    }

pub accepted_lies_inside : AcceptedLiesInside
accepted_lies_inside s e = facts_inside s _ (accepted_inside s e)
