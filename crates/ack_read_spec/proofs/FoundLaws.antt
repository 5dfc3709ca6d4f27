-- The laws of the correction among the header elements, in the shape in which the code meets them: for each way of a step one, with the step
-- that was taken as a variable. Assumes nothing.
use Prim.Native.Nat.{ℕ, suc, ◌-◌, ◌<◌, ◌≤◌}
use mathlib.Core.Path.{◌≡◌, refl, sym, ◌∙◌, ap, subst}
use mathlib.Core.List.{List, []}
use native.Mathlib.Omega.{arith}
use Rattle.octets_spec.specs.Choice.{if_eq}
use Rattle.octets_spec.proofs.ChoiceLaws.{if_eq_lem, if_ne_lem, choices}
use Rattle.std.specs.Prelude.{Option, Some, None, Result, Err}
use Rattle.std.specs.Option.{ok_or}
use Rattle.refusal.specs.Refusal.{number_of}
use Rattle.refusal.proofs.NumberLaws.{number_some}
use Rattle.refusal.specs.declared.Refusal.TheVariants.{MissingOrTwice}
use Rattle.refusal.specs.declared.Refusal.{Refusal}
use Rattle.ie_step_spec.specs.Header.{header_at, header_within}
use Rattle.ie_step_spec.specs.declared.HeaderStep.{HeaderStep}
use Rattle.ie_step_spec.specs.declared.HeaderStep.TheVariants as header
use Rattle.ie_walk_spec.specs.Walk.{HeaderElement, HeaderList, in_front, header_go, header_list}
use Rattle.eb_read_spec.proofs.Bounded.{bounds_do_not_matter}
use Rattle.ack_read_spec.specs.Read.{Says, element_fault, behind_element, found_among, found_in, place_of}
use Rattle.ack_read_spec.specs.Read.{Found}

-- ---- one element
module _ (id from to at : ℕ) where
  abbrev one : HeaderElement
  one = record { id = id; from = from; to = to }

  pub element_other : (id ≡ 30 → ⊥) → 0 ≡ element_fault one at
  unfolding element_fault
  element_other other = if_ne_lem _ _ _ _ other refl

  module _ (is : id ≡ 30) where
    pub element_shape : (to - from ≡ 2 → ⊥) → 6 ≡ element_fault one at
    unfolding element_fault
    element_shape bad = if_eq_lem _ _ _ _ is (if_ne_lem _ _ _ _ bad refl)

    module _ (two : to - from ≡ 2) where
      pub element_twice : (at ≡ 0 → ⊥) → 7 ≡ element_fault one at
      unfolding element_fault
      element_twice some = if_eq_lem _ _ _ _ is (if_eq_lem _ _ _ _ two (if_ne_lem _ _ _ _ some refl))

      pub element_first : at ≡ 0 → 0 ≡ element_fault one at
      unfolding element_fault
      element_first none = if_eq_lem _ _ _ _ is (if_eq_lem _ _ _ _ two (if_eq_lem _ _ _ _ none refl))

-- ---- the list from an offset on, by the step that is taken there
module _ (s : List ℕ) (i end : ℕ) (o : HeaderStep) (is : o ≡ header_at s i end) where
  list_none : o ≡ header.End → ◌≡◌ {A = HeaderList} (record { elements = []; fault = 0; faulty = 0; payload = 0 }) (header_list s i end)
  unfolding header_list header_go
  list_none e = rw (sym is ∙ e, header_go)

  list_payload : (from : ℕ) → o ≡ header.Payload from → ◌≡◌ {A = HeaderList} (record { elements = []; fault = 0; faulty = 0; payload = from }) (header_list s i end)
  unfolding header_list header_go
  list_payload from e = rw (sym is ∙ e, header_go)

  list_fault : (refusal : Refusal) → o ≡ header.Fault refusal → ◌≡◌ {A = HeaderList} (record { elements = []; fault = number_of refusal; faulty = i; payload = 0 }) (header_list s i end)
  unfolding header_list header_go
  list_fault refusal e = rw (sym is ∙ e, header_go)

  list_element : (id from to : ℕ) → o ≡ header.Element id from to → header_within o i end → in_front (record { id = id; from = from; to = to }) (header_list s to end) ≡ header_list s i end
  unfolding header_list header_go
  list_element id from to e within =
      let inside : (i < from) × (from ≤ to) × (to ≤ end) = rw e at within in
      rw (sym is ∙ e, header_go) (ap (in_front _) ((bounds_do_not_matter s to end (suc end) end).0 (omega (arith, inside)) (omega (arith, inside))))

-- ---- what is left of a list gives what the whole list gives
pub record FoundLeads (s : List ℕ) (at end i f : ℕ) : Type 0 where
  pub gives : found_in (header_list s i end) f ≡ found_in (header_list s at end) 0

pub found_start : (s : List ℕ) (at end : ℕ) → FoundLeads s at end at 0
found_start s at end = record { gives = refl }

module _ (s : List ℕ) (at end i f : ℕ) (o : HeaderStep) (is : o ≡ header_at s i end) where
  abbrev whole : Found
  whole = found_in (header_list s at end) 0

  pub found_none : (n : ℕ) → o ≡ header.End → n ≡ if_eq 0 0 (if_eq f 0 7 0) 0 → FoundLeads s at end i f → record { number = n; at = f } ≡ whole
  unfolding found_in found_among
  found_none n e k leads = rw (← list_none s i end o is e, ← k) at leads.gives

  pub found_payload : (n from : ℕ) → o ≡ header.Payload from → n ≡ if_eq 0 0 (if_eq f 0 7 0) 0 → FoundLeads s at end i f → record { number = n; at = f } ≡ whole
  unfolding found_in found_among
  found_payload n from e k leads = rw (← list_payload s i end o is from e, ← k) at leads.gives

  pub found_fault : (n : ℕ) (refusal : Refusal) → o ≡ header.Fault refusal → n ≡ if_eq (number_of refusal) 0 (if_eq f 0 7 0) (number_of refusal) → FoundLeads s at end i f → record { number = n; at = f } ≡ whole
  unfolding found_in found_among
  found_fault n refusal e k leads = rw (← list_fault s i end o is refusal e, ← k) at leads.gives

  module _ (id from to : ℕ) (e : o ≡ header.Element id from to) (within : header_within o i end) where
    inside : (i < from) × (from ≤ to) × (to ≤ end)
    inside = rw e at within

    pub found_below : from ≤ to
    found_below = inside.1

    pub found_less : end - to < end - i
    found_less = omega (arith, inside)

    module _ (fault : ℕ) (k : fault ≡ element_fault (record { id = id; from = from; to = to }) f) where
      pub found_faulty : (fault ≡ 0 → ⊥) → FoundLeads s at end i f → record { number = fault; at = f } ≡ whole
      unfolding found_in found_among in_front
      found_faulty bad leads = if_ne_lem _ _ _ _ bad refl ∙ (rw (← list_element s i end o is id from to e within, found_among, ← k) at leads.gives)

      -- behind an element without a fault
      turn : (g : ℕ) → g ≡ behind_element (record { id = id; from = from; to = to }) f → fault ≡ 0 → FoundLeads s at end i f → FoundLeads s at end to g
      unfolding found_in found_among in_front
      turn g next good leads = record { gives = if_eq_lem _ _ _ _ good (rw next) ∙ (rw (← list_element s i end o is id from to e within, found_among, ← k) at leads.gives) }

      pub found_correction : id ≡ 30 → fault ≡ 0 → FoundLeads s at end i f → FoundLeads s at end to from
      unfolding behind_element
      found_correction is = turn from (if_eq_lem _ _ _ _ is refl)

      pub found_other : (id ≡ 30 → ⊥) → fault ≡ 0 → FoundLeads s at end i f → FoundLeads s at end to f
      unfolding behind_element
      found_other other = turn f (if_ne_lem _ _ _ _ other refl)

pub ruleset element-faults = (choices, element_other, element_shape, element_twice, element_first)

-- ---- the same as the code has it: there is a content, which starts behind 0, or there is none yet
pub record PlaceLeads (s : List ℕ) (at end i : ℕ) (content : Option ℕ) : Type 0 where
  pub leads : FoundLeads s at end i (place_of content)
  pub started : content ≡ Some 0 → ⊥

pub place_start : (s : List ℕ) (at end : ℕ) → PlaceLeads s at end at None
place_start s at end = record { leads = found_start s at end; started = λ e. cc }

-- a list that ends without a fault
abbrev ended : ℕ → Found
ended f = record { number = if_eq 0 0 (if_eq f 0 7 0) 0; at = f }

says_ended : (content : Option ℕ) → (content ≡ Some 0 → ⊥) → Says (ok_or content MissingOrTwice) (ended (place_of content))
unfolding if_eq
says_ended None some = refl
says_ended (Some at) some = ap (λ (n : ℕ). record { number = n; at = at }) (sym (if_ne_lem 7 0 at 0 (λ z. some (ap Some z)) refl))

module _ (s : List ℕ) (at end i : ℕ) (content : Option ℕ) (place : PlaceLeads s at end i content) (o : HeaderStep) (is : o ≡ header_at s i end) where
  abbrev all : Found
  all = found_in (header_list s at end) 0

  says_all : ended (place_of content) ≡ all → (r : Result ℕ Refusal) → r ≡ ok_or content MissingOrTwice → Says r all
  says_all e r k = rw k (subst (Says (ok_or content MissingOrTwice)) e (says_ended content place.started))

  pub place_none : o ≡ header.End → (r : Result ℕ Refusal) → r ≡ ok_or content MissingOrTwice → Says r all
  place_none e = says_all (found_none s at end i _ o is _ e refl place.leads)

  pub place_payload : (from : ℕ) → o ≡ header.Payload from → (r : Result ℕ Refusal) → r ≡ ok_or content MissingOrTwice → Says r all
  place_payload from e = says_all (found_payload s at end i _ o is _ from e refl place.leads)

  pub place_fault : (refusal : Refusal) → o ≡ header.Fault refusal → Says (Err refusal) all
  place_fault refusal e = sym (if_ne_lem _ _ _ _ (number_some refusal) refl ∙ ap (λ (found : Found). found.number) (found_fault s at end i _ o is _ refusal e refl place.leads))

  module _ (id from to : ℕ) (e : o ≡ header.Element id from to) (within : header_within o i end) where
    abbrev fault : ℕ
    fault = element_fault (record { id = id; from = from; to = to }) (place_of content)

    pub place_below : from ≤ to
    place_below = found_below s at end i 0 o is id from to e within

    pub place_less : end - to < end - i
    place_less = found_less s at end i 0 o is id from to e within

    pub place_faulty : (refusal : Refusal) → number_of refusal ≡ fault → Says (Err refusal) all
    place_faulty refusal k = sym (ap (λ (found : Found). found.number) (found_faulty s at end i _ o is id from to e within _ k (number_some refusal) place.leads))

    pub place_correction : id ≡ 30 → 0 ≡ fault → PlaceLeads s at end to (Some from)
    place_correction one k =
        let inside : (i < from) × (from ≤ to) × (to ≤ end) = rw e at within in
        record { leads = found_correction s at end i _ o is id from to e within 0 k one refl place.leads; started = λ z. let none : from ≡ 0 = cc in omega (arith, inside, none) }

    pub place_other : (id ≡ 30 → ⊥) → 0 ≡ fault → PlaceLeads s at end to content
    place_other other k = record { leads = found_other s at end i _ o is id from to e within 0 k other refl place.leads; started = place.started }

pub ruleset founds = (place_start, place_none, place_payload, place_fault, place_below, place_less, place_faulty, place_correction, place_other)
