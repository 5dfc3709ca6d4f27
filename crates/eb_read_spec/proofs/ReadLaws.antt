-- The laws of reading, in the shape in which the code meets them. Assumes nothing.
use Prim.Native.Nat.{ℕ, ◌+◌, ◌≤◌}
use mathlib.Core.Path.{◌≡◌, refl, ap, ◌∙◌}
use mathlib.Core.Bool.{Bool, true, false, cond, ◌||◌}
use mathlib.Core.List.{List}
use lib.Dec.{eqb}
use Rattle.octets_spec.specs.Choice.{if_eq}
use Rattle.octets_spec.proofs.ChoiceLaws.{if_eq_lem, if_ne_lem}
use Rattle.std.specs.Prelude.{Result, Ok, Err}
use Rattle.std.specs.Result.{IsErrAnd}
use Rattle.refusal.specs.Refusal.{number_of}
use Rattle.refusal.specs.declared.Refusal.{Refusal}
use Rattle.refusal.specs.declared.Refusal.TheVariants.{FrameTooLong, Cut, WrongType, Secured, Addressing, Shape, MissingOrTwice, OutOfLimits, BufferTooShort, UnknownNeighbour, TableFull}
use Rattle.eb_record_spec.specs.Record.{blank_beacon}
use Rattle.eb_record_spec.specs.declared.Beacon.{Beacon}
use Rattle.mac_header_spec.specs.Fields.{mac_header_of}
use Rattle.mac_header_spec.proofs.ControlLaws.{starts_are, ends_are}
use Rattle.ie_walk_spec.specs.Walk.{blank_walk, besides, header_list, skipped_over, payload_list}
use Rattle.ie_walk_spec.specs.declared.Walk.{Walk}
use Rattle.ie_walk_spec.specs.declared.HeaderListEnd.{HeaderListEnd}
use Rattle.eb_read_spec.specs.Policy.{mac_header_fault}
use Rattle.eb_read_spec.specs.Decode.{decoded}
use Rattle.eb_read_spec.specs.Read.{walk_start, skipped_before, behind_header, elements_walk, missing, walk_number, examination_of, examined, accepted_walk, answer_of, read_frame}
use Rattle.eb_read_spec.specs.Read.{Examination}
use Rattle.eb_read_spec.proofs.Skipped.{head_counts, counts_fit}
use Rattle.eb_read_spec.proofs.Numbers.{at_most_8, elements_small, late_small}

pub heads : (blank : Walk) (head : HeaderListEnd) → blank ≡ blank_walk → besides blank head.fault head.faulty head.skipped ≡ walk_start head
unfolding walk_start
heads blank head e = rw e

pub behinds : (count : ℕ) (w : Walk) → besides w w.fault w.faulty (count + w.skipped) ≡ skipped_before count w
unfolding skipped_before
behinds count w = refl

-- ---- the elements
module _ (s : List ℕ) (end : ℕ) (head : HeaderListEnd) where
  pub header_faulty : (start : Walk) → start ≡ walk_start head → (head.fault ≡ 0 → ⊥) → start ≡ behind_header s head end
  unfolding behind_header
  header_faulty start b bad = if_ne_lem _ _ _ _ bad b

  module _ (good : head.fault ≡ 0) where
    pub header_only : (start : Walk) → start ≡ walk_start head → head.payload ≡ 0 → start ≡ behind_header s head end
    unfolding behind_header
    header_only start b none = if_eq_lem _ _ _ _ good (if_eq_lem _ _ _ _ none b)

    pub header_and_payload : (w r : Walk) → (head.payload ≡ 0 → ⊥) → w ≡ payload_list s head.payload end → r ≡ skipped_before head.skipped w → r ≡ behind_header s head end
    unfolding behind_header
    header_and_payload w r some e f = if_eq_lem _ _ _ _ good (if_ne_lem _ _ _ _ some (rw e at f))

pub elements_are : (s : List ℕ) (at end : ℕ) (head : HeaderListEnd) (w : Walk) → head ≡ skipped_over (header_list s at end) → w ≡ behind_header s head end → w ≡ elements_walk s at end
unfolding elements_walk
elements_are s at end head w e f = rw (← e) f

pub behind_at : (s : List ℕ) (end : ℕ) (head : HeaderListEnd) (r : Walk) → end ≡ (mac_header_of s).end → r ≡ behind_header s head end → r ≡ behind_header s head (mac_header_of s).end
behind_at s end head r e f = rw e at f

pub list_at : (s : List ℕ) (at end : ℕ) (head : HeaderListEnd) → at ≡ (mac_header_of s).elements → end ≡ (mac_header_of s).end → head ≡ skipped_over (header_list s at end) → head ≡ skipped_over (header_list s (mac_header_of s).elements (mac_header_of s).end)
list_at s at end head e f g = rw (e, f) at g

pub walk_small : (s : List ℕ) (at end : ℕ) (head : HeaderListEnd) (w : Walk) → head ≡ skipped_over (header_list s at end) → w ≡ behind_header s head end → w.fault ≤ 8
walk_small s at end head w h e = rw (elements_are s at end head w h e) (at_most_8 _ (late_small (elements_walk s at end).fault (elements_small s at end)))

-- ---- a refusal has a number other than that of what is done
pub number_some : (refusal : Refusal) → number_of refusal ≡ 0 → ⊥
number_some FrameTooLong e = cc
number_some Cut e = cc
number_some WrongType e = cc
number_some Secured e = cc
number_some Addressing e = cc
number_some Shape e = cc
number_some MissingOrTwice e = cc
number_some OutOfLimits e = cc
number_some BufferTooShort e = cc
number_some UnknownNeighbour e = cc
number_some TableFull e = cc

-- ---- the number and the record
-- four tests in a row with one answer are one test
row : {A : Type 0} (x y : A) (a b c d : Bool) → cond (a || (b || (c || d))) x y ≡ cond a x (cond b x (cond c x (cond d x y)))
row x y true b c d = refl
row x y false true c d = refl
row x y false false true d = refl
row x y false false false d = refl

module _ (w : Walk) where
  missing_is : cond (eqb w.synchronization 0 || (eqb w.timeslot 0 || (eqb w.hopping 0 || eqb w.slotframe 0))) 7 0 ≡ missing w
  unfolding missing if_eq
  missing_is = row 7 0 (eqb w.synchronization 0) (eqb w.timeslot 0) (eqb w.hopping 0) (eqb w.slotframe 0)

  pub some_missing : (eqb w.synchronization 0 || (eqb w.timeslot 0 || (eqb w.hopping 0 || eqb w.slotframe 0))) ≡ true → 7 ≡ missing w
  some_missing t = rw t at missing_is

  pub none_missing : (eqb w.synchronization 0 || (eqb w.timeslot 0 || (eqb w.hopping 0 || eqb w.slotframe 0))) ≡ false → 0 ≡ missing w
  none_missing t = rw t at missing_is

  pub faulty : (n : ℕ) → n ≡ w.fault → (n ≡ 0 → ⊥) → n ≡ walk_number w
  unfolding walk_number
  faulty n e h = e ∙ if_ne_lem _ _ _ _ (λ z. h (e ∙ z)) refl

  pub faultless : (n : ℕ) → w.fault ≡ 0 → n ≡ missing w → n ≡ walk_number w
  unfolding walk_number
  faultless n h e = if_eq_lem _ _ _ _ h e

module _ (s : List ℕ) (fault : ℕ) (f : fault ≡ mac_header_fault s) where
  pub examined_mac_header : (w : Walk) → (fault ≡ 0 → ⊥) → w ≡ blank_walk → record { number = fault; walk = w } ≡ examined s
  unfolding examined
  examined_mac_header w bad e = rw (← f) (if_ne_lem _ _ fault 0 bad (rw e))

  pub examined_walk : (w : Walk) (n : ℕ) → fault ≡ 0 → w ≡ elements_walk s (mac_header_of s).elements (mac_header_of s).end → n ≡ walk_number w → record { number = n; walk = w } ≡ examined s
  unfolding examined
  examined_walk w n good e k = rw (← f) (if_eq_lem _ _ fault 0 good (rw (k, e)))

  -- the walk of an accepted frame
  pub unexamined : (w : Walk) → (fault ≡ 0 → ⊥) → w ≡ blank_walk → w ≡ accepted_walk s
  unfolding accepted_walk
  unexamined w bad e = rw (← examined_mac_header w bad e) (if_ne_lem _ _ fault 0 bad e)

  module _ (w : Walk) (n : ℕ) (good : fault ≡ 0) (e : w ≡ elements_walk s (mac_header_of s).elements (mac_header_of s).end) (k : n ≡ walk_number w) where
    pub refused_walk : (b : Walk) → (n ≡ 0 → ⊥) → b ≡ blank_walk → b ≡ accepted_walk s
    unfolding accepted_walk
    refused_walk b bad h = rw (← examined_walk w n good e k) (if_ne_lem _ _ n 0 bad h)

    pub accepted_walk_lem : n ≡ 0 → w ≡ accepted_walk s
    unfolding accepted_walk
    accepted_walk_lem done = rw (← examined_walk w n good e k) (if_eq_lem _ _ n 0 done refl)

    pub number_of_walk : n ≡ (examined s).number
    number_of_walk = ap (λ (x : Examination). x.number) (examined_walk w n good e k)

  pub number_of_header : (fault ≡ 0 → ⊥) → fault ≡ (examined s).number
  number_of_header bad = ap (λ (x : Examination). x.number) (examined_mac_header blank_walk bad refl)

module _ (s : List ℕ) (x : Examination) (e : x ≡ examined s) where
  pub read_refused : (b : Beacon) → (x.number ≡ 0 → ⊥) → b ≡ blank_beacon → record { number = x.number; beacon = b } ≡ read_frame s
  unfolding read_frame
  read_refused b bad f = rw (← e) (if_ne_lem _ _ _ _ bad (rw f))

  pub read_done : (b : Beacon) → x.number ≡ 0 → b ≡ decoded s x.walk → record { number = 0; beacon = b } ≡ read_frame s
  unfolding read_frame
  read_done b good f = rw (← e) (if_eq_lem _ _ _ _ good (rw f))

-- what `?` answers of a refusal
pub passed_on : {A : Type 0} (answer : Result A Refusal) (refusal : Refusal) → IsErrAnd answer (λ e. e ≡ refusal) → answer ≡ Err refusal
passed_on (Ok value) refusal h = absurd h
passed_on (Err same) refusal h = rw h refl

-- ---- the same of what the checks answer
module _ (s : List ℕ) (verdict : Result (Unit {0}) Refusal) (walk : Walk) (is : examination_of verdict walk ≡ examined s) where
  pub examined_fault : (refusal : Refusal) → verdict ≡ Err refusal → ◌≡◌ {A = Examination} (record { number = number_of refusal; walk = walk }) (examined s)
  examined_fault refusal e = rw e at is

  pub examined_good : (u : Unit {0}) → verdict ≡ Ok u → ◌≡◌ {A = Examination} (record { number = 0; walk = walk }) (examined s)
  examined_good u e = rw e at is

  pub refusal_is : (refusal : Refusal) → verdict ≡ Err refusal → answer_of (Err refusal) ≡ read_frame s
  refusal_is refusal e = read_refused s (record { number = number_of refusal; walk = walk }) (examined_fault refusal e) blank_beacon (number_some refusal) refl

  pub refusal_passed_on : (refusal : Refusal) → verdict ≡ Err refusal → (answer : Result Beacon Refusal) → IsErrAnd answer (λ e. e ≡ refusal) → answer_of answer ≡ read_frame s
  refusal_passed_on refusal e answer h = rw (passed_on answer refusal h) (refusal_is refusal e)

pub ruleset starting = (heads, behinds)

pub ruleset following = (counts_fit, header_faulty, header_only, header_and_payload, starts_are, ends_are, behind_at, list_at)

pub ruleset judging = (number_some, some_missing, none_missing, faulty, faultless)

pub ruleset examining = (number_some, number_of_walk, number_of_header, head_counts, elements_are, walk_small, examined_mac_header, examined_walk, unexamined, refused_walk, accepted_walk_lem)
