-- The laws of elements that lie inside a frame: the test and the facts say the same, and each way out of the test as code meets it.
-- Assumes nothing.
use Prim.Native.Nat.{ℕ, ◌+◌, ◌-◌, ◌*◌, ◌/◌, ◌%◌, ◌<◌, ◌≤◌}
use mathlib.Core.Path.{◌≡◌, refl, sym}
use mathlib.Core.Bool.{Bool, true, false, ◌&&◌, ◌||◌, and-eq-true_iff, false≢true}
use mathlib.Core.List.{List}
use mathlib.Core.Logic.{inl, inr}
use native.Mathlib.Omega.{arith}
use borrow.Author.Tests.{lt-leb, le-leb, eqb-true}
use lib.Dec.{eqb, leb}
use lib.ListN.{length, get_or}
use Rattle.octets_spec.specs.Choice.{if_lt}
use Rattle.octets_spec.proofs.ChoiceLaws.{if_lt_lem, if_ge, if_eq_lem, if_ne_lem, was_ge, by_test, either_lt, choices}
use Rattle.ie_walk_spec.specs.declared.Walk.{Walk}
use Rattle.eb_read_spec.specs.Inside.{bytes_inside, is_timeslot_length, timeslot_inside, slotframe_inside, is_joining_length, joining_inside, lies_inside, TimeslotLength, JoiningInside, ElementsInside}
use Rattle.eb_read_spec.proofs.Each.{each_lt, each_eq}

-- ---- from the test to the facts
bytes_fit : (s : List ℕ) (at size : ℕ) → bytes_inside s at size ≡ true → at + size ≤ length s
unfolding bytes_inside
bytes_fit s at size e = (was_ge _ _ _ _ _ e false≢true).0

length_known : (n : ℕ) → is_timeslot_length n ≡ true → TimeslotLength n
unfolding is_timeslot_length
length_known n e =
    by_test (eqb n 25) (λ t. inl (eqb-true n 25 t)) (λ not-25. by_test (eqb n 27) (λ t. inr (inl (eqb-true n 27 t))) (λ not-27. inr (inr (eqb-true n 1 (rw (not-25, not-27) at e)))))

timeslot_fits : (s : List ℕ) (at to : ℕ) → timeslot_inside s at to ≡ true → (to ≤ length s) × TimeslotLength (to - at)
unfolding timeslot_inside
timeslot_fits s at to e = let ends = was_ge _ _ _ _ _ e false≢true in (ends.0, length_known _ ends.1)

slotframe_fits_lem : (s : List ℕ) (at : ℕ) → slotframe_inside s at ≡ true → (get_or s (at + 4) 0 ≤ 16) × (at + (5 + 5 * get_or s (at + 4) 0) ≤ length s)
unfolding slotframe_inside
slotframe_fits_lem s at e = let few = was_ge _ _ _ _ _ e false≢true in (few.0, bytes_fit s at _ few.1)

joining_fits_lem : (s : List ℕ) (at to : ℕ) → joining_inside s at to ≡ true → (at ≡ 0 → ⊥) → JoiningInside s at to
unfolding joining_inside is_joining_length
joining_fits_lem s at to =
    each_eq (λ (r : Bool). r ≡ true → (at ≡ 0 → ⊥) → JoiningInside s at to) _ _ _ _ (λ none e some. absurd (some none))
    (λ there e some.
    let ends = was_ge _ _ _ _ _ e false≢true in
    let least = was_ge _ _ _ _ _ ends.1 false≢true in
    let most = was_ge _ _ _ _ _ least.1 false≢true in
    record { least = omega (arith, least.0); most = omega (arith, most.0); inside = ends.0 })

module _ (s : List ℕ) (walk : Walk) where
  pub inside_facts : lies_inside s walk ≡ true → ElementsInside s walk
  unfolding lies_inside
  inside_facts e =
      let synchronization = (and-eq-true_iff (bytes_inside s walk.synchronization 6) _).0 e in
      let timeslot = (and-eq-true_iff (timeslot_inside s walk.timeslot walk.timeslotend) _).0 synchronization.1 in
      let hopping = (and-eq-true_iff (bytes_inside s walk.hopping 1) _).0 timeslot.1 in
      let slotframe = (and-eq-true_iff (slotframe_inside s walk.slotframe) _).0 hopping.1 in
      let template = timeslot_fits s walk.timeslot walk.timeslotend timeslot.0 in
      let links = slotframe_fits_lem s walk.slotframe slotframe.0 in
      record {
        synchronization = bytes_fit s walk.synchronization 6 synchronization.0;
        timeslot = template.1;
        timeslotend = template.0;
        hopping = omega (arith, bytes_fit s walk.hopping 1 hopping.0);
        slotframe = links.1;
        few = links.0;
        joining = joining_fits_lem s walk.joining walk.joiningend slotframe.1;
      }

-- ---- from the facts to the test
fits_bytes : (s : List ℕ) (at size : ℕ) → at + size ≤ length s → bytes_inside s at size ≡ true
unfolding bytes_inside
fits_bytes s at size h = sym (if_ge _ _ _ _ h refl)

long_enough : (n : ℕ) → TimeslotLength n → is_timeslot_length n ≡ true
unfolding is_timeslot_length
long_enough n (inl e) = rw e refl
long_enough n (inr (inl e)) = rw e refl
long_enough n (inr (inr e)) = rw e refl

fits_timeslot : (s : List ℕ) (at to : ℕ) → to ≤ length s → TimeslotLength (to - at) → timeslot_inside s at to ≡ true
unfolding timeslot_inside
fits_timeslot s at to h long = sym (if_ge _ _ _ _ h (sym (long_enough _ long)))

fits_slotframe : (s : List ℕ) (at : ℕ) → get_or s (at + 4) 0 ≤ 16 → at + (5 + 5 * get_or s (at + 4) 0) ≤ length s → slotframe_inside s at ≡ true
unfolding slotframe_inside
fits_slotframe s at few h = sym (if_ge _ _ _ _ few (sym (fits_bytes s at _ h)))

fits_joining : (s : List ℕ) (at to : ℕ) → ((at ≡ 0 → ⊥) → JoiningInside s at to) → joining_inside s at to ≡ true
unfolding joining_inside is_joining_length
fits_joining s at to h =
    each_eq (λ (r : Bool). r ≡ true) _ _ _ _ (λ none. refl)
    (λ some. let j = h some in sym (if_ge _ _ _ _ j.inside (if_ge _ _ _ _ (omega (arith, j.least)) (if_ge _ _ _ _ (omega (arith, j.most)) refl))))

pub facts_inside : (s : List ℕ) (walk : Walk) → ElementsInside s walk → lies_inside s walk ≡ true
unfolding lies_inside
facts_inside s walk h =
    rw (fits_bytes s walk.synchronization 6 h.synchronization, fits_timeslot s walk.timeslot walk.timeslotend h.timeslotend h.timeslot, fits_bytes s walk.hopping 1 (omega (arith, h.hopping)), fits_slotframe s walk.slotframe h.few h.slotframe, fits_joining s walk.joining walk.joiningend h.joining) refl

-- ---- the test as code makes it
module _ (s : List ℕ) (at size : ℕ) where
  pub starts_behind : length s < at → leb at (length s) ≡ bytes_inside s at size
  unfolding bytes_inside
  starts_behind h = if_lt_lem _ _ _ _ (omega arith) (lt-leb _ _ h)

  pub starts_inside : at ≤ length s → leb size (length s - at) ≡ bytes_inside s at size
  unfolding bytes_inside
  starts_inside h = each_lt (λ (r : Bool). leb size (length s - at) ≡ r) _ _ _ _ (λ over. lt-leb _ _ (omega arith)) (λ within. le-leb _ _ (omega arith))

module _ (s : List ℕ) (at : ℕ) where
  pub slotframe_behind : length s < at → false ≡ slotframe_inside s at
  unfolding slotframe_inside bytes_inside
  slotframe_behind h = either_lt (λ (r : Bool). false ≡ r) _ _ refl (if_lt_lem _ _ _ _ (omega arith) refl) _ _

  module _ (links : ℕ) (e : links ≡ get_or s (at + 4) 0) where
    pub links_many : 16 < links → leb links 16 ≡ slotframe_inside s at
    unfolding slotframe_inside
    links_many h = if_lt_lem _ _ _ _ (omega arith) (lt-leb _ _ h)

    pub links_few : (r : Bool) → links ≤ 16 → r ≡ bytes_inside s at (5 + 5 * links) → r ≡ slotframe_inside s at
    unfolding slotframe_inside
    links_few r h f = if_ge _ _ _ _ (omega arith) (rw e at f)

-- at most a number, as a choice
at_most : (a b : ℕ) (rest : Bool) → leb a b && rest ≡ if_lt b a false rest
at_most a b rest = each_lt (λ (r : Bool). leb a b && rest ≡ r) _ _ _ _ (λ over. rw (lt-leb a b over) refl) (λ within. rw (le-leb a b within) refl)

at_most_last : (a b : ℕ) → leb a b ≡ if_lt b a false true
at_most_last a b = each_lt (λ (r : Bool). leb a b ≡ r) _ _ _ _ (λ over. lt-leb a b over) (λ within. le-leb a b within)

module _ (s : List ℕ) (at to size : ℕ) (e : size ≡ to - at) where
  pub timeslot_there : leb to (length s) && (eqb size 25 || (eqb size 27 || eqb size 1)) ≡ timeslot_inside s at to
  unfolding timeslot_inside is_timeslot_length
  timeslot_there = rw e (at_most to (length s) _)

  pub joining_there : (byte : ℕ) → (at ≡ 0 → ⊥) → byte ≡ get_or s at 0 → leb to (length s) && (leb (4 + 8 * (byte / 64 % 2)) size && leb size (4 + 8 * (byte / 64 % 2) + 16)) ≡ joining_inside s at to
  unfolding joining_inside is_joining_length
  joining_there byte some f = if_ne_lem _ _ _ _ some (rw (e, f, at_most_last (to - at) (4 + 8 * (get_or s at 0 / 64 % 2) + 16), at_most (4 + 8 * (get_or s at 0 / 64 % 2)) (to - at) _) (at_most to (length s) _))

pub joining_nowhere : (s : List ℕ) (at to : ℕ) → at ≡ 0 → true ≡ joining_inside s at to
unfolding joining_inside
joining_nowhere s at to h = if_eq_lem _ _ _ _ h refl

-- all of them
pub all_inside : (s : List ℕ) (walk : Walk) (synchronization timeslot hopping slotframe joining : Bool) → synchronization ≡ bytes_inside s walk.synchronization 6 → timeslot ≡ timeslot_inside s walk.timeslot walk.timeslotend
    → hopping ≡ bytes_inside s walk.hopping 1 → slotframe ≡ slotframe_inside s walk.slotframe → joining ≡ joining_inside s walk.joining walk.joiningend
    → synchronization && (timeslot && (hopping && (slotframe && joining))) ≡ lies_inside s walk
unfolding lies_inside
all_inside s walk synchronization timeslot hopping slotframe joining e f g h k = rw (e, f, g, h, k)

pub ruleset inside = (choices, starts_behind, starts_inside, slotframe_behind, links_many, links_few, timeslot_there, joining_nowhere, joining_there, all_inside)
