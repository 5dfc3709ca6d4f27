-- The laws of the list of fields by place: each element's fields among all of them, and the rows of timings and links. Assumes nothing.
use Prim.Native.Nat.{ℕ, zero, suc, ◌+◌, ◌-◌, ◌/◌, ◌%◌, ◌<◌, ◌≤◌}
use mathlib.Core.Path.{◌≡◌, sym, ◌∙◌, ap}
use mathlib.Core.List.{List, [], ◌∷◌, ◌++◌}
use native.Mathlib.Nat.{add-zero}
use native.Mathlib.Omega.{arith}
use lib.ListN.{length, get_or, get_or-append}
use lib.Seq.{get_or-append-add}
use Rattle.eb_fields_spec.specs.declared.Content.{Content}
use Rattle.eb_record_spec.specs.declared.TimeslotTemplate.{TimeslotTemplate}
use Rattle.eb_record_spec.specs.declared.Slotframe.{Slotframe}
use Rattle.eb_record_spec.specs.declared.Beacon.{Beacon}
use Rattle.eb_fields_spec.specs.Fields.{Field, row, no_field, header_fields, synchronization_fields, timeslot_fields, hopping_fields, slotframe_fields, joining_fields, timing_content, timing_fields, link_at, link_content, link_fields, fields, content_at}
use Rattle.eb_fields_spec.specs.Names.{link_timeslot_name, link_offset_name, link_options_name, link_field_name}

-- ---- the last arm of a match, which is taken if the place is none of those before
up : (i k : ℕ) → k ≤ i → (i ≡ k → ⊥) → suc k ≤ i
up i k h other = omega (arith, h, other)

module _ (i : ℕ) (not_0 : i ≡ 0 → ⊥) (not_1 : i ≡ 1 → ⊥) where
  pub from_2 : 2 ≤ i
  from_2 = up i 1 (up i 0 (omega arith) not_0) not_1

  module _ (not_2 : i ≡ 2 → ⊥) where
    pub from_3 : 3 ≤ i
    from_3 = up i 2 from_2 not_2

    module _ (not_3 : i ≡ 3 → ⊥) (not_4 : i ≡ 4 → ⊥) (not_5 : i ≡ 5 → ⊥) (not_6 : i ≡ 6 → ⊥) where
      pub from_7 : 7 ≤ i
      from_7 = up i 6 (up i 5 (up i 4 (up i 3 from_3 not_3) not_4) not_5) not_6

      pub from_12 : (i ≡ 7 → ⊥) → (i ≡ 8 → ⊥) → (i ≡ 9 → ⊥) → (i ≡ 10 → ⊥) → (i ≡ 11 → ⊥) → 12 ≤ i
      from_12 not-7 not_8 not-9 not-10 not-11 = up i 11 (up i 10 (up i 9 (up i 8 (up i 7 from_7 not-7) not_8) not-9) not-10) not-11

-- a place that is not among the first three
pub three_on : (i : ℕ) → 3 ≤ i → i ≡ suc (suc (suc (i - 3)))
three_on i h = omega (arith, h)

-- ---- two lists of fields, one behind the other
module _ (xs ys : List Field) where
  in_front_lem : (i : ℕ) → i < length xs → get_or (xs ++ ys) i no_field ≡ get_or xs i no_field
  in_front_lem i h = get_or-append xs ys no_field i h

  behind : (i j : ℕ) → i ≡ length xs + j → get_or (xs ++ ys) i no_field ≡ get_or ys j no_field
  behind i j e = rw e (get_or-append-add xs ys j no_field)

-- ---- the fields of each element among all fields
module _ (b : Beacon) (i : ℕ) where
  abbrev header : List Field
  header = header_fields b.sequence b.pan b.source

  abbrev synchronization : List Field
  synchronization = synchronization_fields b.synchronization

  abbrev timeslot : List Field
  timeslot = timeslot_fields b.timeslot

  abbrev hopping : List Field
  hopping = hopping_fields b.hopping

  abbrev slotframe : List Field
  slotframe = slotframe_fields b.slotframe

  abbrev joining : List Field
  joining = joining_fields b.joining

  -- what stands behind each of them
  abbrev rest_4 : List Field
  rest_4 = slotframe ++ joining

  abbrev rest_3 : List Field
  rest_3 = hopping ++ rest_4

  abbrev rest_2 : List Field
  rest_2 = timeslot ++ rest_3

  abbrev rest_1 : List Field
  rest_1 = synchronization ++ rest_2

  pub of_header : i < 3 → get_or (fields b) i no_field ≡ get_or header i no_field
  unfolding fields
  of_header h = in_front_lem header rest_1 i h

  past_header : 3 ≤ i → get_or (fields b) i no_field ≡ get_or rest_1 (i - 3) no_field
  unfolding fields
  past_header h = behind header rest_1 i (i - 3) (omega (arith, h))

  pub of_synchronization : 3 ≤ i → i < 5 → get_or (fields b) i no_field ≡ get_or synchronization (i - 3) no_field
  of_synchronization h l = past_header h ∙ in_front_lem synchronization rest_2 (i - 3) (omega (arith, h, l))

  past_synchronization : 5 ≤ i → get_or (fields b) i no_field ≡ get_or rest_2 (i - 5) no_field
  past_synchronization h = past_header (omega (arith, h)) ∙ behind synchronization rest_2 (i - 3) (i - 5) (omega (arith, h))

  pub of_timeslot : 5 ≤ i → i < 18 → get_or (fields b) i no_field ≡ get_or timeslot (i - 5) no_field
  of_timeslot h l = past_synchronization h ∙ in_front_lem timeslot rest_3 (i - 5) (omega (arith, h, l))

  past_timeslot : 18 ≤ i → get_or (fields b) i no_field ≡ get_or rest_3 (i - 18) no_field
  past_timeslot h = past_synchronization (omega (arith, h)) ∙ behind timeslot rest_3 (i - 5) (i - 18) (omega (arith, h))

  pub of_hopping : 18 ≤ i → i < 19 → get_or (fields b) i no_field ≡ get_or hopping (i - 18) no_field
  of_hopping h l = past_timeslot h ∙ in_front_lem hopping rest_4 (i - 18) (omega (arith, h, l))

  past_hopping : 19 ≤ i → get_or (fields b) i no_field ≡ get_or rest_4 (i - 19) no_field
  past_hopping h = past_timeslot (omega (arith, h)) ∙ behind hopping rest_4 (i - 18) (i - 19) (omega (arith, h))

  pub of_slotframe : 19 ≤ i → i < 70 → get_or (fields b) i no_field ≡ get_or slotframe (i - 19) no_field
  of_slotframe h l = past_hopping h ∙ in_front_lem slotframe joining (i - 19) (omega (arith, h, l))

  pub of_joining : 70 ≤ i → get_or (fields b) i no_field ≡ get_or joining (i - 70) no_field
  of_joining h = past_hopping (omega (arith, h)) ∙ behind slotframe joining (i - 19) (i - 70) (omega (arith, h))

-- ---- the rows of timings
pub timing_at_lem : (t : TimeslotTemplate) (place : ℕ) (names : List (List ℕ)) (i : ℕ) → i < length names → get_or (timing_fields t place names) i no_field ≡ row (get_or names i []) (timing_content t (place + i))
timing_at_lem t place [] i h = absurd (omega (arith, h))
timing_at_lem t place (name ∷ names) zero h = ap (λ (k : ℕ). row name (timing_content t k)) (sym (add-zero place))
timing_at_lem t place (name ∷ names) (suc i) h =
    let same : suc place + i ≡ place + suc i = omega arith in
    rw (← same) (timing_at_lem t (suc place) names i (omega (arith, h)))

-- ---- the rows of links
-- the row of a place's first, second or third number
abbrev pub row_of_link : Slotframe → ℕ → ℕ → Field
row_of_link f place zero = row (link_field_name place link_timeslot_name) (link_content f place (link_at f place).timeslot)
row_of_link f place (suc zero) = row (link_field_name place link_offset_name) (link_content f place (link_at f place).channel_offset)
row_of_link f place (suc (suc part)) = row (link_field_name place link_options_name) (link_content f place (link_at f place).options)

pub link_at_lem : (f : Slotframe) (place places i : ℕ) → i / 3 < places → get_or (link_fields f place places) i no_field ≡ row_of_link f (place + i / 3) (i % 3)
link_at_lem f place zero i h = absurd (omega (arith, h))
link_at_lem f place (suc places) zero h = ap (λ (k : ℕ). row_of_link f k 0) (sym (add-zero place))
link_at_lem f place (suc places) (suc zero) h = ap (λ (k : ℕ). row_of_link f k 1) (sym (add-zero place))
link_at_lem f place (suc places) (suc (suc zero)) h = ap (λ (k : ℕ). row_of_link f k 2) (sym (add-zero place))
link_at_lem f place (suc places) (suc (suc (suc i))) h =
    let whole : place + suc (suc (suc i)) / 3 ≡ suc place + i / 3 = omega arith in
    let part : suc (suc (suc i)) % 3 ≡ i % 3 = omega arith in
    rw (whole, part) (link_at_lem f (suc place) places i (omega (arith, h)))

-- ---- the fields of a record that is known by another name
pub of_record : (r : Content) (x b : Beacon) (i : ℕ) → x ≡ b → r ≡ content_at x i → r ≡ content_at b i
of_record r x b i e h = rw (← e) h
