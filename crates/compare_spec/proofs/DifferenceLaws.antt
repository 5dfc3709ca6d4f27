-- The list of differences: a row is kept if its contents are not the same, and else left; so every entry is a difference, none is left out, and
-- they stand in order. Assumes nothing.
use Prim.Native.Nat.{ℕ, suc, ◌+◌, ◌-◌, ◌<◌, ◌≤◌}
use mathlib.Core.Path.{◌≡◌, refl, sym, ◌∙◌, ap}
use mathlib.Core.Logic.{if_pos, if_neg, by_cases}
use mathlib.Core.List.Pairwise
use mathlib.Core.List.{List, [], ◌∷◌, ◌++◌, filter, filter-append, append-nil, Mem, mem-cast, mem-filter}
use native.Mathlib.Numerals.{add-one}
use native.Mathlib.Omega.{arith}
use lib.ListN.{length, get_or, take, length-take}
use lib.Seq.{take-suc, take_all}
use Rattle.octets_spec.proofs.ChoiceLaws.{by_lt}
use Rattle.eb_record_spec.specs.declared.Beacon.{Beacon}
use Rattle.eb_fields_spec.specs.Fields.{Field, fields, content_at}
use Rattle.compare_spec.specs.declared.Difference.{Difference}
use Rattle.compare_spec.specs.Decide.{Differs, differs?}
use Rattle.compare_spec.specs.Compare.{beside, differences, blank_difference}
use Rattle.compare_spec.specs.Claims.{EachDiffers, NoneIsLeftOut, InOrder}
use Rattle.compare_spec.proofs.FieldsLaws.{length_fields, no_content}
use Rattle.compare_spec.proofs.BesideLaws.{length_beside, row_at_lem, entry_mem, row_below, row_first, row_second, rows_ascend, ascending}

-- ---- one row
-- the rows that differ
abbrev pub kept : List Difference → List Difference
kept rows = filter {p = Differs} differs? rows

module _ (row : Difference) (rows : List Difference) where
  pub row_kept : Differs row → kept (row ∷ rows) ≡ row ∷ kept rows
  row_kept differs = if_pos (differs? row) differs (row ∷ kept rows) (kept rows)

  pub row_left : row.first ≡ row.second → kept (row ∷ rows) ≡ kept rows
  row_left same = if_neg (differs? row) (λ differs. differs same) (row ∷ kept rows) (kept rows)

-- rows beside themselves: none is kept
pub none_kept : (place : ℕ) (xs : List Field) → kept (beside place xs xs) ≡ []
unfolding beside
none_kept place [] = refl
none_kept place (x ∷ xs) = row_left (record { place = place; first = x.content; second = x.content }) (beside (suc place) xs xs) refl ∙ none_kept (suc place) xs

pub kept_few : (rows : List Difference) → length (kept rows) ≤ length rows
kept_few [] = omega arith
kept_few (row ∷ rows) =
    by_cases (differs? row)
    (λ differs. omega (arith, ap length (row_kept row rows differs), kept_few rows))
    (λ not. omega (arith, ap length (if_neg (differs? row) not (row ∷ kept rows) (kept rows)), kept_few rows))

-- ---- the rows of two records
abbrev pub rows : Beacon → Beacon → List Difference
rows one other = beside 0 (fields one) (fields other)

-- the row at a place
abbrev pub row_of : Beacon → Beacon → ℕ → Difference
row_of one other place = record { place = place; first = content_at one place; second = content_at other place }

module _ (one other : Beacon) where
  pub length_rows : length (rows one other) ≡ 77
  length_rows = length_beside 0 (fields one) (fields other) (length_fields one ∙ sym (length_fields other)) ∙ length_fields one

  pub row_is : (blank : Difference) (place : ℕ) → place < 77 → get_or (rows one other) place blank ≡ row_of one other place
  unfolding content_at
  row_is blank place inside =
      let e : 0 + place ≡ place = omega arith in
      rw e at (row_at_lem blank 0 (fields one) (fields other) place (omega (arith, length_fields one)) (omega (arith, length_fields other)))

  pub row_mem : (place : ℕ) → place < 77 → Mem (row_of one other place) (rows one other)
  row_mem place inside = mem-cast (sym (row_is blank_difference place inside)) (entry_mem blank_difference (rows one other) place (omega (arith, length_rows)))

  pub few_differences : length (differences one other) ≤ 77
  unfolding differences
  few_differences = omega (arith, kept_few (rows one other), length_rows)

  -- ---- the list up to a place, as a loop makes it
  abbrev pub found : ℕ → List Difference
  found place = kept (take place (rows one other))

  module _ (place : ℕ) (inside : place < 77) where
    found_next : found (place + 1) ≡ found place ++ kept (row_of one other place ∷ [])
    found_next =
        rw (add-one place)
        (ap kept (take-suc (rows one other) place blank_difference (omega (arith, length_rows)))
        ∙ (filter-append differs? (take place (rows one other)) (get_or (rows one other) place blank_difference ∷ []) ∙ ap (λ (row : Difference). found place ++ kept (row ∷ [])) (row_is blank_difference place inside)))

    pub found_kept : (content_at one place ≡ content_at other place → ⊥) → found (place + 1) ≡ found place ++ (row_of one other place ∷ [])
    found_kept differs = found_next ∙ ap (λ (last : List Difference). found place ++ last) (row_kept (row_of one other place) [] differs)

    pub found_left : content_at one place ≡ content_at other place → found (place + 1) ≡ found place
    found_left same = found_next ∙ (ap (λ (last : List Difference). found place ++ last) (row_left (row_of one other place) [] same) ∙ append-nil (found place))

  pub found_few : (place : ℕ) → length (found place) ≤ place
  found_few place = omega (arith, kept_few (take place (rows one other)), length-take place (rows one other))

  pub found_all : found 77 ≡ differences one other
  unfolding differences
  found_all = ap kept (take_all 77 (rows one other) (omega (arith, length_rows)))

-- ---- what is claimed of the list
pub each_differs : EachDiffers
unfolding differences content_at
each_differs one other d m =
    let is = (mem-filter differs? {l = rows one other} {x = d}).0 m in
    let e : d.place - 0 ≡ d.place = omega arith in
    (rw e at (row_first d 0 (fields one) (fields other) is.0), rw e at (row_second d 0 (fields one) (fields other) is.0), is.1)

-- a difference is of a field
pub place_inside : (one other : Beacon) (d : Difference) → Mem d (differences one other) → d.place < 77
unfolding differences
place_inside one other d m = omega (arith, row_below d 0 (fields one) (fields other) ((mem-filter differs? {l = rows one other} {x = d}).0 m).0, length_fields one)

-- where contents are not the same there is a field
pub differs_inside : (one other : Beacon) (place : ℕ) → (content_at one place ≡ content_at other place → ⊥) → place < 77
differs_inside one other place differs = by_lt place 77 (λ inside. inside) (λ behind. absurd (differs (no_content one place behind ∙ sym (no_content other place behind))))

pub none_is_left_out : NoneIsLeftOut
unfolding differences
none_is_left_out one other place differs = (mem-filter differs? {l = rows one other} {x = row_of one other place}).1 (row_mem one other place (differs_inside one other place differs), differs)

pub in_order : InOrder
unfolding differences
in_order one other = ascending blank_difference (differences one other) (Pairwise.filter differs? {l = rows one other} (rows_ascend 0 (fields one) (fields other)))
