-- The laws of the list of differences as the code makes it: its start, each field, its end, and the answer. Assumes nothing.
use Prim.Native.Nat.{ℕ, suc, ◌+◌, ◌-◌, ◌<◌, ◌≤◌}
use mathlib.Core.Path.{◌≡◌, refl, sym, ◌∙◌, ap}
use mathlib.Core.Bool.{Bool, true, false}
use mathlib.Core.List.{List, [], ◌∷◌, ◌++◌}
use native.Mathlib.Omega.{arith}
use lib.ListN.{length, set, replicate, take, length-append}
use lib.Seq.{set_at, append_snoc, take-append_seam}
use Rattle.std.specs.Prelude.{Result, Ok, Err}
use Rattle.refusal.specs.declared.Refusal.{Refusal}
use Rattle.eb_record_spec.specs.declared.Beacon.{Beacon}
use Rattle.eb_fields.specs.Same.{TellsSame}
use Rattle.eb_fields_spec.specs.declared.Content.{Content}
use Rattle.eb_fields_spec.specs.Content.{absent_content}
use Rattle.eb_fields_spec.specs.Fields.{content_at}
use Rattle.compare_spec.specs.declared.Difference.{Difference}
use Rattle.compare_spec.specs.declared.Differences.{Differences as DifferencesGiven}
use Rattle.compare_spec.specs.declared.Refused.{Refused}
use Rattle.compare_spec.specs.declared.Refused.TheVariants.{First, Second, Both}
use Rattle.compare_spec.specs.Compare.{Differences, differences, blank_difference, list_of, no_list, compared, list_in, comparison_of}
use Rattle.compare_spec.proofs.DifferenceLaws.{found_kept, found_left, found_few, found_all, few_differences, row_of, each_differs, none_is_left_out, in_order}
use Rattle.compare_spec.proofs.Compared.{no_difference_when_equal}
use Rattle.compare_spec.proofs.AnswerLaws.{answer_listed, answer_first_refused, answer_second_refused, listed_when_both_done}
use Rattle.eb_read_spec.specs.Read.{ReadAnswer, answer_of}
use Rattle.eb_read_spec.proofs.ReadLaws.{number_some}
use Rattle.compare_frames.specs.UpTo.{up_to, with_row}

-- ---- the list begins with none
pub list_begins : (x y : Content) (one other : Beacon) → x ≡ absent_content → y ≡ absent_content → list_in (record { count = 0; entries = replicate 77 (record { place = 0; first = x; second = y }) }) ≡ list_of (up_to one other 0)
unfolding list_in list_of up_to
list_begins x y one other e f = rw (e, f) refl

-- ---- one field more
pub row_made : (found : DifferencesGiven) (row : Difference) → list_in (record { count = found.count + 1; entries = set found.entries found.count row }) ≡ with_row (list_in found) row
unfolding list_in with_row
row_made found row = refl

with_row_lem : (ds : List Difference) (row : Difference) → length ds < 77 → with_row (list_of ds) row ≡ list_of (ds ++ (row ∷ []))
unfolding with_row list_of
with_row_lem ds row few =
    let left : 77 - length ds ≡ suc (77 - suc (length ds)) = omega (arith, few) in
    let size : length (ds ++ (row ∷ [])) ≡ length ds + 1 = length-append ds (row ∷ []) in
    let less : 77 - (length ds + 1) ≡ 77 - suc (length ds) = omega arith in
    rw (left, size, less) (λ i. record { listed = true; count = length ds + 1; entries = (set_at ds blank_difference (replicate (77 - suc (length ds)) blank_difference) row (length ds) refl ∙ sym (append_snoc ds row (replicate (77 - suc (length ds)) blank_difference))) i })

module _ (found : DifferencesGiven) (one other : Beacon) (place : ℕ) (inside : place < 77) (so_far : list_in found ≡ list_of (up_to one other place)) where
  few : length (up_to one other place) < 77
  unfolding up_to
  few = omega (arith, found_few one other place, inside)

  pub room_left : found.count < 77
  unfolding list_in list_of
  room_left = let size : found.count ≡ length (up_to one other place) = ap (λ (d : Differences). d.count) so_far in rw size few

  kept : (content_at one place ≡ content_at other place → ⊥) → up_to one other (place + 1) ≡ up_to one other place ++ (row_of one other place ∷ [])
  unfolding up_to
  kept differs = found_kept one other place inside differs

  module _ (first second : Content) (told : Bool) (tells : TellsSame told first second) (first_is : first ≡ content_at one place) (second_is : second ≡ content_at other place) where
    pub field_left : told ≡ true → list_in found ≡ list_of (up_to one other (place + 1))
    unfolding up_to
    field_left same =
        let equal : content_at one place ≡ content_at other place = sym first_is ∙ (tells.yes_same same ∙ second_is) in
        so_far ∙ ap list_of (sym (found_left one other place inside equal))

    pub field_kept : (r : DifferencesGiven) → told ≡ false → list_in r ≡ with_row (list_in found) (record { place = place; first = first; second = second }) → list_in r ≡ list_of (up_to one other (place + 1))
    field_kept r not_same e =
        let row : Difference = row_of one other place in
        let differs : content_at one place ≡ content_at other place → ⊥ = λ equal. tells.no_other not_same (first_is ∙ (equal ∙ sym second_is)) in
        rw (so_far, first_is, second_is) at e ∙ with_row_lem (up_to one other place) row few ∙ ap list_of (sym (kept differs))

-- ---- the list ends with all, as the first of the entries
pub list_ends : (found : DifferencesGiven) (one other : Beacon) (place : ℕ) → place ≡ 77 → list_in found ≡ list_of (up_to one other place) → list_in found ≡ list_of (differences one other)
unfolding up_to
list_ends found one other place all so_far = rw all at so_far ∙ ap list_of (found_all one other)

pub first_entries : (found : DifferencesGiven) (one other : Beacon) → list_in found ≡ list_of (differences one other) → take found.count found.entries ≡ differences one other
unfolding list_in list_of
first_entries found one other e =
    let fields = differences one other in ap (λ (d : Differences). take d.count d.entries) e ∙ take-append_seam fields (replicate (77 - length fields) blank_difference)

pub entries_end : (found : DifferencesGiven) (one other : Beacon) (place : ℕ) → place ≡ 77 → list_in found ≡ list_of (up_to one other place) → take found.count found.entries ≡ differences one other
entries_end found one other place all so_far = first_entries found one other (list_ends found one other place all so_far)

pub entries_few : (found : DifferencesGiven) (one other : Beacon) (place : ℕ) → place ≡ 77 → list_in found ≡ list_of (up_to one other place) → found.count ≤ 77
unfolding list_in list_of
entries_few found one other place all so_far =
    let size : found.count ≡ length (differences one other) = ap (λ (d : Differences). d.count) (list_ends found one other place all so_far) in rw size (few_differences one other)

-- ---- the answer
pub both_listed : (found : DifferencesGiven) (one other : Beacon) → list_in found ≡ list_of (differences one other) → comparison_of (Ok found) ≡ compared (answer_of (Ok one)) (answer_of (Ok other))
both_listed found one other e = answer_listed (answer_of (Ok one)) (answer_of (Ok other)) (list_in found) refl refl e

module _ (refusal : Refusal) where
  pub second_refused : (one : Beacon) → comparison_of (Err (Second refusal)) ≡ compared (answer_of (Ok one)) (answer_of (Err refusal))
  second_refused one = answer_second_refused (answer_of (Ok one)) (answer_of (Err refusal)) no_list (number_some refusal) refl

  pub first_refused : (other : Beacon) → comparison_of (Err (First refusal)) ≡ compared (answer_of (Err refusal)) (answer_of (Ok other))
  first_refused other = answer_first_refused (answer_of (Err refusal)) (answer_of (Ok other)) no_list (number_some refusal) refl

  pub both_refused : (other : Refusal) → comparison_of (Err (Both refusal other)) ≡ compared (answer_of (Err refusal)) (answer_of (Err other))
  both_refused other = answer_first_refused (answer_of (Err refusal)) (answer_of (Err other)) no_list (number_some refusal) refl

-- the readings are those of the two frames
pub both_read : (r : Result DifferencesGiven Refused) (one other : Result Beacon Refusal) (a b : ReadAnswer) → answer_of one ≡ a → answer_of other ≡ b → comparison_of r ≡ compared (answer_of one) (answer_of other) → comparison_of r ≡ compared a b
both_read r one other a b e f h = rw (e, f) at h

pub ruleset comparing = (list_begins, row_made, room_left, field_left, field_kept, list_ends, entries_end, entries_few, both_listed, second_refused, first_refused, both_refused, both_read, listed_when_both_done, no_difference_when_equal, each_differs, none_is_left_out, in_order)
