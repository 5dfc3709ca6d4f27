-- Two records side by side: the fields in which they differ, and what comparing two frames answers (docs/RULES.md, Comparing two beacons).
-- Assumes nothing.
use Rattle.std.specs.Prelude.{ℕ, suc, ◌-◌, Bool, true, false, Result, Ok, Err, length, replicate}
use mathlib.Core.List.{List, [], ◌∷◌, ◌++◌, filter}
use Rattle.octets_spec.specs.Choice.{if_eq}
use Rattle.refusal.specs.Refusal.{done, number_of}
use Rattle.eb_record_spec.specs.declared.Beacon.{Beacon}
use Rattle.eb_read_spec.specs.Read.{ReadAnswer}
use Rattle.eb_fields_spec.specs.Content.{absent_content}
use Rattle.eb_fields_spec.specs.Fields.{Field, fields, field_count}
use Rattle.compare_spec.specs.declared.Difference.{Difference}
use Rattle.compare_spec.specs.declared.Differences.{Differences as DifferencesGiven}
use Rattle.compare_spec.specs.declared.Refused.{Refused}
use Rattle.compare_spec.specs.declared.Refused.TheVariants.{First, Second, Both}
use Rattle.compare_spec.specs.Decide.{Differs, differs?}

-- two lists of fields side by side, row by row, each with its place
unfoldable pub beside : ℕ → List Field → List Field → List Difference
beside place [] seconds = []
beside place (first ∷ firsts) [] = []
beside place (first ∷ firsts) (second ∷ seconds) = record { place = place; first = first.content; second = second.content } ∷ beside (suc place) firsts seconds

-- the fields in which two records differ, in order, each with both contents
unfoldable pub differences : Beacon → Beacon → List Difference
differences one other = filter {p = Differs} differs? (beside 0 (fields one) (fields other))

-- ---- the answer
-- the fields that differ, in order: the first `count` of `entries`; where there is no list, `listed` is false: that is not the list of none
pub record Differences : Type 0 where
  pub listed : Bool
  pub count : ℕ
  pub entries : List Difference

-- what comparing two frames answers: the number of each frame, and where both are 0 the list
pub record Comparison : Type 0 where
  pub first : ℕ
  pub second : ℕ
  pub differences : Differences

-- what an answer holds behind its list
abbrev pub blank_difference : Difference
blank_difference = record { place = 0; first = absent_content; second = absent_content }

-- this list, which may be the list of none
unfoldable pub list_of : List Difference → Differences
list_of found = record { listed = true; count = length found; entries = found ++ replicate (field_count - length found) blank_difference }

-- no list
unfoldable pub no_list : Differences
no_list = record { listed = false; count = 0; entries = replicate field_count blank_difference }

-- what two readings come to: both numbers, and a list if both are done
unfoldable pub compared : ReadAnswer → ReadAnswer → Comparison
compared one other = record {
  first = one.number;
  second = other.number;
  differences = if_eq one.number done (if_eq other.number done (list_of (differences one.beacon other.beacon)) no_list) no_list;
}

-- the list that is given, as the definitions have it
unfoldable pub list_in : DifferencesGiven → Differences
list_in given = record { listed = true; count = given.count; entries = given.entries }

-- what is answered: a list where both frames are done, else the number of each, which is that of what is done where it is not refused
abbrev pub comparison_of : Result DifferencesGiven Refused → Comparison
comparison_of (Ok given) = record { first = done; second = done; differences = list_in given }
comparison_of (Err (First first)) = record { first = number_of first; second = done; differences = no_list }
comparison_of (Err (Second second)) = record { first = done; second = number_of second; differences = no_list }
comparison_of (Err (Both first second)) = record { first = number_of first; second = number_of second; differences = no_list }
