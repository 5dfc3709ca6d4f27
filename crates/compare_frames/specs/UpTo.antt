-- The list of differences as the code makes it, field by field (docs/RULES.md, Comparing two beacons): up to a place, and with one field more.
-- Assumes nothing.
use Rattle.std.specs.Prelude.{ℕ, ◌+◌, take, set}
use mathlib.Core.List.{List, filter}
use Rattle.eb_record_spec.specs.declared.Beacon.{Beacon}
use Rattle.eb_fields_spec.specs.Fields.{fields}
use Rattle.compare_spec.specs.declared.Difference.{Difference}
use Rattle.compare_spec.specs.Decide.{Differs, differs?}
use Rattle.compare_spec.specs.Compare.{Differences, beside}

-- the fields before a place in which two records differ
unfoldable pub up_to : Beacon → Beacon → ℕ → List Difference
up_to one other place = filter {p = Differs} differs? (take place (beside 0 (fields one) (fields other)))

-- a list with one more field behind it
unfoldable pub with_row : Differences → Difference → Differences
with_row found row = record { listed = found.listed; count = found.count + 1; entries = set found.entries found.count row }
