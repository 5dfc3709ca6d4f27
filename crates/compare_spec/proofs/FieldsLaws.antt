-- Every list of fields has the same names and the same length. Assumes nothing.
use Prim.Native.Nat.{ℕ, ◌≤◌}
use mathlib.Core.Path.{◌≡◌, refl, sym, ◌∙◌, ap}
use mathlib.Core.List.{List, map}
use native.Mathlib.Omega.{arith}
use lib.ListN.{length, get_or, get_or-eq_default, get_or-map}
use Rattle.eb_record_spec.specs.declared.Beacon.{Beacon}
use Rattle.eb_record_spec.specs.Record.{blank_beacon}
use Rattle.eb_fields_spec.specs.Content.{absent_content}
use Rattle.eb_fields_spec.specs.Fields.{Field, no_field, fields, content_at, name_in, name_at}
use Rattle.compare_spec.specs.Claims.{NamesStandInEveryList}

pub length_fields : (beacon : Beacon) → length (fields beacon) ≡ 77
unfolding fields
length_fields beacon = refl

-- the names alone are the same list
abbrev name_of : Field → List ℕ
name_of field = field.name

names_alike : (beacon : Beacon) → map name_of (fields beacon) ≡ map name_of (fields blank_beacon)
unfolding fields
names_alike beacon = refl

names_at : (beacon : Beacon) (place : ℕ) → get_or (map name_of (fields beacon)) place (name_of no_field) ≡ name_in (fields beacon) place
names_at beacon place = get_or-map name_of (fields beacon) place no_field

pub names_stand_in_every_list : NamesStandInEveryList
unfolding name_at
names_stand_in_every_list beacon =
    (length_fields beacon, λ place. sym (names_at beacon place) ∙ (ap (λ (names : List (List ℕ)). get_or names place (name_of no_field)) (names_alike beacon) ∙ names_at blank_beacon place))

-- behind the last field there is none
pub no_content : (beacon : Beacon) (place : ℕ) → 77 ≤ place → content_at beacon place ≡ absent_content
unfolding content_at
no_content beacon place behind = ap (λ (field : Field). field.content) (get_or-eq_default (fields beacon) no_field (omega (arith, length_fields beacon)))
