-- Two records that can be read or written are equal exactly when their fields are, and exactly when they have no difference. Assumes nothing.
use Prim.Native.Nat.{ℕ}
use mathlib.Core.Path.{◌≡◌, sym, ◌∙◌, ap, fun_ext, subst}
use mathlib.Core.Bool.{true}
use mathlib.Core.Logic.{inl, inr, by_cases}
use mathlib.Core.List.{List, [], Mem, not-mem-nil, eq-nil_iff_forall_not-mem}
use Rattle.eb_record_spec.specs.declared.Beacon.{Beacon}
use Rattle.eb_write_spec.specs.Limits.{fits}
use Rattle.eb_fields_spec.specs.Fields.{Field, fields, content_in, content_at}
use Rattle.eb_round_trip_spec.specs.ReadBack.{Sized}
use Rattle.eb_round_trip_spec.proofs.Fitting.{within_limits}
use Rattle.eb_round_trip_spec.proofs.NotLonger.{read_sized, accepted_fits}
use Rattle.compare_spec.specs.declared.Difference.{Difference}
use Rattle.compare_spec.specs.Decide.{same?}
use Rattle.compare_spec.specs.Compare.{differences}
use Rattle.compare_spec.specs.Claims.{ReadOrWritten, SameFieldsSameRecord, NoDifferenceWhenEqual}
use Rattle.compare_spec.proofs.ToldLaws.{record_of, told}
use Rattle.compare_spec.proofs.DifferenceLaws.{row_of, each_differs, none_is_left_out}

-- ---- such a record is within the limits
within : (b : Beacon) → ReadOrWritten b → Sized b × (fits b ≡ true)
within b (inl (s, bytes, done, is)) = subst (λ (b : Beacon). Sized b × (fits b ≡ true)) is (read_sized s bytes done, accepted_fits s bytes done)
within b (inr ok) = (ok.sized, ok.within)

-- so its contents tell it
record_told : (b : Beacon) → ReadOrWritten b → record_of (content_at b) ≡ b
record_told b is = let limits = within b is in told b limits.0 (within_limits b limits.0 limits.1)

pub same_contents : (one other : Beacon) → ReadOrWritten one → ReadOrWritten other → ((place : ℕ) → content_at one place ≡ content_at other place) → one ≡ other
same_contents one other is is' same = sym (record_told one is) ∙ (ap record_of (fun_ext same) ∙ record_told other is')

pub same_fields_same_record : SameFieldsSameRecord
unfolding content_at
same_fields_same_record one other is is' = (λ same. same_contents one other is is' (λ place. ap (λ (rows : List Field). content_in rows place) same), ap fields)

-- ---- differences
-- where there is none, the contents at a place are the same
pub no_difference : (one other : Beacon) → differences one other ≡ [] → (place : ℕ) → content_at one place ≡ content_at other place
no_difference one other none place =
    by_cases (same? (content_at one place) (content_at other place)) (λ same. same)
    (λ differs. absurd (not-mem-nil (subst (λ (found : List Difference). Mem (row_of one other place) found) none (none_is_left_out one other place differs))))

equal_has_none : (one other : Beacon) → one ≡ other → differences one other ≡ []
equal_has_none one other same =
    (eq-nil_iff_forall_not-mem {l = differences one other}).1
    (λ d m. let says = each_differs one other d m in says.2 (says.0 ∙ (ap (λ (b : Beacon). content_at b d.place) same ∙ sym says.1)))

pub no_difference_when_equal : NoDifferenceWhenEqual
no_difference_when_equal one other is is' = (λ none. same_contents one other is is' (no_difference one other none), equal_has_none one other)
