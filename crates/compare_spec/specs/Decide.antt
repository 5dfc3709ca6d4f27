-- Contents that differ (docs/RULES.md, Comparing two beacons), and that this can be decided. A decision does not have to be believed: its type says
-- what it decides. Assumes nothing.
use Rattle.std.specs.Prelude.{◌≡◌, refl, ◌↔◌}
use Rattle.std.proofs.Math.Logic.Dec.{and, not, of_iff}
use mathlib.Core.List.{List-discrete}
use Rattle.std.proofs.Math.Decide.{ℕ_discrete}
use Rattle.eb_fields_spec.specs.declared.Content.{Content}
use Rattle.compare_spec.specs.declared.Difference.{Difference}

-- contents that are not the same
abbrev pub Differs : Difference → Type 0
Differs difference = difference.first ≡ difference.second → ⊥

-- two contents are the same exactly when all of their parts are
abbrev pub SameParts : Content → Content → Type 0
SameParts one other = (one.kind ≡ other.kind) × ((one.length ≡ other.length) × ((one.number ≡ other.number) × (one.octets ≡ other.octets)))

pub same_parts : (one other : Content) → SameParts one other ↔ (one ≡ other)
same_parts one other =
    (λ parts i. record { kind = parts.0 i; length = parts.1.0 i; number = parts.1.1.0 i; octets = parts.1.1.1 i }, λ same. rw same (refl, (refl, (refl, refl))))

-- two contents are the same or not
unfoldable pub same? : (one other : Content) → Dec (one ≡ other)
same? one other =
    of_iff (same_parts one other)
    (and (ℕ_discrete one.kind other.kind) (and (ℕ_discrete one.length other.length) (and (ℕ_discrete one.number other.number) (List-discrete ℕ_discrete one.octets other.octets))))

-- a field differs or not
unfoldable pub differs? : (difference : Difference) → Dec (Differs difference)
differs? difference = not (same? difference.first difference.second)
